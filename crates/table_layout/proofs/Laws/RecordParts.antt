-- A record lent as a part of the table.
use mathlib.Core.Path.{◌≡◌, sym, ap, ◌∙◌}
use mathlib.Core.List.{List, ◌++◌, append_assoc}
use Prim.Native.Nat.{ℕ, ◌+◌, ◌-◌, ◌≤◌}
use native.Mathlib.Omega.{arith}
use lib.ListN.{length, take, drop}
use lib.Seq.{sets, sets-eq, drop-drop}
use borrow.Rule.Slice.PartMut.{mid_of, post_of, put_mid}
use Rattle.machine.specs.Tasks.{record_length}
use Rattle.machine.specs.Table.{record_from}
use Rattle.machine.proofs.Words.Stretches.{record-long}

pub record-part :
    (ws : List ℕ) {at i : ℕ} → at ≡ i → mid_of at ((at + record_length) - at) ws ≡ record_from ws i
record-part ws {at} e =
    let n : (at + record_length) - at ≡ record_length = omega arith in
    ap (λ (n : ℕ). mid_of at n ws) n ∙ ap (record_from ws) e

pub record-part-long :
    (ws : List ℕ) {at i : ℕ}
    → at ≡ i
    → i + record_length ≤ length ws
    → length (mid_of at ((at + record_length) - at) ws) ≡ record_length
record-part-long ws {i = i} e h = ap length (record-part ws e) ∙ record-long ws i h

pub record-put :
    (ws r : List ℕ) {at i : ℕ}
    → at ≡ i
    → length r ≡ record_length
    → i + record_length ≤ length ws
    → put_mid at ((at + record_length) - at) ws r ≡ sets ws i r
record-put ws r {at} {i} e long h =
    let n : (at + record_length) - at ≡ record_length = omega arith in
    let after : post_of i record_length ws ≡ drop (i + length r) ws
    = drop-drop record_length i ws ∙ ap (λ (m : ℕ). drop (i + m) ws) (sym long) in
    ap (λ (m : ℕ). put_mid at m ws r) n
    ∙ ap (λ (j : ℕ). put_mid j record_length ws r) e
    ∙ ap (λ (l : List ℕ). take i ws ++ (r ++ l)) after
    ∙ sym (append_assoc (take i ws) r (drop (i + length r) ws))
    ∙ sym (sets-eq r ws i (omega arith))
