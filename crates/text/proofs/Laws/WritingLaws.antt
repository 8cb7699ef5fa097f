-- Texts written one after another.
use mathlib.Core.Path.{◌≡◌, refl, sym, ap, ◌∙◌}
use mathlib.Core.List.{List, ◌++◌, append_assoc, append-nil}
use Prim.Native.Nat.{ℕ, ◌+◌, ◌-◌, ◌≤◌}
use native.Mathlib.Omega.{arith}
use borrow.Rule.Slice.PartMut.{put_mid}
use lib.ListN.{length, take, drop, drop_of_length-le, length-append, length-drop}
use lib.Seq.{take_all, sets, sets-eq, drop-drop, length-sets}
use Rattle.tag.proofs.Stores.{sets-append}
use Rattle.text.specs.Writing.{Written}

-- A text, and another one at the place after it.
pub written-append : {a xs b ys c : List ℕ} {at n m : ℕ}
    → Written a at xs b n → Written b n ys c m → Written a at (xs ++ ys) c m
written-append {a} {xs} {b} {ys} {c} {at} {n} {m} w v =
    record {
      buffer = v.buffer ∙ rw (w.buffer, w.end) (sets-append xs ys a at);
      end = simp length-append (omega (arith, w.end, v.end));
    }

-- The buffer keeps its length.
pub written-long : {a xs b : List ℕ} {at n : ℕ} → Written a at xs b n → length b ≡ length a
written-long {a} {xs} {at = at} w = ap length w.buffer ∙ length-sets a at xs

-- A part of a buffer that a text was copied into.
pub part-written : (l xs : List ℕ) (at : ℕ) → at + length xs ≤ length l → {ys : List ℕ} → ys ≡ xs
    → Written l at xs (put_mid at (at + length xs - at) l ys) (at + length xs)
part-written l xs at h e =
    let n : at + length xs - at ≡ length xs = omega arith in
    let parts = sets-eq xs l at h ∙ append_assoc (take at l) xs (drop (at + length xs) l) in
    record { buffer = rw (n, e, drop-drop (length xs) at l) (sym parts); end = refl }

-- Bytes stored at the front of what is behind a place.
pub part-stored : (l xs : List ℕ) (i : ℕ) → i + length xs ≤ length l → {ys : List ℕ}
    → ys ≡ sets (take (length l - i) (drop i l)) 0 xs → put_mid i (length l - i) l ys ≡ sets l i xs
part-stored l xs i h {ys} e =
    let behind = length-drop i l in
    let all = take_all (length l - i) (drop i l) (omega arith) in
    let none = drop_of_length-le (drop i l) {i = length l - i} (omega arith) in
    let front = sets-eq xs (drop i l) 0 (omega arith) in
    let start : 0 + length xs ≡ length xs = omega arith in
    rw (e, all, none, append-nil, front, start, drop-drop (length xs) i l)
    (sym (append_assoc (take i l) xs (drop (i + length xs) l)) ∙ sym (sets-eq xs l i h))
