use mathlib.Core.Path.{◌≡◌, refl, sym, ap, ◌∙◌}
use mathlib.Core.List.{List, [], ◌∷◌, ◌++◌}
use Prim.Native.Nat.{ℕ, ◌+◌, ◌<◌}
use native.Mathlib.Numerals.{add-one}
use native.Mathlib.Omega.{arith}
use lib.ListN.{length, length-set, get_or, set, take}
use lib.Seq.{take_all, take-suc, take-suc-set}
use Rattle.call_snapshot.proofs.orders.copy.Goals as goal

one-copied : (from to : List ℕ) (i : ℕ) → i < length from → i < length to → take i to ≡ take i from
    → take (i + 1) (set to i (get_or from i 0)) ≡ take (i + 1) from
one-copied from to i h k e =
    rw (add-one i)
    (take-suc-set to i (get_or from i 0) k
    ∙ ap (λ (l : List ℕ). l ++ (get_or from i 0 ∷ [])) e
    ∙ sym (take-suc from i 0 h))

pub loop-i-init : goal.loop-i-init
loop-i-init c = (refl, refl)

pub loop-i-preserved : goal.loop-i-preserved
loop-i-preserved c =
    let l = c.loop-i in (
      length-set l.to l.i _ ∙ l.invariant.0,
      one-copied c.args.from.now l.to l.i (omega arith) (omega (arith, l.invariant.0, c.requires)) l.invariant.1,
    )

pub returns : goal.returns
returns c =
    let l = c.loop-i in
    let a = c.args in
    sym (take_all l.i l.to (omega (arith, l.invariant.0, c.requires)))
    ∙ l.invariant.1
    ∙ take_all l.i a.from.now (omega arith)
