-- Tests of all numbers below a bound: two tests joined, one bound after another.
use mathlib.Core.Path.{◌≡◌, refl, ap, ◌∙◌}
use mathlib.Core.Bool.{Bool, true, false, ◌&&◌, and_assoc, and-true}
use Prim.Native.Nat.{ℕ, zero, suc, ◌+◌}
use native.Mathlib.Nat.{add-zero, add-suc}
use Rattle.machine.specs.Shape.{all_below}
use Rattle.table_shape.proofs.Laws.Below.{none_below, one-tested}

and-swap : (a b c d : Bool) → (a && b) && (c && d) ≡ (a && c) && (b && d)
and-swap true true c d = refl
and-swap true false true d = refl
and-swap true false false d = refl
and-swap false b c d = refl

pub all_both : (n : ℕ) (p q : ℕ → Bool) → all_below n (λ x. p x && q x) ≡ all_below n p && all_below n q
unfolding all_below
all_both zero p q = refl
all_both (suc n) p q =
    ap (λ (b : Bool). b && (p n && q n)) (all_both n p q)
    ∙ and-swap (all_below n p) (all_below n q) (p n) (q n)

pub all-joined : (n m : ℕ) (p : ℕ → Bool) → all_below (n + m) p ≡ all_below n p && all_below m (λ x. p (n + x))
unfolding all_below
all-joined n zero p = rw (add-zero n, and-true (all_below n p))
all-joined n (suc m) p =
    rw (add-suc n m)
    (ap (λ (b : Bool). b && p (n + m)) (all-joined n m p)
    ∙ and_assoc (all_below n p) (all_below m (λ x. p (n + x))) (p (n + m)))

-- What a test of one number after another rests on.
pub ruleset testing = (none_below, one-tested)
