-- A test passed by every number below a bound, one number after another.
use mathlib.Core.Path.{◌≡◌, refl, sym, ap, ◌∙◌}
use mathlib.Core.Bool.{Bool, true, false, ◌&&◌, and-false, and-true, and_assoc}
use Prim.Native.Nat.{ℕ, zero, suc, ◌+◌, ◌-◌, ◌≤◌, ◌<◌}
use native.Mathlib.Omega.{arith}
use native.Mathlib.Nat.{not-suc-le-zero, zero-add, add-zero, add-suc}
use native.Mathlib.Numerals.{add-one}
use Rattle.machine.specs.Choice.{◌≟◌}
use Rattle.machine.specs.Shape.{all_below}
use Rattle.machine.proofs.Words.LentLaws.{all_alike}
use Rattle.table_shape.specs.Promised.{all_from}

module _ (test : ℕ → Bool) where
  pub none_below : all_below 0 test ≡ true
  unfolding all_below
  none_below = refl

  pub one_more : (i : ℕ) → all_below i test ≡ true → test i ≡ true → all_below (i + 1) test ≡ true
  unfolding all_below
  one_more i a b = rw (add-one, a, b)

  pub one-fails : (n i : ℕ) → i < n → test i ≡ false → false ≡ all_below n test
  unfolding all_below
  one-fails zero i h e = absurd (not-suc-le-zero h)
  one-fails (suc n) i h e = go (i ≟ n) (λ l. one-fails n i l e)
    where
      go : Dec (i ≡ n) → (i < n → false ≡ all_below n test) → false ≡ all_below n test && test n
      go (yes q) f = rw (← q, e, and-false (all_below i test))
      go (no q) f = rw (← f (omega arith))

-- The test of all below, and of one more.
pub one-tested : (test : ℕ → Bool) (n : ℕ) {so_far now : Bool} → so_far ≡ all_below n test → now ≡ test n
    → so_far && now ≡ all_below (n + 1) test
unfolding all_below
one-tested test n e f = rw (add-one n, e, f)

-- ---- From one number up to another.
module _ (test : ℕ → Bool) where
  pub from-none : (n : ℕ) → all_from 0 n test ≡ all_below n test
  from-none n =
      let all : n - 0 ≡ n = omega arith in
      ap (λ m. all_below m (λ i. test (0 + i))) all
      ∙ all_alike n (λ i. test (0 + i)) test (λ i l. ap test (zero-add i))

  joined : (m n : ℕ) → all_below m test && all_below n (λ i. test (m + i)) ≡ all_below (m + n) test
  unfolding all_below
  joined m zero = and-true (all_below m test) ∙ ap (λ k. all_below k test) (sym (add-zero m))
  joined m (suc n) =
      sym (and_assoc (all_below m test) (all_below n (λ i. test (m + i))) (test (m + n)))
      ∙ ap (λ b. b && test (m + n)) (joined m n)
      ∙ ap (λ k. all_below k test) (sym (add-suc m n))

  -- Below k, at k, and after it.
  pub below-around : (n k : ℕ) → k < n → all_below k test && (test k && all_from (k + 1) n test) ≡ all_below n test
  unfolding all_below
  below-around n k h =
      let all : k + 1 + (n - (k + 1)) ≡ n = omega arith in
      sym (and_assoc (all_below k test) (test k) (all_from (k + 1) n test))
      ∙ ap (λ b. b && all_from (k + 1) n test) (ap (λ m. all_below m test) (sym (add-one k)))
      ∙ joined (k + 1) (n - (k + 1))
      ∙ ap (λ m. all_below m test) all

  module _ (from to k : ℕ) (begun : from ≤ k) where
    here : from + (k - from) ≡ k
    here = omega arith

    pub range-goes-on : all_from from k test ≡ true → test k ≡ true → all_from from (k + 1) test ≡ true
    range-goes-on so_far now =
        let one : k + 1 - from ≡ k - from + 1 = omega arith in
        ap (λ m. all_below m (λ i. test (from + i))) one
        ∙ one_more (λ i. test (from + i)) (k - from) so_far (ap test here ∙ now)

    pub range-fails : k < to → test k ≡ false → false ≡ all_from from to test
    range-fails h e = one-fails (λ i. test (from + i)) (to - from) (k - from) (omega arith) (ap test here ∙ e)

  pub range-begins : (from : ℕ) → all_from from from test ≡ true
  unfolding all_below
  range-begins from = let no : from - from ≡ 0 = omega arith in ap (λ m. all_below m (λ i. test (from + i))) no
