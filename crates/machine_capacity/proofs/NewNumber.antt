-- A bag number that a list does not have: one of the numbers from 1 to its length and 1 more.
use mathlib.Core.Path.{◌≡◌, refl, sym, ap, ◌∙◌}
use mathlib.Core.Logic.{inl, inr}
use mathlib.Core.Bool.{Bool, true, false, cond, ◌||◌}
use mathlib.Core.List.{List, [], ◌∷◌}
use Prim.Native.Nat.{ℕ, zero, suc, ◌≤◌, ◌<◌}
use native.Mathlib.Omega.{arith}
use lib.Dec.{eqb}
use lib.ListN.{length, get_or}
use borrow.Author.Tests.{eqb-true}
use Rattle.machine.specs.Calls.{is_among}
use Rattle.machine.proofs.Basics.Contradiction.{clash, equal?}
use Rattle.machine.proofs.Linearizability.Calls.Pigeonhole.{pigeonhole}

-- The first place of a number in a list, where it is among them.
abbrev place_of : ℕ → List ℕ → ℕ
place_of n [] = 0
place_of n (b ∷ l) = cond (eqb n b) 0 (suc (place_of n l))

module _ (n : ℕ) where
  place-below : (l : List ℕ) → is_among n l ≡ true → place_of n l < length l
  place-below [] e = clash (cc)
  place-below (b ∷ l) e = go (eqb n b) e (place-below l)
    where
      go : (t : Bool) → t || is_among n l ≡ true → (is_among n l ≡ true → place_of n l < length l)
          → cond t 0 (suc (place_of n l)) < suc (length l)
      go true q r = omega arith
      go false q r = let h = r q in omega arith

  at_place : (l : List ℕ) → is_among n l ≡ true → get_or l (place_of n l) 0 ≡ n
  at_place [] e = clash (cc)
  at_place (b ∷ l) e = go (eqb n b) refl e (at_place l)
    where
      go : (t : Bool) → eqb n b ≡ t → t || is_among n l ≡ true → (is_among n l ≡ true → get_or l (place_of n l) 0 ≡ n)
          → get_or (b ∷ l) (cond t 0 (suc (place_of n l))) 0 ≡ n
      go true h q r = sym (eqb-true n b h)
      go false h q r = r q

-- Of the numbers from 1 to m one is not in the list, or all are.
data Searched (l : List ℕ) (m : ℕ) : Type 0 where
  one-new : (n : ℕ) → 1 ≤ n → n ≤ m → is_among n l ≡ false → Searched l m
  all_there : ((i : ℕ) → i < m → is_among (suc i) l ≡ true) → Searched l m

searched : (l : List ℕ) (m : ℕ) → Searched l m
searched l zero = all_there (λ i h. absurd (omega arith))
searched l (suc m) = go (searched l m) (is_among (suc m) l) refl
  where
    go : Searched l m → (b : Bool) → is_among (suc m) l ≡ b → Searched l (suc m)
    go (one-new n h i e) b q = one-new n h (omega arith) e
    go (all_there f) false q = one-new (suc m) (omega arith) (omega arith) q
    go (all_there f) true q =
        all_there (λ i h.
        elim (equal? i m) [
          | inl e ↦ ap (λ (j : ℕ). is_among (suc j) l) e ∙ q
          | inr n ↦ f i (omega arith)
        ])

-- Not all of the numbers from 1 to the length and 1 more are there: each would have a place of its own.
module _ (l : List ℕ) (there : (i : ℕ) → i < suc (length l) → is_among (suc i) l ≡ true) where
  places-apart : (i j : ℕ) → i < suc (length l) → j < suc (length l) → place_of (suc i) l ≡ place_of (suc j) l → i ≡ j
  places-apart i j hi hj e =
      let x = at_place (suc i) l (there i hi) in
      let y = at_place (suc j) l (there j hj) in
      let same = ap (λ (n : ℕ). get_or l n 0) e in
      omega arith

  too_many : ⊥
  too_many =
      let n = length l in
      let few =
      pigeonhole n (suc n) (λ i. place_of (suc i) l) (λ i h. place-below (suc i) l (there i h)) places-apart in
      omega arith

pub new-number : (l : List ℕ) → (n : ℕ) × (1 ≤ n) × (n ≤ suc (length l)) × (is_among n l ≡ false)
new-number l =
    elim (searched l (suc (length l))) [
      | one-new n h i e ↦ (n, h, i, e)
      | all_there f ↦ absurd (too_many l f)
    ]
