-- When two texts are the same.
use mathlib.Core.Bool.{Bool, true, false, ◌&&◌, and-false, and_assoc, false≢true}
use mathlib.Core.List.{List, [], ◌∷◌}
use mathlib.Core.Path.{◌≡◌, refl, sym, ap, ◌∙◌}
use Prim.Native.Nat.{ℕ, zero, suc, ◌+◌, ◌<◌}
use native.Mathlib.Nat.{zero-add, suc-add}
use native.Mathlib.Omega.{arith}
use borrow.Author.Tests.{eq-eqb, eqb-true}
use lib.Dec.{eqb}
use lib.ListN.{length, take, drop}
use lib.Seq.{take-nil}
use Rattle.tag.proofs.TagLaws.{both_true}
use Rattle.text.specs.Text.{same}

pub same-equal : (xs ys : List ℕ) → same xs ys ≡ true → xs ≡ ys
same-equal [] [] h = refl
same-equal [] (y ∷ ys) h = absurd (false≢true h)
same-equal (x ∷ xs) [] h = absurd (false≢true h)
same-equal (x ∷ xs) (y ∷ ys) h =
    let e : x ≡ y = eqb-true x y (both_true (eqb x y) (same xs ys) h).0 in
    let f : xs ≡ ys = same-equal xs ys (both_true (eqb x y) (same xs ys) h).1 in
    λ i. e i ∷ f i

pub same-itself : (l : List ℕ) → same l l ≡ true
same-itself [] = refl
same-itself (x ∷ l) = rw (eq-eqb x x refl) (same-itself l)

pub same-lengths-differ : (xs ys : List ℕ) → (length xs ≡ length ys → ⊥) → same xs ys ≡ false
same-lengths-differ [] [] h = absurd (h refl)
same-lengths-differ [] (y ∷ ys) h = refl
same-lengths-differ (x ∷ xs) [] h = refl
same-lengths-differ (x ∷ xs) (y ∷ ys) h =
    rw (same-lengths-differ xs ys (λ e. h (ap suc e))) (and-false (eqb x y))

-- ---- Two texts compared in two parts.
pub same-in-parts : (i : ℕ) (xs ys : List ℕ)
    → (same (take i xs) (take i ys) && same (drop i xs) (drop i ys)) ≡ same xs ys
same-in-parts zero xs ys = refl
same-in-parts (suc i) [] [] = refl
same-in-parts (suc i) [] (y ∷ ys) = refl
same-in-parts (suc i) (x ∷ xs) [] = refl
same-in-parts (suc i) (x ∷ xs) (y ∷ ys) =
    and_assoc (eqb x y) (same (take i xs) (take i ys)) (same (drop i xs) (drop i ys))
    ∙ ap (λ (b : Bool). eqb x y && b) (same-in-parts i xs ys)

-- What is left of the first bytes.
pub drop_of_take : (i j : ℕ) (l : List ℕ) → drop i (take (i + j) l) ≡ take j (drop i l)
drop_of_take zero j l = ap (λ (n : ℕ). take n l) (zero-add j)
drop_of_take (suc i) j [] = ap (drop (suc i)) (take-nil (suc i + j)) ∙ sym (take-nil j)
drop_of_take (suc i) j (x ∷ l) = ap (λ (n : ℕ). drop (suc i) (take n (x ∷ l))) (suc-add i j) ∙ drop_of_take i j l

-- More bytes than the other text has are enough to tell.
pub same-take : (m : ℕ) (xs ys : List ℕ) → length ys < m → same (take m xs) ys ≡ same xs ys
same-take zero xs ys h = absurd (omega arith)
same-take (suc m) [] ys h = refl
same-take (suc m) (x ∷ xs) [] h = refl
same-take (suc m) (x ∷ xs) (y ∷ ys) h = ap (λ (b : Bool). eqb x y && b) (same-take m xs ys (omega arith))
