-- A number in a list: whether it is among them, how often it is, and at which places.
use mathlib.Core.Path.{◌≡◌, refl, sym, ap, ◌∙◌}
use mathlib.Core.Logic.{◌≢◌, inl, inr}
use mathlib.Core.Bool.{false}
use mathlib.Core.List.{List, [], ◌∷◌}
use Prim.Native.Nat.{ℕ, zero, suc, ◌+◌, ◌≤◌, ◌<◌}
use native.Mathlib.Omega.{arith}
use lib.ListN.{length, get_or}
use borrow.Author.Tests.{eq-eqb, ne_eqb}
use Rattle.machine.specs.Choice.{◌≟◌}
use Rattle.machine.specs.Calls.{is_among}
use Rattle.machine.specs.Counts.{count}
use Rattle.machine.specs.Twice.{AllDifferent, rows_below}
use Rattle.machine.proofs.Basics.Contradiction.{clash, equal?}
use Rattle.machine.proofs.Basics.Choices.{if_yes, if_no}
use Rattle.machine.proofs.Basics.Counts.{count-append}

module _ (b : ℕ) where
  -- The first is there once more than in the others; what is another number, as often.
  pub count-first : (x : ℕ) (l : List ℕ) → x ≡ b → count b (x ∷ l) ≡ suc (count b l)
  unfolding count
  count-first x l e = let q = if_yes {T = ℕ} (x ≟ b) 1 0 e in omega arith

  pub count-other : (x : ℕ) (l : List ℕ) → x ≢ b → count b (x ∷ l) ≡ count b l
  unfolding count
  count-other x l n = let q = if_no {T = ℕ} (x ≟ b) 1 0 n in omega arith

  pub count-more : (x : ℕ) (l : List ℕ) → count b l ≤ count b (x ∷ l)
  unfolding count
  count-more x l = omega arith

  -- A number that is not among them is there no times, and the other way round.
  pub not-counted : (l : List ℕ) → is_among b l ≡ false → count b l ≡ 0
  unfolding count
  not-counted [] e = refl
  not-counted (x ∷ l) e =
      elim (equal? x b) [
        | inl h ↦ clash (cc (eq-eqb b x (sym h)))
        | inr n ↦ count-other x l n ∙ not-counted l (rw (ne_eqb b x (λ q. n (sym q))) at e)
      ]

  pub not-among : (l : List ℕ) → count b l ≡ 0 → is_among b l ≡ false
  not-among [] e = refl
  not-among (x ∷ l) e =
      elim (equal? x b) [
        | inl h ↦ absurd (omega (arith, count-first x l h))
        | inr n ↦ rw (ne_eqb b x (λ q. n (sym q))) (not-among l (sym (count-other x l n) ∙ e))
      ]

  -- One that has a place is there once at least.
  counted-at : (l : List ℕ) (i : ℕ) → i < length l → get_or l i 0 ≡ b → 1 ≤ count b l
  counted-at [] i h e = absurd (omega arith)
  counted-at (x ∷ l) zero h e = let c = count-first x l e in omega arith
  counted-at (x ∷ l) (suc i) h e =
      let c = counted-at l i (omega arith) e in
      let m = count-more x l in
      omega arith

-- Numbers that are there once at most are in different places.
pub places-differ : (l : List ℕ) → ((b : ℕ) → count b l ≤ 1) → AllDifferent l
places-differ [] once i j hi hj e = absurd (omega arith)
places-differ (x ∷ l) once zero zero hi hj e = refl
places-differ (x ∷ l) once zero (suc j) hi hj e =
    let c = counted-at x l j (omega arith) (sym e) in
    let d = count-first x x l refl in
    absurd (omega (arith, once x))
places-differ (x ∷ l) once (suc i) zero hi hj e =
    let c = counted-at x l i (omega arith) e in
    let d = count-first x x l refl in
    absurd (omega (arith, once x))
places-differ (x ∷ l) once (suc i) (suc j) hi hj e =
    ap suc
    (places-differ l (λ b. let m = count-more b x l in omega (arith, once b)) i j (omega arith) (omega arith) e)

-- ---- Rows one after another. One row changed changes the count of all by what it changes that of the row.
module _ (f f' : ℕ → List ℕ) (l : ℕ) (same : (j : ℕ) → j ≢ l → f' j ≡ f j) (b : ℕ) where
  pub rows-untouched : (n : ℕ) → n ≤ l → count b (rows_below f' n) ≡ count b (rows_below f n)
  unfolding rows_below
  rows-untouched zero h = refl
  rows-untouched (suc n) h =
      let e = rows-untouched n (omega arith) in
      let q = ap (count b) (same n (omega arith)) in
      count-append b (rows_below f' n) (f' n)
      ∙ omega arith
      ∙ sym (count-append b (rows_below f n) (f n))

  pub rows-changed : (n : ℕ) → l < n
      → count b (rows_below f' n) + count b (f l) ≡ count b (rows_below f n) + count b (f' l)
  unfolding rows_below
  rows-changed zero h = absurd (omega arith)
  rows-changed (suc n) h =
      let c = count-append b (rows_below f' n) (f' n) in
      let d = count-append b (rows_below f n) (f n) in
      elim (equal? n l) [
        | inl e ↦
            let u = rows-untouched n (omega arith) in
            let p = ap (λ (j : ℕ). count b (f j)) e in
            let q = ap (λ (j : ℕ). count b (f' j)) e in
            omega arith
        | inr ne ↦
            let u = rows-changed n (omega arith) in
            let q = ap (count b) (same n ne) in
            omega arith
      ]
