-- An answer that moves the row as the invariant says is one that the plain row gives.
use mathlib.Core.Path.{◌≡◌, refl, sym, ap, ◌∙◌}
use mathlib.Core.List.{List, [], ◌∷◌, ◌++◌, reverse, reverse-append, reverse-reverse}
use mathlib.Core.Logic.{◌≢◌, ◌⊎◌, inl, inr}
use mathlib.Core.Option.{some, map}
use Prim.Native.Nat.{ℕ}
use Rattle.machine.specs.Outcomes.Answer.{Answer, Going, Pushed, Bag, Empty, Full, Yes, No, Refused}
use Rattle.machine.specs.Sides.{Side, left, right}
use Rattle.machine.specs.Operations.{Operation, add, remove}
use Rattle.machine.specs.Row.{
  Note,
  put,
  take_bag,
  take_first,
  push_answered,
  pop_answered,
  size_answered,
  answered_by,
  answered,
}
use Rattle.machine.proofs.Basics.Choices.{test-equal}
use Rattle.machine.proofs.Linearizability.Model.Invariant.{RowStep}
use Rattle.machine.proofs.Linearizability.Model.RowViews.{row_from, row_from-row_from}

-- ---- The row from a side and the row itself.
pub same-row-from : (s : Side) (r r' : List ℕ) → row_from s r ≡ row_from s r' → r ≡ r'
same-row-from s r r' e = sym (row_from-row_from s r) ∙ ap (row_from s) e ∙ row_from-row_from s r'

-- The bag that stands last as a side sees the row stands at that side's end.
put_last : (s : Side) (b : ℕ) (r r' : List ℕ) → row_from s r' ≡ row_from s r ++ (b ∷ []) → r' ≡ put s b r
put_last right b r r' e = e
put_last left b r r' e =
    sym (reverse-reverse r')
    ∙ ap reverse e
    ∙ reverse-append (reverse r) (b ∷ [])
    ∙ ap (◌∷◌ b) (reverse-reverse r)

take-first : (b : ℕ) (r : List ℕ) → take_first b (b ∷ r) ≡ some r
take-first b r = rw (test-equal {x = b} refl)

-- The bag at a side's end is taken.
take_put : (s : Side) (b : ℕ) (r : List ℕ) → take_bag s b (put s b r) ≡ some r
take_put left b r = take-first b r
take_put right b r =
    ap (λ (l : List ℕ). map reverse (take_first b l)) (reverse-append r (b ∷ []))
    ∙ ap (map reverse) (take-first b (reverse r))
    ∙ ap some (reverse-reverse r)

-- ---- The answers.
module _ (n : Note) (r r' : List ℕ) where
  abbrev Stepped : Answer → Type 0
  Stepped a = RowStep n.operation n.argument a (row_from n.side r) (row_from n.side r')

  by-operation : {op : Operation} (a : Answer)
      → n.operation ≡ op → answered_by op n a r ≡ some r' → answered n a r ≡ some r'
  by-operation a e h = ap (λ (op : Operation). answered_by op n a r) e ∙ h

  kept_row : row_from n.side r' ≡ row_from n.side r → r ≡ r'
  kept_row e = sym (same-row-from n.side r' r e)

  sized : (a : Answer) → size_answered a r ≡ some r → (n.operation ≡ add) ⊎ (n.operation ≡ remove)
      → row_from n.side r' ≡ row_from n.side r → answered n a r ≡ some r'
  sized a h (inl e) q = by-operation a e (h ∙ ap some (kept_row q))
  sized a h (inr e) q = by-operation a e (h ∙ ap some (kept_row q))

  pub given-by-row : (a : Answer) → a ≢ Going → Stepped a → answered n a r ≡ some r'
  unfolding push_answered pop_answered size_answered
  given-by-row Going g h = absurd (g refl)
  given-by-row Pushed g h = by-operation Pushed h.0 (ap some (sym (put_last n.side n.argument r r' h.1)))
  given-by-row (Bag b) g h =
      by-operation (Bag b) h.0
      (ap (take_bag n.side b) (put_last n.side b r' r h.1) ∙ take_put n.side b r')
  given-by-row Empty g h =
      let e : r ≡ [] = same-row-from n.side r [] (h.1 ∙ empty-from n.side) in
      let e' : r' ≡ [] = same-row-from n.side r' [] (h.2 ∙ empty-from n.side) in
      by-operation Empty h.0 (ap (pop_answered n Empty) e ∙ ap some (sym e'))
    where
      empty-from : (s : Side) → [] ≡ row_from s []
      empty-from left = refl
      empty-from right = refl
  given-by-row Full g h = by-operation Full h.0 (ap some (kept_row h.1))
  given-by-row Yes g h = sized Yes refl h.0 h.1
  given-by-row No g h = sized No refl h.0 h.1
  given-by-row (Refused m) g h = absurd h
