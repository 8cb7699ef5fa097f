-- Comparing and mirroring the words of a value do so to the value that they mean.
use mathlib.Core.Path.{◌≡◌, refl, sym, ap, ◌∙◌, subst}
use mathlib.Core.Logic.{◌≢◌, inl, inr}
use mathlib.Core.Bool.{Bool, true, false}
use Prim.Native.Nat.{ℕ, zero, suc, ◌+◌, ◌-◌, ◌≤◌, ◌<◌}
use native.Mathlib.Omega.{arith}
use native.Mathlib.Decide.{ℕ_discrete, dec_le}
use Rattle.machine.specs.declared.Stored.{Stored}
use Rattle.machine.specs.Choice.{◌≤?◌}
use Rattle.machine.specs.Sides.{Side, left, right}
use Rattle.machine.specs.Values.{Value, never, bag, N, X, Y, same_stored, mark, encode, decode, mirror, value_ok}
use Rattle.machine.specs.Shape.{same_words}
use Rattle.machine.proofs.Basics.Contradiction.{refute}
use Rattle.machine.proofs.Basics.Choices.{equalᵛ, unequalᵛ, if_yes, if_no}
use Rattle.machine.proofs.Words.ValueLaws.{same-stored, stored_same, value-range, encode-decode, decode-one-to-one, IsMark, mark-has-word, mark-value-ok, N-mark, X-mark, Y-mark}
use Rattle.table_values.specs.declared.Mark.{Mark}
use Rattle.table_values.specs.declared.Mark.TheVariants as letter
use Rattle.table_values.specs.Tests.{is_same, marked}
use Rattle.table_values.specs.Mirrors.{mirror_sum, SumIsTable, OtherSumsAreNot}

-- Words that V may be are equal exactly where their values are.
pub same-words :
    (u v : Stored) → value_ok u ≡ true → value_ok v ≡ true → same_stored u v ≡ is_same (decode u) (decode v)
same-words u v hu hv = go (same_stored u v) refl
  where
    go : (b : Bool) → same_stored u v ≡ b → b ≡ is_same (decode u) (decode v)
    go true e = rw (equalᵛ (ap decode (same-stored {u = u} {w = v} e)))
    go false e = rw (unequalᵛ apart)
      where
        apart : decode u ≢ decode v
        apart q = refute (cc (e, stored_same {u = u} {w = v} (decode-one-to-one u v hu hv q)))

-- Request 2026-02: the sum is what the table of mirrors gave, and other sums are not.
pub sum-is-table : SumIsTable
unfolding decode ℕ_discrete dec_le
sum-is-table = (refl, refl, refl)

pub other-sums-are-not : OtherSumsAreNot
unfolding same_words dec_le
other-sums-are-not = (refl, refl, refl)

-- Words that V may be, from LN's on, are a mark's.
mark-words : (u : Stored) → value_ok u ≡ true → 1000000001 ≤ u.word → (u.word ≤ 1000000006) × (u ≡ mark u.word)
mark-words u h l =
    elim (value-range u h) [
      | inl r ↦ absurd (omega (arith, r.0))
      | inr r ↦ (r.1, λ i. record { word = u.word; digit = r.2 i })
    ]

-- The sum, at each of the six marks.
mirror-summed : (w : ℕ) → 1000000001 ≤ w → w ≤ 1000000006 → mark (mirror_sum w) ≡ encode (mirror (decode (mark w)))
unfolding decode ℕ_discrete dec_le
mirror-summed w h l =
    let k = w - 1000000001 in
    let e : 1000000001 + k ≡ w = omega arith in
    subst (λ w. mark (mirror_sum w) ≡ encode (mirror (decode (mark w)))) e (at_mark k (omega arith))
  where
    at_mark : (k : ℕ) → k < 6 → mark (mirror_sum (1000000001 + k)) ≡ encode (mirror (decode (mark (1000000001 + k))))
    at_mark zero h = refl
    at_mark (suc zero) h = refl
    at_mark (suc (suc zero)) h = refl
    at_mark (suc (suc (suc zero))) h = refl
    at_mark (suc (suc (suc (suc zero)))) h = refl
    at_mark (suc (suc (suc (suc (suc zero))))) h = refl
    at_mark (suc (suc (suc (suc (suc (suc k)))))) h = absurd (omega arith)

module _ (u : Stored) (ok : value_ok u ≡ true) where
  summed : 1000000001 ≤ u.word → mark (mirror_sum u.word) ≡ encode (mirror (decode u))
  summed h =
      let m = mark-words u ok h in
      mirror-summed u.word h m.0 ∙ ap (λ (v : Stored). encode (mirror (decode v))) (sym m.1)

  pub sum-up : 1000000001 ≤ u.word → u.word ≤ 1000000003 → mark (u.word + 3) ≡ encode (mirror (decode u))
  sum-up h l = ap mark (sym (if_yes (u.word ≤? 1000000003) _ _ l)) ∙ summed h

  pub sum-down : 1000000003 < u.word → mark (u.word - 3) ≡ encode (mirror (decode u))
  sum-down h = ap mark (sym (if_no (u.word ≤? 1000000003) _ _ (λ q. omega arith))) ∙ summed (omega arith)

  pub mirror-below : u.word < 1000000001 → encode (mirror (decode u)) ≡ u
  mirror-below l = go (decode u) (encode-decode u ok)
    where
      low : (n : ℕ) → 1000000001 ≤ n → mark n ≡ u → ⊥
      low n g e = let q = ap (λ (w : Stored). w.word) e in omega arith

      go : (v : Value) → encode v ≡ u → encode (mirror v) ≡ u
      go never e = e
      go (bag b) e = e
      go (N left) e = absurd (low _ (omega arith) e)
      go (N right) e = absurd (low _ (omega arith) e)
      go (X left) e = absurd (low _ (omega arith) e)
      go (X right) e = absurd (low _ (omega arith) e)
      go (Y left) e = absurd (low _ (omega arith) e)
      go (Y right) e = absurd (low _ (omega arith) e)

-- The left side's mark is the mirror of the right side's.
pub mark-mirrored : (m : Mark) → encode (mirror (decode (encode (marked m right)))) ≡ encode (marked m left)
unfolding decode ℕ_discrete dec_le
mark-mirrored letter.N = refl
mark-mirrored letter.X = refl
mark-mirrored letter.Y = refl

pub is-mark : (s : Side) (m : Mark) → IsMark s (marked m s)
is-mark s letter.N = N-mark
is-mark s letter.X = X-mark
is-mark s letter.Y = Y-mark

pub mark-word : (s : Side) (m : Mark) → decode (encode (marked m s)) ≡ marked m s
mark-word s m = mark-has-word (is-mark s m)

pub mark-ok : (s : Side) (m : Mark) → value_ok (encode (marked m s)) ≡ true
mark-ok s m = mark-value-ok (is-mark s m)

-- What the checks of `same`, `mirror` and the marks find by themselves.
pub ruleset compares = (same-words)

pub ruleset mirrors = (mirror-below, sum-up, sum-down)

pub ruleset marks = (mark-mirrored, mark-word, mark-ok)
