-- Consecutive ticks: those before the last leave the row as it is, and the last is explained by it.
use mathlib.Core.Path.{◌≡◌, refl, sym, subst}
use mathlib.Core.Bool.{Bool, true, false}
use mathlib.Core.List.{List}
use mathlib.Core.Option.{Option, some, none, bind}
use Prim.Native.Nat.{ℕ, zero, suc}
use Rattle.machine.specs.Outcomes.Answer.{Answer, Going}
use Rattle.machine.specs.Answers.{is_going}
use Rattle.machine.specs.Calls.{Ticked, tick, ticks}
use Rattle.machine.specs.Row.{Note, Row, feed_made}
use Rattle.machine.specs.Demand3.{ticks_call, feed_tick, Within}
use Rattle.machine.proofs.Basics.Contradiction.{clash}
use Rattle.machine.proofs.Words.RunLaws.{going-answer, first-goes-on, first-is-last, one-consecutive}
use Rattle.machine.proofs.Linearizability.Calls.Agreement.{Agrees, lanes-are-rows}
use Rattle.machine.proofs.Linearizability.Calls.CallsAgree.{Explains, tick-explained}

going-stays : (ρ : Row) (k : ℕ) {ρ' : Row} → feed_tick ρ k Going ≡ some ρ' → ρ' ≡ ρ
unfolding feed_tick feed_made bind
going-stays ρ k {ρ'} e = go (ρ.notes k) e
  where
    go : (o : Option Note) → bind o (λ n. some ρ) ≡ some ρ' → ρ' ≡ ρ
    go (some n) q = cc
    go none q = clash (cc)

module _ (k h : ℕ) where
  -- What ticks come to, by the outcome of the last.
  abbrev Comes : Row → Ticked → Type 0
  Comes ρ r = (ρ' : Row) × (feed_tick ρ k r.answer ≡ some ρ') × Agrees r.words ρ'

  tick-comes : {ws : List ℕ} {ρ : Row} → Agrees ws ρ → Comes ρ (tick ws k h)
  tick-comes A = let E = tick-explained A k h in (E.row, E.given-by-row, E.agrees)

  -- A tick that goes on leaves the row as it is.
  pub going-keeps : {ws : List ℕ} {ρ : Row} → Agrees ws ρ → is_going (tick ws k h).answer ≡ true
      → Agrees (tick ws k h).words ρ
  going-keeps {ws} {ρ} A e =
      let x = tick-comes A in
      let going = subst (λ (a : Answer). feed_tick ρ k a ≡ some x.0) (going-answer _ e) x.1 in
      subst (Agrees (tick ws k h).words) (going-stays ρ k going) x.2

  ticks-come : (n : ℕ) {ws : List ℕ} {ρ : Row} → Agrees ws ρ → Comes ρ (ticks (suc n) ws k h)
  ticks-come zero {ws} {ρ} A = subst (Comes ρ) (sym (one-consecutive ws k h)) (tick-comes A)
  ticks-come (suc n) {ws} {ρ} A = go (is_going (tick ws k h).answer) refl (λ B. ticks-come n B)
    where
      go : (b : Bool) → is_going (tick ws k h).answer ≡ b
          → (Agrees (tick ws k h).words ρ → Comes ρ (ticks (suc n) (tick ws k h).words k h))
          → Comes ρ (ticks (suc (suc n)) ws k h)
      go false e others = subst (Comes ρ) (sym (first-is-last (suc n) ws k h e)) (tick-comes A)
      go true e others = subst (Comes ρ) (sym (first-goes-on (suc n) ws k h e)) (others (going-keeps A e))

  pub ticks-explained : {ws : List ℕ} {ρ : Row} → Agrees ws ρ → (n : ℕ) → Explains ws ρ (ticks_call k h n)
  unfolding ticks
  ticks-explained {ws} {ρ} A zero = record { row = ρ; given-by-row = refl; agrees = A }
  ticks-explained A (suc n) = let x = ticks-come n A in record { row = x.0; given-by-row = x.1; agrees = x.2 }

  pub ticks-within : {ws : List ℕ} {ρ : Row} → Agrees ws ρ → (n : ℕ) → Within (ticks_call k h n) ws ρ
  ticks-within A n i l = let E = ticks-explained A i in (E.row, E.given-by-row, lanes-are-rows E.agrees)
