-- A run, and consecutive ticks, by the first tick; and what consecutive ticks keep.
use mathlib.Core.Path.{◌≡◌, refl, ap, sym, ◌∙◌}
use mathlib.Core.Bool.{Bool, true, false}
use mathlib.Core.List.{List, ◌∷◌}
use mathlib.Core.Option.{Option, some, none}
use Prim.Native.Nat.{ℕ, zero, suc, ◌≤◌}
use native.Mathlib.Omega.{arith}
use lib.ListN.{drop}
use Rattle.tag.specs.Tags.{largest_tag}
use Rattle.machine.specs.Outcomes.Answer.{Answer, Going, Pushed, Bag, Empty, Full, Yes, No, Refused}
use Rattle.machine.specs.Answers.{answer_length, payload_of, refusal_of, is_going}
use Rattle.machine.specs.Calls.{Ticked, tick_on, tick, ticks, RunDone, stopped, after_tick, run_on}
use Rattle.machine.proofs.Basics.Contradiction.{clash}
use Rattle.machine.proofs.Words.TickLaws.{tick-number}

module _ (k h : ℕ) (list ws answers : List ℕ) where
  unfoldable pub by_first : Option ℕ → RunDone
  by_first (some n) = stopped n ws answers
  by_first none = after_tick (tick_on ws k h).answer (run_on list (tick_on ws k h).words (drop answer_length answers))

  pub first-tick : (r : Option ℕ) → refusal_of (tick_on ws k h).answer ≡ r → run_on (k ∷ h ∷ list) ws answers ≡ by_first r
  unfolding run_on by_first
  first-tick r e =
      by-outcome (refusal_of (tick_on ws k h).answer) ∙ ap by_first e
    where
      by-outcome :
          (r : Option ℕ)
          → elim r as (λ _. RunDone) [
            | some n ↦ stopped n ws answers
            | none ↦ after_tick (tick_on ws k h).answer (run_on list (tick_on ws k h).words (drop answer_length answers))
          ]
          ≡ by_first r
      by-outcome (some n) = refl
      by-outcome none = refl

-- ---- Consecutive ticks.
pub going-answer : (a : Answer) → is_going a ≡ true → a ≡ Going
going-answer Going h = refl
going-answer Pushed h = clash (cc)
going-answer (Bag b) h = clash (cc)
going-answer Empty h = clash (cc)
going-answer Full h = clash (cc)
going-answer Yes h = clash (cc)
going-answer No h = clash (cc)
going-answer (Refused n) h = clash (cc)

module _ (n : ℕ) (ws : List ℕ) (k h : ℕ) where
  pub first-goes-on : is_going (tick ws k h).answer ≡ true → ticks (suc n) ws k h ≡ ticks n (tick ws k h).words k h
  unfolding ticks
  first-goes-on e = rw (e, ticks)

  pub first-is-last : is_going (tick ws k h).answer ≡ false → ticks (suc n) ws k h ≡ tick ws k h
  unfolding ticks
  first-is-last e = rw (e, ticks)

-- One consecutive tick is a tick.
pub one-consecutive : (ws : List ℕ) (k h : ℕ) → ticks 1 ws k h ≡ tick ws k h
unfolding ticks
one-consecutive ws k h = go (is_going (tick ws k h).answer) refl
  where
    go : (b : Bool) → is_going (tick ws k h).answer ≡ b → ticks 1 ws k h ≡ tick ws k h
    go false e = first-is-last 0 ws k h e
    go true e =
        first-goes-on 0 ws k h e
        ∙ ap (λ (a : Answer). record { answer = a; words = (tick ws k h).words }) (sym (going-answer _ e))

-- By the last: P holds of the table that it is made on, as it does of the first and a tick keeps it.
module _ (P : List ℕ → Type 0) (k h : ℕ) (keeps : (ws : List ℕ) → P ws → P (tick ws k h).words) where
  pub by-last-tick : (Q : Ticked → Type 0) → ((ws : List ℕ) → P ws → Q (record { answer = Going; words = ws }))
      → ((ws : List ℕ) → P ws → Q (tick ws k h))
      → (n : ℕ) (ws : List ℕ)
      → P ws
      → Q (ticks n ws k h)
  unfolding ticks
  by-last-tick Q none-asked last zero ws p = none-asked ws p
  by-last-tick Q none-asked last (suc n) ws p =
      go (is_going (tick ws k h).answer) (by-last-tick Q none-asked last n (tick ws k h).words (keeps ws p))
    where
      go : (b : Bool) → Q (ticks n (tick ws k h).words k h)
          → Q (elim b as (λ _. Ticked) [ true ↦ ticks n (tick ws k h).words k h | false ↦ tick ws k h ])
      go true others = others
      go false others = last ws p

-- The number that comes with the last answer is a tag's, or a refusal's.
pub ticks-number : (n : ℕ) (ws : List ℕ) (k h : ℕ) → payload_of (ticks n ws k h).answer ≤ largest_tag
ticks-number n ws k h =
    by-last-tick (λ vs. Unit {0}) k h (λ vs p. tt) (λ r. payload_of r.answer ≤ largest_tag) (λ vs p. omega arith)
    (λ vs p. tick-number vs k h) n ws tt
