-- Of so many ticks of busy tasks, in any order, one answers: else they were a stretch without an answer.
use mathlib.Core.Path.{◌≡◌, sym, ap, ◌∙◌, subst}
use mathlib.Core.Bool.{true}
use mathlib.Core.Logic.{◌⊎◌, inl, inr}
use mathlib.Core.List.{List, [], ◌∷◌}
use mathlib.Core.Option.{none}
use Prim.Native.Nat.{ℕ, ◌<◌}
use native.Mathlib.Omega.{arith}
use lib.ListN.{length}
use Rattle.machine.specs.Outcomes.Answer.{Going}
use Rattle.machine.specs.Tasks.{Task}
use Rattle.machine.specs.Table.{task}
use Rattle.machine.specs.Calls.{is_busy, tick_refusal, effect_of, Ticked, tick_on}
use Rattle.machine_progress.specs.LockFree.{
  Move,
  ticks,
  AnswerFree,
  no_more,
  going,
  Turn,
  SomeAnswers,
  answers_now,
  answers_later,
  OfBusy,
  SomeCallAnswers,
}
use Rattle.machine.proofs.Basics.Contradiction.{equal?}
use Rattle.machine.proofs.Shape.TickKeeps.{busy-passes}
use Rattle.machine.proofs.Linearizability.Model.Invariant.{Kept, goes_on, has_answered}
use Rattle.machine.proofs.Linearizability.Calls.Agreement.{Agrees}
use Rattle.machine.proofs.Linearizability.Corollaries.{tick-passes}
use Rattle.machine.proofs.Linearizability.Calls.MadeTicks.{keeps-invariant}
use Rattle.machine.proofs.Linearizability.Begun.TableAfter.{other_after, nodes-after, own-busy}
use Rattle.machine_progress.proofs.SoloBound.Led.{Led, begun-led, led-ticked}
use Rattle.machine_progress.proofs.SoloBound.EndsOrGoes.{ends-or-goes}
use Rattle.machine_progress.proofs.LockFree.Theorem.{lock-free}

-- The tasks that were busy are busy after a tick that goes on.
module _ {ws : List ℕ} (X : Led ws) (k h : ℕ) (p : tick_refusal ws k h ≡ none)
    (goes : (effect_of ws k h).answer ≡ Going) where
  abbrev after : List ℕ
  after = (tick_on ws k h).words

  A : Agrees ws X.row
  A = X.agrees

  still_busy : (j : ℕ) → is_busy (task ws j).operation ≡ true → is_busy (task after j).operation ≡ true
  still_busy j busy =
      elim (equal? j k) [
        | inl q ↦
            subst (λ (i : ℕ). is_busy (task after i).operation ≡ true) (sym q) (go (keeps-invariant A k h p).kept)
        | inr ne ↦ ap (λ (t : Task). is_busy t.operation) (other_after A k h p j ne) ∙ busy
      ]
    where
      go : Kept (task ws k) (effect_of ws k h) → is_busy (task after k).operation ≡ true
      go (has_answered ne fresh-now) = absurd (ne goes)
      go (goes_on a same) = own-busy A k h p same

  of-busy-after : (turns : List Turn) → OfBusy ws turns → OfBusy after turns
  of-busy-after [] b = tt
  of-busy-after (u ∷ turns) b =
      let same_count = nodes-after A k h p in (
        still_busy u.task b.0,
        subst (λ (S : ℕ). u.hint < S) (sym same_count) b.1,
        of-busy-after turns b.2,
      )

moves : List Turn → List Move
moves [] = []
moves (u ∷ turns) = ticks u.task u.hint ∷ moves turns

-- One tick, and what the others come to.
module _ (u : Turn) (turns : List Turn) (ws : List ℕ) (X : Led ws) (b : OfBusy ws (u ∷ turns)) where
  abbrev k : ℕ
  k = u.task

  abbrev h : ℕ
  h = u.hint

  p : tick_refusal ws k h ≡ none
  p = busy-passes ws k h b.0 b.1

  abbrev Comes : List Turn → List ℕ → Type 0
  Comes l vs = SomeAnswers l vs ⊎ AnswerFree (length l) (moves l) vs

  one-tick : (OfBusy (tick_on ws k h).words turns → Comes turns (tick_on ws k h).words) → Comes (u ∷ turns) ws
  unfolding moves
  one-tick others =
      ends-or-goes X k h p (Comes (u ∷ turns) ws) (λ e. inl (answers_now e)) (λ says goes.
      elim
      (subst (λ (r : Ticked). Comes turns r.words) (sym (tick-passes X.agrees k h))
      (others (of-busy-after X k h p goes turns b.2))) [
        | inl a ↦ inl (answers_later says a)
        | inr a ↦ inr (going says a)
      ])

comes-to : (turns : List Turn) (ws : List ℕ) → Led ws → OfBusy ws turns
    → SomeAnswers turns ws ⊎ AnswerFree (length turns) (moves turns) ws
unfolding moves
comes-to [] ws X b = inr no_more
comes-to (u ∷ turns) ws X b =
    one-tick u turns ws X b (λ b'. comes-to turns (tick_on ws u.task u.hint).words
    (led-ticked X u.task u.hint) b')

pub some-call-answers : SomeCallAnswers
some-call-answers ws B turns enough b =
    elim (comes-to turns ws (begun-led B) b) [
      | inl a ↦ a
      | inr quiet ↦ absurd (omega (arith, lock-free ws B (length turns) (moves turns) quiet))
    ]
