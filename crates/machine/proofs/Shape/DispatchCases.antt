-- A dispatch on an accepted table, by its cases: refused for its hint, idle, refused by its line, or a tick made.
use mathlib.Core.Path.{◌≡◌, refl}
use mathlib.Core.Bool.{Bool, true, false}
use mathlib.Core.List.{List}
use mathlib.Core.Option.{Option, some, none}
use Prim.Native.Nat.{ℕ, ◌<◌}
use lib.Dec.{ltb}
use borrow.Author.Tests.{ltb-true}
use Rattle.machine.specs.Outcomes.Answer.{Refused}
use Rattle.machine.specs.Outcomes.Dispatch.{Idle, Answered}
use Rattle.machine.specs.Table.{node_count, task_count, dispatched, set_dispatched}
use Rattle.machine.specs.Shape.{WellFormed}
use Rattle.machine.specs.Round.{following}
use Rattle.machine.specs.Answers.{refusal_of}
use Rattle.machine.specs.Calls.{
  unless,
  tick_refusal,
  dispatch_refusal,
  tick_on,
  Dispatched,
  is_busy_task,
  next_busy,
  dispatch_to,
  dispatch_on,
  dispatch,
}
use Rattle.machine.proofs.Basics.Rounds.{first_passes}
use Rattle.machine.proofs.Shape.TickKeeps.{busy-passes}

module _ (ws : List ℕ) (A : WellFormed ws) (h : ℕ) where
  -- 3 and 4 are passed: the hint decides.
  refusal_is : dispatch_refusal ws h ≡ unless (ltb h (node_count ws)) 9 none
  refusal_is = rw (A.length_passes, A.shape_passes)

  -- The task chosen is busy.
  pub chosen-busy : {k : ℕ} → next_busy ws ≡ some k → is_busy_task ws k ≡ true
  chosen-busy e =
      first_passes (task_count ws) (is_busy_task ws) (task_count ws) (following (task_count ws) (dispatched ws)) e

  pub by_dispatch : (P : Dispatched → Type 0)
      → P (record { answer = Answered (Refused 9); words = ws })
      → (next_busy ws ≡ none → P (record { answer = Idle; words = ws }))
      → ((k n : ℕ)
      → next_busy ws ≡ some k
      → refusal_of (tick_on ws k h).answer ≡ some n
      → P (record { answer = Answered (tick_on ws k h).answer; words = ws }))
      → ((k : ℕ)
      → next_busy ws ≡ some k
      → tick_refusal ws k h ≡ none
      → refusal_of (tick_on ws k h).answer ≡ none
      → P (record { answer = Answered (tick_on ws k h).answer; words = set_dispatched k (tick_on ws k h).words }))
      → P (dispatch ws h)
  unfolding dispatch dispatch_on dispatch_to
  by_dispatch P hint-refused idle line_Refused made = tested (ltb h (node_count ws)) refl
    where
      ticked : (k : ℕ) → next_busy ws ≡ some k → tick_refusal ws k h ≡ none → (r : Option ℕ)
          → refusal_of (tick_on ws k h).answer ≡ r
          → P (dispatch_to ws k h)
      ticked k e passes (some n) q = rw (q, dispatch_to) (line_Refused k n e q)
      ticked k e passes none q = rw (q, dispatch_to) (made k e passes q)

      chosen : h < node_count ws → (o : Option ℕ) → next_busy ws ≡ o → P (dispatch_on ws h)
      chosen low none e = rw (e, dispatch_on) (idle e)
      chosen low (some k) e =
          rw (e, dispatch_on)
          (ticked k e (busy-passes ws k h (chosen-busy e) low) (refusal_of (tick_on ws k h).answer) refl)

      tested : (b : Bool) → ltb h (node_count ws) ≡ b → P (dispatch ws h)
      tested true q = rw (refusal_is, q, dispatch) (chosen (ltb-true h (node_count ws) q) (next_busy ws) refl)
      tested false q = rw (refusal_is, q, dispatch) hint-refused
