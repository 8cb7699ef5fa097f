-- The calls over the right machine are those of the definitions.
use mathlib.Core.Path.{◌≡◌, refl, ap, ◌∙◌, fun_ext}
use mathlib.Core.Bool.{Bool, true, false}
use mathlib.Core.List.{List, [], ◌∷◌}
use mathlib.Core.Option.{Option, some, none}
use Prim.Native.Nat.{ℕ, zero, suc}
use lib.ListN.{drop}
use Rattle.machine.specs.Outcomes.Answer.{Refused}
use Rattle.machine.specs.declared.Stored.{Stored}
use Rattle.machine.specs.Allocate.{allocate}
use Rattle.machine.specs.Lines.{act}
use Rattle.machine.specs.Answers.{answer_length, refusal_of, is_going, dispatch_goes_on}
use Rattle.machine.specs.Calls.{
  table_refusal,
  run_refusal,
  panel_refusal,
  begin,
  Ticked,
  effect_of,
  tick_on,
  tick,
  ticks,
  dispatch_to,
  dispatch_on,
  dispatch,
  dispatches,
  went_on,
  RunDone,
  after_tick,
  stopped,
  run_on,
  tested,
  run,
  panel,
}
use Rattle.machine.specs.Demand3.{given, after}
use Rattle.machine_refuted.specs.Machines.{
  Act,
  start_act,
  begin_act,
  tick_act,
  ticks_act,
  dispatch_act,
  dispatches_act,
  run_act,
  panel_act,
  read_act,
  call_of,
  Ticks,
  begin_by,
  tick_on_by,
  dispatch_to_by,
  dispatch_choosing,
  consecutive,
  tick_by,
  ticks_by,
  Turns,
  DispatchedMany,
  consecutive_turns,
  dispatch_by,
  dispatches_by,
  run_on_by,
  tested_by,
  run_by,
  panel_by,
  right_machine,
  given_by,
  after_by,
}

pub same-tick-on : (ws : List ℕ) (k h : ℕ) → tick_on_by act allocate ws k h ≡ tick_on ws k h
unfolding tick_on_by tick_on effect_of
same-tick-on ws k h = refl

same-tick : (ws : List ℕ) (k h : ℕ) → tick_by right_machine ws k h ≡ tick ws k h
unfolding tick_by tick
same-tick ws k h =
    ap
    (λ one. elim (table_refusal ws none) as (λ _. Ticked) [
      | some n ↦ record { answer = Refused n; words = ws }
      | none ↦ one
    ])
    (same-tick-on ws k h)

consecutive-of-ticks : (n : ℕ) (ws : List ℕ) (k h : ℕ) → consecutive tick n ws k h ≡ ticks n ws k h
unfolding consecutive ticks
consecutive-of-ticks zero ws k h = refl
consecutive-of-ticks (suc n) ws k h =
    ap
    (λ others. elim (is_going (tick ws k h).answer) as (λ _. Ticked) [ true ↦ others | false ↦ tick ws k h ])
    (consecutive-of-ticks n (tick ws k h).words k h)

pub same_ticks : (n : ℕ) (ws : List ℕ) (k h : ℕ) → ticks_by right_machine n ws k h ≡ ticks n ws k h
unfolding ticks_by
same_ticks n ws k h =
    ap (λ (one : Ticks). consecutive one n ws k h) (fun_ext (λ vs. fun_ext (λ j. fun_ext (λ i. same-tick vs j i))))
    ∙ consecutive-of-ticks n ws k h

same-dispatch : (ws : List ℕ) (h : ℕ) → dispatch_by right_machine ws h ≡ dispatch ws h
unfolding dispatch_by dispatch_choosing dispatch_to_by dispatch dispatch_on dispatch_to tick_on_by tick_on effect_of
same-dispatch ws h = refl

-- Consecutive dispatches, with how many went on.
abbrev pub row_of : (n : ℕ) (ws : List ℕ) (h : ℕ) → DispatchedMany
row_of n ws h = record { last = dispatches n ws h; went_on = went_on n ws h }

row-of-dispatches : (n : ℕ) (ws : List ℕ) (h : ℕ) → consecutive_turns dispatch n ws h ≡ row_of n ws h
unfolding consecutive_turns dispatches went_on
row-of-dispatches zero ws h = refl
row-of-dispatches (suc n) ws h =
    go (dispatch_goes_on (dispatch ws h).answer) refl (row-of-dispatches n (dispatch ws h).words h)
  where
    vs : List ℕ
    vs = (dispatch ws h).words

    go : (b : Bool) → dispatch_goes_on (dispatch ws h).answer ≡ b → consecutive_turns dispatch n vs h ≡ row_of n vs h
        → consecutive_turns dispatch (suc n) ws h ≡ row_of (suc n) ws h
    go true e others =
        rw (e, consecutive_turns, dispatches, went_on)
        (ap (λ (r : DispatchedMany). record { last = r.last; went_on = suc r.went_on }) others)
    go false e others = rw (e, consecutive_turns, dispatches, went_on)

pub same-dispatches : (n : ℕ) (ws : List ℕ) (h : ℕ) → dispatches_by right_machine n ws h ≡ row_of n ws h
unfolding dispatches_by
same-dispatches n ws h =
    ap (λ (one : Turns). consecutive_turns one n ws h) (fun_ext (λ vs. fun_ext (λ i. same-dispatch vs i)))
    ∙ row-of-dispatches n ws h

pub same-begin : (ws : List ℕ) (k l op side : ℕ) (argument : Stored)
    → begin_by right_machine ws k l op side argument ≡ begin ws k l op side argument
unfolding begin_by begin
same-begin ws k l op side argument = refl

-- What a run does after its first tick.
runs_on : Ticked → (ws answers : List ℕ) → (Ticked → RunDone) → RunDone
runs_on one ws answers others =
    elim (refusal_of one.answer) as (λ _. RunDone) [
      | some n ↦ stopped n ws answers
      | none ↦ after_tick one.answer (others one)
    ]

same-run-on : (list ws answers : List ℕ) → run_on_by right_machine list ws answers ≡ run_on list ws answers
unfolding run_on_by run_on runs_on
same-run-on [] ws answers = refl
same-run-on (k ∷ []) ws answers = refl
same-run-on (k ∷ h ∷ list) ws answers =
    ap (λ one. runs_on one ws answers (λ t. run_on_by right_machine list t.words (drop answer_length answers)))
    (same-tick-on ws k h)
    ∙ ap (λ others. runs_on (tick_on ws k h) ws answers (λ t. others))
    (same-run-on list (tick_on ws k h).words (drop answer_length answers))

module _ (ws list answers : List ℕ) where
  same-tested : (r : Option ℕ) → tested_by right_machine r ws list answers ≡ tested r ws list answers
  same-tested (some n) = refl
  same-tested none = same-run-on list ws answers

  pub same-run : run_by right_machine ws list answers ≡ run ws list answers
  unfolding run_by run
  same-run = same-tested (run_refusal ws list answers)

  pub same-panel : panel_by right_machine ws list answers ≡ panel ws list answers
  unfolding panel_by panel
  same-panel = same-tested (panel_refusal ws list answers)

-- Every call gives back the same and leaves the same table.
pub right-gives : (a : Act) (ws : List ℕ) → given_by right_machine a ws ≡ given (call_of a) ws
right-gives (start_act S T g lanes) ws = refl
right-gives (begin_act k l op side argument) ws = ap (λ c. c.reply) (same-begin ws k l op side argument)
right-gives (tick_act k h) ws = ap (λ one. one.answer) (same-tick ws k h)
right-gives (ticks_act k h times) ws = ap (λ one. one.answer) (same_ticks times ws k h)
right-gives (dispatch_act h) ws = ap (λ d. d.answer) (same-dispatch ws h)
right-gives (dispatches_act h times) ws = ap (λ r. (r.last.answer, r.went_on)) (same-dispatches times ws h)
right-gives (run_act list answers) ws = ap (λ r. (r.ran, r.answers)) (same-run ws list answers)
right-gives (panel_act list answers) ws = ap (λ r. (r.ran, r.answers)) (same-panel ws list answers)
right-gives (read_act l out) ws = refl

pub right-leaves : (a : Act) (ws : List ℕ) → after_by right_machine a ws ≡ after (call_of a) ws
right-leaves (start_act S T g lanes) ws = refl
right-leaves (begin_act k l op side argument) ws = ap (λ c. c.words) (same-begin ws k l op side argument)
right-leaves (tick_act k h) ws = ap (λ one. one.words) (same-tick ws k h)
right-leaves (ticks_act k h times) ws = ap (λ one. one.words) (same_ticks times ws k h)
right-leaves (dispatch_act h) ws = ap (λ d. d.words) (same-dispatch ws h)
right-leaves (dispatches_act h times) ws = ap (λ r. r.last.words) (same-dispatches times ws h)
right-leaves (run_act list answers) ws = ap (λ r. r.words) (same-run ws list answers)
right-leaves (panel_act list answers) ws = ap (λ r. r.words) (same-panel ws list answers)
right-leaves (read_act l out) ws = refl
