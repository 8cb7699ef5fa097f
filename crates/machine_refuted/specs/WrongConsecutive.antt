-- Wrong consecutive dispatches: they are to be as many as asked for, in turn, and to end at an answer.
use Rattle.std.specs.Prelude.{Bool, true, false, ◌||◌, List, [], ◌∷◌, ◌++◌, ℕ, zero, suc, eqb}
use Rattle.std.proofs.Math.Option.{some, none}
use Rattle.machine.specs.Outcomes.Answer.{Going, Refused}
use Rattle.machine.specs.Outcomes.Dispatch.{Dispatch, Idle, Answered}
use Rattle.machine.specs.Sides.{right}
use Rattle.machine.specs.Operations.{push, pop}
use Rattle.machine.specs.Answers.{kind_of, dispatch_kind_of, dispatch_goes_on}
use Rattle.machine.specs.Calls.{next_busy}
use Rattle.machine_refuted.specs.Machines.{
  Machine,
  Turns,
  DispatchedMany,
  dispatch_choosing,
  consecutive_turns,
  right_machine,
  dispatches_act,
}
use Rattle.machine_refuted.specs.Judged.{not_the_row's_answer, other_answer}
use Rattle.machine_refuted.specs.Entries.{Entry, entry, begins}

-- The right machine but for its consecutive dispatches.
abbrev with_dispatches : (Turns → (times : ℕ) → List ℕ → (hint : ℕ) → DispatchedMany) → Machine
with_dispatches consecutive_dispatches =
    record {
      starts = right_machine.starts;
      reads = right_machine.reads;
      tick_on = right_machine.tick_on;
      consecutive_ticks = right_machine.consecutive_ticks;
      reports = right_machine.reports;
      panel_refuses = right_machine.panel_refuses;
      panel_takes = right_machine.panel_takes;
      begin_refuses = right_machine.begin_refuses;
      dispatches = right_machine.dispatches;
      consecutive_dispatches = consecutive_dispatches;
    }

-- One dispatch more is made.
abbrev pub makes_dispatch_more : Machine
makes_dispatch_more = with_dispatches (λ turn times. consecutive_turns turn (suc times))

-- The task whose turn it is gets all the ticks, until it answers.
abbrev pub stays_with_task : Machine
stays_with_task =
    with_dispatches (λ turn times ws h.
    elim (next_busy ws) as (λ _. DispatchedMany) [
      | some k ↦ consecutive_turns (dispatch_choosing (λ vs. some k) right_machine.tick_on) times ws h
      | none ↦ consecutive_turns turn times ws h
    ])

-- They end at "idle" and at a refusal alone, and count what they passed.
abbrev is_end : Dispatch → Bool
is_end Idle = true
is_end (Answered a) = eqb (kind_of a) (kind_of (Refused 0))

unfoldable pub to_idle : Turns → (times : ℕ) → List ℕ → (hint : ℕ) → DispatchedMany
to_idle turn zero ws h = record { last = record { answer = Answered Going; words = ws }; went_on = 0 }
to_idle turn (suc n) ws h =
    let one = turn ws h in
    let others = to_idle turn n one.words h in
    elim (is_end one.answer) as (λ _. DispatchedMany) [
      | true ↦ record { last = one; went_on = 0 }
      | false ↦ record { last = others.last; went_on = suc others.went_on }
    ]

abbrev pub dispatches_after_answer : Machine
dispatches_after_answer = with_dispatches to_idle

-- They go on at "idle", and say "going" in the end.
unfoldable pub past_idle : Turns → (times : ℕ) → List ℕ → (hint : ℕ) → DispatchedMany
past_idle turn zero ws h = record { last = record { answer = Answered Going; words = ws }; went_on = 0 }
past_idle turn (suc n) ws h =
    let one = turn ws h in
    let others = past_idle turn n one.words h in
    elim (dispatch_goes_on one.answer || eqb (dispatch_kind_of one.answer) (dispatch_kind_of Idle)) as
    (λ _. DispatchedMany) [
      | true ↦ record { last = others.last; went_on = suc others.went_on }
      | false ↦ record { last = one; went_on = 0 }
    ]

abbrev pub dispatches_past_idle : Machine
dispatches_past_idle = with_dispatches past_idle

-- ---- The lists that tell them from the right machine.
abbrev pub consecutive_entries : List Entry
consecutive_entries =
    -- Three dispatches of a pop for two.
    -- Wrong: Consecutive dispatches: one more is made than asked for.
    entry makes_dispatch_more 4 1 1
    (begins 0 pop right 0 ++ (dispatches_act 0 2 ∷ [])) (not_the_row's_answer 2) (other_answer 2)
    -- Task 0 pops and task 1 pushes. The pop answers at the fourth dispatch, which is the push's turn.
    -- Wrong: Consecutive dispatches: the task whose turn it is gets them all, and its answer comes in another's turn.
    ∷ entry stays_with_task 4 2 1
    (begins 0 pop right 0 ++ begins 1 push right 51 ++ (dispatches_act 0 9 ∷ []))
    (not_the_row's_answer 3) (other_answer 3)
    -- The pop answers at the fourth dispatch, and a fifth finds no task busy: nobody is told of the answer.
    -- Wrong: Consecutive dispatches: they go on after an answer to "idle", and nobody is told of the answer.
    ∷ entry dispatches_after_answer 4 1 1
    (begins 0 pop right 0 ++ (dispatches_act 0 9 ∷ [])) (not_the_row's_answer 2) (other_answer 2)
    -- No task is busy, and two dispatches say "going".
    -- Wrong: Consecutive dispatches: they go on at "idle", and say "going" in the end.
    ∷ entry dispatches_past_idle 4 1 1 (dispatches_act 0 2 ∷ []) (not_the_row's_answer 1) (other_answer 1)
    ∷ []
