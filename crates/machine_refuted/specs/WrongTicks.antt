-- Machines whose ticks are wrong as a whole, not at one line; and the one that refuses all.
use Rattle.std.specs.Prelude.{cond, List, [], ◌∷◌, ℕ, ◌+◌}
use Rattle.std.proofs.Math.Option.{some, none}
use Rattle.machine.specs.Outcomes.Answer.{Answer, Going, Pushed, Bag, Empty, Full, Yes, No, Refused}
use Rattle.machine.specs.Outcomes.Dispatch.{Answered}
use Rattle.machine.specs.Choice.{◌≟◌, if?◌then◌else◌}
use Rattle.machine.specs.Operations.{Operation, idle, push, pop, add, remove, operation_number}
use Rattle.machine.specs.Steps.{Step, line17, line18, line24, line25, step_number, first_step}
use Rattle.machine.specs.Tasks.{Task, goto}
use Rattle.machine.specs.Table.{tick_count, task, set_tick_count, set_task}
use Rattle.machine.specs.Allocate.{allocate}
use Rattle.machine.specs.Lines.{Effect, next, answers, none_free, act}
use Rattle.machine.specs.Answers.{ends_call}
use Rattle.machine.specs.Calls.{tick_refusal, begun_task, Ticked, tick_on, stopped, changed, unread}
use Rattle.machine_refuted.specs.Machines.{
  Machine,
  consecutive,
  consecutive_turns,
  Line,
  tick_on_by,
  by_ticks,
  by_lines,
}
use Rattle.machine_refuted.specs.Judged.{
  passes,
  not_the_row's_answer,
  lane_is_not_the_row,
  other_answer,
  other_table,
}
use Rattle.machine_refuted.specs.Entries.{Entry, entry, wholly, each_call}

-- ---- "One doing a whole call in its first tick and saying "going" after."

-- What is still to be said is kept as the step: 24 and then 25 for a call that was done, 17 and then 18 for another.
abbrev step_after : Answer → Step
step_after Pushed = line24
step_after Yes = line24
step_after Going = line17
step_after (Bag b) = line17
step_after Empty = line17
step_after Full = line17
step_after No = line17
step_after (Refused n) = line17

abbrev done_answer : Operation → Answer
done_answer push = Pushed
done_answer add = Yes
done_answer idle = Yes
done_answer pop = Yes
done_answer remove = Yes

abbrev says_later : Line
says_later st s o m t g f =
    if? step_number st ≟ step_number line24 then next t line25 else
    if? step_number st ≟ step_number line25 then answers (done_answer t.operation) else
    if? step_number st ≟ step_number line17 then next t line18 else
    answers (none_free t.operation)

abbrev later_for : Operation → Line
later_for op st s o m t g f =
    if? operation_number t.operation ≟ operation_number op then says_later st s o m t g f else act st s o m t g f

-- The first tick of a call of this operation does the call whole, and says "going".
unfoldable pub whole_on : Operation → List ℕ → (k hint : ℕ) → Ticked
whole_on op ws k h =
    let t = task ws k in
    elim (tick_refusal ws k h) as (λ _. Ticked) [
      | some n ↦ record { answer = Refused n; words = ws }
      | none ↦
          if? step_number t.step ≟ step_number (first_step op) then
          if? operation_number t.operation ≟ operation_number op then
          (let all = consecutive tick_on 101 ws k h in
          record {
            answer = Going;
            words = set_tick_count (tick_count ws + 1) (set_task k (goto t (step_after all.answer)) all.words);
          })
          else tick_on ws k h
          else tick_on_by (later_for op) allocate ws k h
    ]

abbrev pub whole_in_first_tick : Operation → Machine
whole_in_first_tick op = by_ticks (whole_on op)

-- ---- "One whose tasks say "going" forever": what would answer begins the call again.
abbrev pub again : Task → Effect
again t = next (begun_task t.lane t.operation t.side t.argument) (first_step t.operation)

abbrev pub going_forever : Machine
going_forever =
    by_lines (λ st s o m t g f. let e = act st s o m t g f in cond (ends_call e.answer) (again t) e) allocate

-- ---- "... or whose ticks touch nothing."
unfoldable pub touches_nothing : List ℕ → (k hint : ℕ) → Ticked
touches_nothing ws k h =
    elim (tick_refusal ws k h) as (λ _. Ticked) [
      | some n ↦ record { answer = Refused n; words = ws }
      | none ↦ record { answer = Going; words = ws }
    ]

abbrev pub ticks_touch_nothing : Machine
ticks_touch_nothing = by_ticks touches_nothing

-- ---- "One that refuses all": its ticks alone, or every call.
abbrev pub refuses_ticks : Machine
refuses_ticks = by_ticks (λ ws k h. record { answer = Refused 5; words = ws })

abbrev pub refuses_all : Machine
refuses_all =
    record {
      starts = λ ws S T g lanes. changed (some 3) ws ws;
      reads = λ ws l out. unread 3 out;
      tick_on = λ ws k h. record { answer = Refused 3; words = ws };
      consecutive_ticks = consecutive;
      reports = λ r. stopped 3 r.words r.answers;
      panel_refuses = λ ws list answers. some 3;
      panel_takes = λ list. list;
      begin_refuses = λ ws k l op side argument. some 3;
      dispatches = λ tick ws h. record { answer = Answered (Refused 3); words = ws };
      consecutive_dispatches = consecutive_turns;
    }

-- ---- The lists that tell them from the right machine.
abbrev pub tick_entries : List Entry
tick_entries =
    -- A push: after its first tick its bag is in the lane, and nobody was told.
    -- Wrong: A whole push in its first tick, and "going" after.
    entry (whole_in_first_tick push) 4 1 1 (wholly 3 0 push 51) (lane_is_not_the_row 2) (other_table 2)
    -- An add: the row has no objection, but after its first tick the table has the whole chain.
    -- Wrong: A whole add in its first tick, and "going" after.
    ∷ entry (whole_in_first_tick add) 4 1 1 (wholly 3 0 add 0) passes (other_table 2)
    -- A push that begins again where it should answer.
    -- Wrong: "Going" for ever: what should answer begins again.
    ∷ entry going_forever 4 1 1 (wholly 11 0 push 51) passes (other_answer 12)
    -- The first tick leaves even the tick count.
    -- Wrong: Ticks that touch nothing.
    ∷ entry ticks_touch_nothing 4 1 1 (wholly 1 0 push 51) passes (other_table 2)
    -- The first tick of a busy task is refused.
    -- Wrong: Every tick is refused.
    ∷ entry refuses_ticks 4 1 1 (wholly 1 0 push 51) passes (other_answer 2)
    -- The row has no objection before the read; the definitions accept the start.
    -- Wrong: Every call is refused: starts, begins, ticks, dispatches, runs and reads.
    ∷ entry refuses_all 4 2 1 each_call (not_the_row's_answer 9) (other_answer 1)
    ∷ []
