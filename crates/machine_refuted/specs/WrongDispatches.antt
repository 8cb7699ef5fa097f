-- 2026-07: wrong dispatches, each under the words of the papers that name it.
use Rattle.std.specs.Prelude.{cond, List, [], ◌∷◌, ◌++◌, ℕ, ◌-◌, eqb}
use Rattle.std.proofs.Math.Option.{Option, some}
use Rattle.machine.specs.Outcomes.Answer.{Refused}
use Rattle.machine.specs.Outcomes.Dispatch.{Idle}
use Rattle.machine.specs.Round.{following, first_from}
use Rattle.machine.specs.Sides.{right}
use Rattle.machine.specs.Operations.{push, pop}
use Rattle.machine.specs.Table.{task_count, dispatched, set_dispatched}
use Rattle.machine.specs.Answers.{kind_of, dispatch_kind_of}
use Rattle.machine.specs.Calls.{tick_on, is_busy_task, next_busy}
use Rattle.machine_refuted.specs.Machines.{Ticks, Machine, Turns, dispatch_choosing, by_ticks, right_machine}
use Rattle.machine_refuted.specs.Judged.{passes, not_the_row's_answer, other_answer, other_table}
use Rattle.machine_refuted.specs.Entries.{Entry, entry, begins, ticks, dispatches_of, pop_about_to_answer}

-- ---- 2026-07: "A dispatcher ticks the next busy task after the one it last ticked, going round by task number".

-- The right machine but for its dispatches, and for the task that they choose.
abbrev with_dispatch : (Ticks → Turns) → Machine
with_dispatch dispatches =
    record {
      starts = right_machine.starts;
      reads = right_machine.reads;
      tick_on = right_machine.tick_on;
      consecutive_ticks = right_machine.consecutive_ticks;
      reports = right_machine.reports;
      panel_refuses = right_machine.panel_refuses;
      panel_takes = right_machine.panel_takes;
      begin_refuses = right_machine.begin_refuses;
      dispatches = dispatches;
      consecutive_dispatches = right_machine.consecutive_dispatches;
    }

abbrev choosing : (List ℕ → Option ℕ) → Machine
choosing choice = with_dispatch (dispatch_choosing choice)

-- The first of m tasks from k on, going round, that is busy.
abbrev busy_from : (m k : ℕ) → List ℕ → Option ℕ
busy_from m k ws = first_from (task_count ws) (is_busy_task ws) m k

-- The round begins again at task 0 each time.
abbrev pub dispatches_from_zero : Machine
dispatches_from_zero = choosing (λ ws. busy_from (task_count ws) 0 ws)

-- No task is skipped: the next one by number is ticked, busy or not.
abbrev pub skips_none : Machine
skips_none = choosing (λ ws. some (following (task_count ws) (dispatched ws)))

-- The task last dispatched is asked first.
abbrev pub asks_last_first : Machine
asks_last_first = choosing (λ ws. busy_from (task_count ws) (dispatched ws) ws)

-- The task last dispatched is not asked.
abbrev pub asks_others_alone : Machine
asks_others_alone = choosing (λ ws. busy_from (task_count ws - 1) (following (task_count ws) (dispatched ws)) ws)

-- ---- "A plain tick does not touch it": it writes its task there.
abbrev pub tick_is_dispatched : Machine
tick_is_dispatched =
    by_ticks (λ ws k h.
    let one = tick_on ws k h in
    cond (eqb (kind_of one.answer) (kind_of (Refused 0))) one
    (record { answer = one.answer; words = set_dispatched k one.words }))

-- ---- "With every task idle it answers "idle" and changes nothing": it writes the next task there.
abbrev pub idle_moves_on : Machine
idle_moves_on =
    with_dispatch (λ ticks ws h.
    let one = dispatch_choosing next_busy ticks ws h in
    cond (eqb (dispatch_kind_of one.answer) (dispatch_kind_of Idle))
    (record { answer = Idle; words = set_dispatched (following (task_count ws) (dispatched ws)) ws }) one)

-- A refusal writes the task that it would have ticked.
abbrev pub refusal_moves_on : Machine
refusal_moves_on =
    with_dispatch (λ ticks ws h.
    let one = dispatch_choosing next_busy ticks ws h in
    cond (eqb (dispatch_kind_of one.answer) (kind_of (Refused 0)))
    (record { answer = one.answer; words = (dispatch_choosing next_busy ticks ws 0).words }) one)

-- ---- "... the hint, tested as in tick, before the choice": it is tested after it, so not at all where all are idle.
abbrev pub hint_after_choice : Machine
hint_after_choice =
    with_dispatch (λ ticks ws h.
    let one = dispatch_choosing next_busy ticks ws 0 in
    cond (eqb (dispatch_kind_of one.answer) (dispatch_kind_of Idle)) one (dispatch_choosing next_busy ticks ws h))

-- ---- The lists that tell them from the right machine.
abbrev pub dispatch_entries : List Entry
dispatch_entries =
    -- Task 0's pop gets all the ticks, and answers when task 1's push is due.
    -- Wrong: 2026-07: the round begins again at task 0 each time, and task 1 waits while task 0 is busy.
    entry dispatches_from_zero 4 2 1
    (begins 0 pop right 0 ++ begins 1 push right 51 ++ dispatches_of 4 0) (not_the_row's_answer 6) (other_table 4)
    -- Task 0 is the next by number, and idle.
    -- Wrong: 2026-07: the next task by number is ticked, busy or not, so 10 where it is idle.
    ∷ entry skips_none 4 2 1 (begins 1 pop right 0 ++ dispatches_of 1 0) passes (other_answer 2)
    -- Task 1's pop was dispatched, and a push of task 0 is due.
    -- Wrong: 2026-07: the task last dispatched is asked first, and keeps all the ticks.
    ∷ entry asks_last_first 4 2 1
    (begins 1 pop right 0 ++ dispatches_of 1 0 ++ begins 0 push right 51 ++ dispatches_of 3 0)
    (not_the_row's_answer 6) (other_table 4)
    -- Only task 1 is busy, which is the one last dispatched since the start.
    -- Wrong: 2026-07: the task last dispatched is not asked, so "idle" where it alone is busy.
    ∷ entry asks_others_alone 4 2 1 (begins 1 pop right 0 ++ dispatches_of 1 0) (not_the_row's_answer 2) (other_answer 2)
    -- After a plain tick of task 0, task 0 is due, and the pop answers.
    -- Wrong: 2026-07: a plain tick writes its task as the one last dispatched.
    ∷ entry tick_is_dispatched 4 2 1
    (pop_about_to_answer ++ ticks 1 0 0 ++ dispatches_of 1 0) (not_the_row's_answer 7) (other_table 6)
    -- After an "idle", and after a refusal, task 0 is due, and the pop answers.
    -- Wrong: 2026-07: "idle" writes the next task as the one last dispatched.
    ∷ entry idle_moves_on 4 2 1
    (dispatches_of 1 0 ++ pop_about_to_answer ++ dispatches_of 1 0) (not_the_row's_answer 7) (other_table 1)
    -- Wrong: 2026-07: a refusal writes the task that it would have ticked as the one last dispatched.
    ∷ entry refusal_moves_on 4 2 1
    (pop_about_to_answer ++ dispatches_of 1 4 ++ dispatches_of 1 0) (not_the_row's_answer 7) (other_table 6)
    -- All tasks are idle, and the hint is no node.
    -- Wrong: 2026-07: the hint is tested after the choice, so any hint gives "idle" where all are idle.
    ∷ entry hint_after_choice 4 1 1 (dispatches_of 1 4) passes (other_answer 1)
    ∷ []
