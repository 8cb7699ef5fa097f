-- Wrong runs, consecutive ticks and panels: what they report, how many ticks they make, and which lists they take.
use Rattle.std.specs.Prelude.{◌&&◌, List, [], ◌∷◌, ◌++◌, ℕ, zero, suc, ◌+◌, ◌*◌, ◌/◌, ◌%◌, leb, eqb, length, take, drop, replicate}
use Rattle.std.proofs.Math.Option.{Option, some, none}
use Rattle.machine.specs.Outcomes.Answer.{Going}
use Rattle.machine.specs.Sides.{right}
use Rattle.machine.specs.Choice.{◌≟◌, if?◌then◌else◌}
use Rattle.machine.specs.Operations.{push, pop, add}
use Rattle.machine.specs.Answers.{answer_length, refusal_of}
use Rattle.machine.specs.Calls.{unless, table_refusal, list_refusal, room_refusal, run_refusal, Ticked, RunDone, times}
use Rattle.machine_refuted.specs.Machines.{
  ticks_act,
  run_act,
  panel_act,
  Ticks,
  Machine,
  consecutive,
  right_machine,
}
use Rattle.machine_refuted.specs.Judged.{
  passes,
  not_the_row's_answer,
  lane_is_not_the_row,
  other_answer,
  other_table,
}
use Rattle.machine_refuted.specs.Entries.{Entry, entry, begins, wholly}

-- ---- "A run reporting ticks it did not make": one that is refused for its hint is said to be going.
abbrev pub one_more : RunDone → RunDone
one_more r =
    let words = answer_length * r.ran.made in
    if? r.ran.refusal ≟ 9
    then record {
      ran = record { made = suc r.ran.made; refusal = r.ran.refusal };
      words = r.words;
      answers = take words r.answers ++ (0 ∷ 0 ∷ 0 ∷ drop (words + answer_length) r.answers);
    }
    else r

-- The right machine but for what its runs report.
abbrev pub with_reports : (RunDone → RunDone) → Machine
with_reports reports =
    record {
      starts = right_machine.starts;
      reads = right_machine.reads;
      tick_on = right_machine.tick_on;
      consecutive_ticks = right_machine.consecutive_ticks;
      reports = reports;
      panel_refuses = right_machine.panel_refuses;
      panel_takes = right_machine.panel_takes;
      begin_refuses = right_machine.begin_refuses;
      dispatches = right_machine.dispatches;
      consecutive_dispatches = right_machine.consecutive_dispatches;
    }

abbrev pub reports_unmade_tick : Machine
reports_unmade_tick = with_reports one_more

-- ---- Consecutive ticks are as many as asked for, and end at an answer.

-- The right machine but for its consecutive ticks.
abbrev with_consecutive : (Ticks → (times : ℕ) → Ticks) → Machine
with_consecutive consecutive_ticks =
    record {
      starts = right_machine.starts;
      reads = right_machine.reads;
      tick_on = right_machine.tick_on;
      consecutive_ticks = consecutive_ticks;
      reports = right_machine.reports;
      panel_refuses = right_machine.panel_refuses;
      panel_takes = right_machine.panel_takes;
      begin_refuses = right_machine.begin_refuses;
      dispatches = right_machine.dispatches;
      consecutive_dispatches = right_machine.consecutive_dispatches;
    }

-- One tick more is made.
abbrev pub makes_tick_more : Machine
makes_tick_more = with_consecutive (λ tick times. consecutive tick (suc times))

-- They end at a refusal alone: after an answer the task is idle, and that is refused.
unfoldable pub to_refusal : Ticks → (times : ℕ) → Ticks
to_refusal tick zero ws k h = record { answer = Going; words = ws }
to_refusal tick (suc n) ws k h =
    let one = tick ws k h in
    elim (refusal_of one.answer) as (λ _. Ticked) [
      | some r ↦ one
      | none ↦ to_refusal tick n one.words k h
    ]

abbrev pub ticks_after_answer : Machine
ticks_after_answer = with_consecutive to_refusal

-- ---- 2026-01: "15, panel list over 64 words, tested where 13 is tested and straight after it".

-- The right machine but for its panel: what it refuses, and what it takes of a list.
abbrev with_panel : ((ws list answers : List ℕ) → Option ℕ) → (List ℕ → List ℕ) → Machine
with_panel refuses takes =
    record {
      starts = right_machine.starts;
      reads = right_machine.reads;
      tick_on = right_machine.tick_on;
      consecutive_ticks = right_machine.consecutive_ticks;
      reports = right_machine.reports;
      panel_refuses = refuses;
      panel_takes = takes;
      begin_refuses = right_machine.begin_refuses;
      dispatches = right_machine.dispatches;
      consecutive_dispatches = right_machine.consecutive_dispatches;
    }

abbrev over_long : (list : List ℕ) → Option ℕ → Option ℕ
over_long list others = unless (leb (length list) 64) 15 others

-- 14 is tested before 15.
abbrev pub panel_tests_room_first : Machine
panel_tests_room_first =
    with_panel
    (λ ws list answers.
    list_refusal ws list (unless (leb (answer_length * (length list / 2)) (length answers)) 14 (over_long list none)))
    (λ list. list)

-- 15 is tested before 13.
abbrev pub panel_tests_length_first : Machine
panel_tests_length_first =
    with_panel
    (λ ws list answers.
    table_refusal ws
    (over_long list
    (unless (eqb (length list % 2) 0 && leb (length list) 8192) 13 (room_refusal list answers))))
    (λ list. list)

-- A longer list is not refused but cut to its first 32 ticks.
abbrev pub panel_cuts_list : Machine
panel_cuts_list = with_panel run_refusal (take 64)

-- ---- The lists that tell them from the right machine.
abbrev pub run_entries : List Entry
run_entries =
    -- The second tick of a run has a hint out of range: the run says that it was made, and the tick count that it was
    -- not.
    -- Wrong: A run reports a tick that it did not make.
    entry reports_unmade_tick 4 1 1
    (begins 0 push right 51 ++ (run_act (0 ∷ 0 ∷ 0 ∷ 4 ∷ []) (replicate 6 7) ∷ [])) passes (other_answer 2)
    -- Three ticks of a pop for two, and then one for none: it answers.
    -- Wrong: Consecutive ticks: one more is made than asked for.
    ∷ entry makes_tick_more 4 1 1
    (begins 0 pop right 0 ++ (ticks_act 0 0 2 ∷ ticks_act 0 0 0 ∷ [])) (not_the_row's_answer 3) (other_table 2)
    -- The push answers at its third tick, and a fourth is refused: nobody is told of the bag.
    -- Wrong: Consecutive ticks: they go on after an answer, so the last is of an idle task and refused.
    ∷ entry ticks_after_answer 4 1 1
    (wholly 5 0 add 0 ++ begins 0 push right 51 ++ (ticks_act 0 0 4 ∷ [])) (lane_is_not_the_row 8) (other_answer 8)
    -- 66 words, and no room for an answer.
    -- Wrong: 2026-01: 14 is tested before 15, so 66 words without room for answers give 14.
    ∷ entry panel_tests_room_first 4 1 1 (panel_act (replicate 66 0) [] ∷ []) passes (other_answer 1)
    -- 65 words.
    -- Wrong: 2026-01: 15 is tested before 13, so 65 words give 15.
    ∷ entry panel_tests_length_first 4 1 1 (panel_act (replicate 65 0) (replicate 99 7) ∷ []) passes (other_answer 1)
    -- Three pushes of 11 ticks each in one list: 32 ticks are made, and the third push stands before its last.
    -- Wrong: 2026-01: a list of 33 ticks is not refused, and its first 32 are made.
    ∷ entry panel_cuts_list 5 3 1
    (begins 0 push right 51 ++ begins 1 push right 52 ++ begins 2 push right 53
    ++ (panel_act (times 11 (0 ∷ 0 ∷ []) ++ times 11 (1 ∷ 0 ∷ []) ++ times 11 (2 ∷ 0 ∷ [])) (replicate 99 7) ∷ []))
    passes (other_answer 4)
    ∷ []
