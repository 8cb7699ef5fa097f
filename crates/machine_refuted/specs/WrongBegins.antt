-- Wrong begins: they refuse in another order, or what they should not, or too little.
use Rattle.std.specs.Prelude.{Bool, false, not, cond, ◌&&◌, ◌||◌, List, [], ◌∷◌, ◌++◌, ℕ, zero, suc, leb, ltb, eqb}
use Rattle.std.proofs.Math.Option.{Option, some, none}
use Rattle.machine.specs.Outcomes.Answer.{Pushed, Refused}
use Rattle.machine.specs.declared.Stored.{Stored}
use Rattle.machine.specs.Sides.{right}
use Rattle.machine.specs.Values.{number, stored}
use Rattle.machine.specs.Operations.{Operation, push, add, operation_number, operation_of, argument_ok}
use Rattle.machine.specs.Tasks.{fresh}
use Rattle.machine.specs.Table.{task_count, task, set_task}
use Rattle.machine.specs.Answers.{kind_of}
use Rattle.machine.specs.Calls.{
  unless,
  is_idle,
  is_busy,
  table_refusal,
  lane_refusal,
  is_push,
  is_among,
  is_begun,
  seen_refusal,
  twice_refusal,
  tick_on,
  all_lanes,
}
use Rattle.machine_refuted.specs.Machines.{begin_act, Ticks, Machine, right_machine}
use Rattle.machine_refuted.specs.Judged.{passes, not_the_row's_answer, other_answer}
use Rattle.machine_refuted.specs.Entries.{
  Entry,
  entry,
  begins,
  wholly,
  pushed_at_once,
  pushed_again,
  pushed_again_behind,
}

-- ---- 2026-03: "Begin of a push shall refuse a bag number that stands in the lane or is the argument of a busy push";
-- "16, given by begin after 7 and before 8".

-- The right machine but for its ticks, and for what its begin refuses.
abbrev pub with_refusal : Ticks → (List ℕ → (k lane operation side : ℕ) → (argument : Stored) → Option ℕ) → Machine
with_refusal ticks refuses =
    record {
      starts = right_machine.starts;
      reads = right_machine.reads;
      tick_on = ticks;
      consecutive_ticks = right_machine.consecutive_ticks;
      reports = right_machine.reports;
      panel_refuses = right_machine.panel_refuses;
      panel_takes = right_machine.panel_takes;
      begin_refuses = refuses;
      dispatches = right_machine.dispatches;
      consecutive_dispatches = right_machine.consecutive_dispatches;
    }

-- What a begin of task k on a lane tests after 7, of an operation and its argument.
abbrev After7 : Type 0
After7 = List ℕ → (k lane : ℕ) → Operation → (n : ℕ) → Option ℕ

-- The right machine but for its ticks, and for what its begin tests after 7.
abbrev pub with_begin : Ticks → After7 → Machine
with_begin ticks after7 =
    with_refusal ticks (λ ws k l op side argument.
    lane_refusal ws l
    (unless (ltb k (task_count ws)) 5
    (unless (leb 1 op && leb op 4 && leb side 1) 6
    (unless (argument_ok (operation_of op) argument) 7
    (after7 ws k l (operation_of op) (number argument))))))

abbrev pub tests_busy : List ℕ → (k : ℕ) → Option ℕ → Option ℕ
tests_busy ws k others = unless (is_idle (task ws k).operation) 8 others

-- 11 where a lane has no end, 16 where the bags meet a test, and then what the tests after it give.
abbrev tests_bags : (List ℕ → Bool) → (bags : Option (List ℕ)) → Option ℕ → Option ℕ
tests_bags test none others = some 11
tests_bags test (some bags) others = unless (not (test bags)) 16 others

-- The right machine but for the test of 16 that a push's begin on a lane makes of the bags of all lanes.
abbrev pub refuses_where : (List ℕ → (k lane n : ℕ) → (bags : List ℕ) → Bool) → Machine
refuses_where seen_in =
    with_begin right_machine.tick_on (λ ws k l op n.
    cond (is_push op) (tests_bags (seen_in ws k l n) (all_lanes ws) (tests_busy ws k none)) (tests_busy ws k none))

-- 8 is tested before 16.
abbrev pub begin_tests_busy_first : Machine
begin_tests_busy_first =
    with_begin right_machine.tick_on (λ ws k l op n. tests_busy ws k (twice_refusal ws op n none))

-- The lane is searched, and the busy pushes are not.
abbrev pub searches_lane_alone : Machine
searches_lane_alone = refuses_where (λ ws k l n bags. is_among n bags)

-- The busy pushes are searched, and the lane is not.
abbrev pub searches_pushes_alone : Machine
searches_pushes_alone = refuses_where (λ ws k l n bags. is_begun ws (task_count ws) n)

-- Of the lane only the left end is searched.
abbrev is_first : ℕ → List ℕ → Bool
is_first n [] = false
is_first n (b ∷ bs) = eqb n b

abbrev pub searches_left_end_alone : Machine
searches_left_end_alone = refuses_where (λ ws k l n bags. is_first n bags || is_begun ws (task_count ws) n)

-- Only the other tasks' pushes are searched.
abbrev pub searches_others_alone : Machine
searches_others_alone =
    refuses_where (λ ws k l n bags. is_among n bags || is_begun (set_task k fresh ws) (task_count ws) n)

-- The arguments of all busy tasks are searched: of adds and removes too.
unfoldable pub is_argument : List ℕ → (m n : ℕ) → Bool
is_argument ws zero n = false
is_argument ws (suc m) n = is_busy (task ws m).operation && eqb n (task ws m).argument || is_argument ws m n

abbrev pub searches_all_arguments : Machine
searches_all_arguments = refuses_where (λ ws k l n bags. is_among n bags || is_argument ws (task_count ws) n)

-- An add is refused as a push is.
abbrev pub refuses_adds_too : Machine
refuses_adds_too =
    with_begin right_machine.tick_on (λ ws k l op n.
    cond (is_push op || eqb (operation_number op) (operation_number add))
    (seen_refusal ws n (all_lanes ws) (tests_busy ws k none))
    (tests_busy ws k none))

abbrev pub stands_in : ℕ → Option (List ℕ) → Bool
stands_in n none = false
stands_in n (some bags) = is_among n bags

-- Begin does not test at all; the tick that would answer "pushed" is refused where the lane has the bag.
abbrev pub tests_when_answering : Machine
tests_when_answering =
    with_begin
    (λ ws k h.
    let one = tick_on ws k h in
    cond (eqb (kind_of one.answer) (kind_of Pushed) && stands_in (task ws k).argument (all_lanes ws))
    (record { answer = Refused 16; words = ws }) one)
    (λ ws k l op n. tests_busy ws k none)

-- ---- 01: 5, 6 and 7 at begin: no number is tested.
abbrev pub takes_any_numbers : Machine
takes_any_numbers = with_refusal right_machine.tick_on (λ ws k l op side argument. table_refusal ws none)

-- ---- The lists that tell them from the right machine.
abbrev pub begin_entries : List Entry
begin_entries =
    -- A task that is to push 51 is to begin the same push again: 16, and not 8.
    -- Wrong: 2026-03: 8 is tested before 16, so the same push begun again by its task gives 8.
    entry begin_tests_busy_first 4 1 1 (begins 0 push right 51 ++ begins 0 push right 51) passes (other_answer 2)
    -- Wrong: 2026-03: the task's own push is not searched, so the same push begun again by its task gives 8.
    ∷ entry searches_others_alone 4 1 1 (begins 0 push right 51 ++ begins 0 push right 51) passes (other_answer 2)
    -- The second push is begun while the first one is busy, and after it.
    -- Wrong: 2026-03: busy pushes are not searched, and two pushes of one bag at once are both accepted.
    ∷ entry searches_lane_alone 4 2 1 pushed_at_once passes (other_answer 9)
    -- Wrong: 2026-03: the lane is not searched, and a bag that is in it is pushed again.
    ∷ entry searches_pushes_alone 4 1 1 pushed_again passes (other_answer 12)
    -- Wrong: 2026-03: of the lane only the left end is searched, and a bag further on is pushed again.
    ∷ entry searches_left_end_alone 5 1 1 pushed_again_behind passes (other_answer 17)
    -- A task is to add 5 nodes, another to push bag 5.
    -- Wrong: 2026-03: the arguments of other calls are searched too, and a push of bag 5 is refused beside an add of 5.
    ∷ entry searches_all_arguments 4 2 1 (begins 0 add right 5 ++ begins 1 push right 5) passes (other_answer 2)
    -- Bag 5 is in the lane, and a task is to add 5 nodes.
    -- Wrong: 2026-03: an add of 5 is refused where bag 5 is in the lane.
    ∷ entry refuses_adds_too 4 1 1 (wholly 11 0 push 5 ++ begins 0 add right 5) passes (other_answer 13)
    -- The second push is accepted, and its last tick is refused.
    -- Wrong: 2026-03: begin does not test, and the last tick of a push is refused where the lane has its bag.
    ∷ entry tests_when_answering 4 2 1 pushed_at_once passes (other_answer 9)
    -- Operation 5 on side 9, by task 7 of one.
    -- Wrong: A begin tests no number: operation 5 on side 9 is begun, by task 7 of one.
    ∷ entry takes_any_numbers 4 1 1 (begin_act 7 0 5 9 (stored 0) ∷ []) (not_the_row's_answer 1) (other_answer 1)
    ∷ []
