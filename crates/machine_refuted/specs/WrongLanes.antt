-- 2026-12: the wrong machines with lanes, each under the words of 02 that name it.
use Rattle.std.specs.Prelude.{Bool, false, ◌&&◌, ◌||◌, List, ◌++◌, [], ◌∷◌, ℕ, zero, suc, ◌-◌, ◌*◌, leb, ltb, eqb, length, take, replicate}
use Rattle.std.proofs.Math.Option.{Option, some, none}
use Rattle.machine.specs.Outcomes.Answer.{Refused}
use Rattle.machine.specs.Choice.{◌<?◌, if?◌then◌else◌}
use Rattle.machine.specs.Sides.{Side, opposite, side_number, right}
use Rattle.machine.specs.Values.{never, number}
use Rattle.machine.specs.Operations.{operation_of, argument_ok, push, pop}
use Rattle.machine.specs.Tasks.{Task, goal, fresh, no_node, words_of}
use Rattle.machine.specs.Table.{table_length, task_count, lane_count, growth, header_words, node_words, task}
use Rattle.machine.specs.Shape.{lanes_ok, sizes_ok}
use Rattle.machine.specs.Allocate.{hats_from, held_from, allocate}
use Rattle.machine.specs.Lines.{seen, act}
use Rattle.machine.specs.Calls.{
  unless,
  table_refusal,
  is_push,
  is_among,
  is_begun,
  twice_refusal,
  tick_refusal,
  changed,
  times,
  start_hat,
  start_nodes,
  start_words,
  Ticked,
  applied,
  ReadDone,
  lane,
  read,
}
use Rattle.machine_refuted.specs.Machines.{Ticks, Machine, by_ticks, by_lines, right_machine, start_act, read_act}
use Rattle.machine_refuted.specs.Judged.{
  passes,
  not_the_row's_answer,
  lane_is_not_the_row,
  other_answer,
  other_table,
}
use Rattle.machine_refuted.specs.Entries.{
  Entry,
  entry,
  begins_on,
  begins,
  ticks,
  pushed51_on,
  pushed_in_lanes,
  pushed_in_lanes_at_once,
}
use Rattle.machine_refuted.specs.WrongSearches.{take_from}
use Rattle.machine_refuted.specs.WrongBegins.{with_refusal, tests_busy, refuses_where, stands_in}

-- ---- 2026-12: "Each lane is now its own row of bags, explained by the calls on it".

-- A tick sees the hat of one lane and stores it in another.
unfoldable pub on_lanes : (sees stores : Task → ℕ) → Ticks
on_lanes sees stores ws k h =
    elim (tick_refusal ws k h) as (λ _. Ticked) [
      | some n ↦ record { answer = Refused n; words = ws }
      | none ↦
          let t = task ws k in
          applied (stores t) t.side ws k
          (act t.step t.side (opposite t.side) (seen (sees t) t.side ws) t
          (goal (growth ws) t) (allocate ws h))
    ]

-- Every tick sees and moves the hats of lane 0.
abbrev pub ticks_first_lane : Machine
ticks_first_lane = by_ticks (on_lanes (λ t. 0) (λ t. 0))

-- Every tick sees its own hat, and moves that of lane 0.
abbrev pub stores_in_first_lane : Machine
stores_in_first_lane = by_ticks (on_lanes (λ t. t.lane) (λ t. 0))

-- The hats of lane 0 alone hold their nodes.
abbrev pub frees_other_lanes : Machine
frees_other_lanes = by_lines act (take_from (λ ws. hats_from ws 1 0 ++ held_from ws (task_count ws) 0))

-- The right machine but for its reads.
abbrev with_read : (List ℕ → (lane : ℕ) → (out : List ℕ) → ReadDone) → Machine
with_read reads =
    record {
      starts = right_machine.starts;
      reads = reads;
      tick_on = right_machine.tick_on;
      consecutive_ticks = right_machine.consecutive_ticks;
      reports = right_machine.reports;
      panel_refuses = right_machine.panel_refuses;
      panel_takes = right_machine.panel_takes;
      begin_refuses = right_machine.begin_refuses;
      dispatches = right_machine.dispatches;
      consecutive_dispatches = right_machine.consecutive_dispatches;
    }

-- Every read is of lane 0.
abbrev pub reads_first_lane : Machine
reads_first_lane = with_read (λ ws l out. read ws 0 out)

-- ---- "... the twice-seen tag of 16 is looked for in all lanes": it is looked for in the begin's own lane, and in
-- all busy pushes; or in all lanes, and in the busy pushes of its own.
abbrev pub searches_own_lane : Machine
searches_own_lane = refuses_where (λ ws k l n bags. stands_in n (lane ws l) || is_begun ws (task_count ws) n)

-- The number is the argument of a busy push on a lane, of the tasks below m.
unfoldable pub is_begun_on : List ℕ → (lane m n : ℕ) → Bool
is_begun_on ws l zero n = false
is_begun_on ws l (suc m) n =
    is_push (task ws m).operation && eqb (task ws m).lane l && eqb n (task ws m).argument || is_begun_on ws l m n

abbrev pub searches_own_pushes : Machine
searches_own_pushes = refuses_where (λ ws k l n bags. is_among n bags || is_begun_on ws l (task_count ws) n)

-- ---- "26, lane out of range at begin, read or sheet, straight after 4": it is tested after 5, or never.
abbrev with_lane_test : (List ℕ → (k lane : ℕ) → Option ℕ → Option ℕ) → Machine
with_lane_test test =
    with_refusal right_machine.tick_on (λ ws k l op side argument.
    table_refusal ws
    (test ws k l
    (unless (leb 1 op && leb op 4 && leb side 1) 6
    (unless (argument_ok (operation_of op) argument) 7
    (twice_refusal ws (operation_of op) (number argument) (tests_busy ws k none))))))

abbrev pub tests_task_first : Machine
tests_task_first =
    with_lane_test (λ ws k l others. unless (ltb k (task_count ws)) 5 (unless (ltb l (lane_count ws)) 26 others))

abbrev pub takes_any_lane : Machine
takes_any_lane = with_lane_test (λ ws k l others. unless (ltb k (task_count ws)) 5 others)

-- ---- "25, lanes out of range at start, before 1"; "S is at least twice the lanes, else 1 at start"; "Lane k, from
-- 0, starts with slots 2k and 2k + 1".

-- The right machine but for the test that its start makes of the sizes, and for the words that it writes.
abbrev with_start : ((S T growth lanes : ℕ) → Option ℕ → Option ℕ) → ((S T growth lanes : ℕ) → List ℕ) → Machine
with_start test words =
    record {
      starts = λ ws S T g lanes.
          changed (test S T g lanes (unless (eqb (length ws) (table_length S T)) 2 none)) ws (words S T g lanes);
      reads = right_machine.reads;
      tick_on = right_machine.tick_on;
      consecutive_ticks = right_machine.consecutive_ticks;
      reports = right_machine.reports;
      panel_refuses = right_machine.panel_refuses;
      panel_takes = right_machine.panel_takes;
      begin_refuses = right_machine.begin_refuses;
      dispatches = right_machine.dispatches;
      consecutive_dispatches = right_machine.consecutive_dispatches;
    }

-- 1 is tested before 25.
abbrev pub start_tests_sizes_first : Machine
start_tests_sizes_first =
    with_start (λ S T g lanes others. unless (sizes_ok S T g lanes) 1 (unless (lanes_ok lanes) 25 others)) start_words

-- Five lanes are taken.
abbrev pub start_takes_five_lanes : Machine
start_takes_five_lanes =
    with_start (λ S T g lanes others. unless (leb 1 lanes && leb lanes 5) 25 (unless (sizes_ok S T g lanes) 1 others))
    start_words

-- One node fewer than twice the lanes is taken; what is written is cut to the slice.
abbrev pub start_takes_node_less : Machine
start_takes_node_less =
    with_start (λ S T g lanes others.
    unless (lanes_ok lanes) 25 (unless (sizes_ok S T g lanes || sizes_ok (suc S) T g lanes) 1 others))
    (λ S T g lanes. take (table_length S T) (start_words S T g lanes))

-- The tests of a start.
abbrev tests_start : (S T growth lanes : ℕ) → Option ℕ → Option ℕ
tests_start S T g lanes others = unless (lanes_ok lanes) 25 (unless (sizes_ok S T g lanes) 1 others)

-- The words of a start with other hats, and with the sentinels of so many lanes.
abbrev start_with : (hats : (lanes lane : ℕ) → Side → ℕ) → (made S T growth lanes : ℕ) → List ℕ
start_with hats made S T g lanes =
    header_words S T g lanes 0 (T - 1) (hats lanes)
    ++ (start_nodes made 0 ++ (times (S - 2 * made) (node_words no_node no_node never) ++ times T (words_of fresh)))

-- Lane 0 alone gets its nodes and its hats.
abbrev pub start_makes_first_lane : Machine
start_makes_first_lane = with_start tests_start (start_with (λ lanes. start_hat 1) 1)

-- Every lane gets the nodes and the hats of lane 0.
abbrev pub start_shares_nodes : Machine
start_shares_nodes = with_start tests_start (start_with (λ lanes l s. if? l <? lanes then side_number s else no_node) 1)

-- ---- The lists that tell them from the right machine.
abbrev pub lane_entries : List Entry
lane_entries =
    -- A push on lane 1 of two puts its bag into lane 0.
    -- Wrong: 2026-12: every tick sees and moves the hats of lane 0, and a push on lane 1 puts its bag into lane 0.
    entry ticks_first_lane 6 1 2 (pushed51_on 1 0) (lane_is_not_the_row 12) (other_table 2)
    -- A push on lane 1 moves the right hat of lane 0, so that a pop on lane 1 finds it empty.
    -- Wrong: 2026-12: every tick sees its own hat and moves that of lane 0, and a pop on lane 1 does not find the bag
    -- pushed there.
    ∷ entry stores_in_first_lane 6 1 2
    (pushed51_on 1 0 ++ begins_on 1 0 pop right 0 ++ ticks 4 0 0) (not_the_row's_answer 17) (other_table 12)
    -- A push on lane 0 takes lane 1's left end, node 2, and then lane 1 cannot be read.
    -- Wrong: 2026-12: the hats of lane 0 alone hold their nodes, and a push on lane 0 takes an end of lane 1.
    ∷ entry frees_other_lanes 6 1 2 (begins 0 push right 51 ++ ticks 4 0 2) (lane_is_not_the_row 5) (other_table 5)
    -- Lane 1 has bag 51, and is read; lane 2 is not there.
    -- Wrong: 2026-12: every read is of lane 0: of a bag in lane 1 it says nothing.
    ∷ entry reads_first_lane 6 1 2
    (pushed51_on 1 0 ++ (read_act 1 (replicate 2 7) ∷ [])) (not_the_row's_answer 13) (other_answer 13)
    -- Wrong: The same: a read of a lane that is not there is not refused with 26.
    ∷ entry reads_first_lane 6 1 2 (read_act 2 [] ∷ []) (not_the_row's_answer 1) (other_answer 1)
    -- Bag 51 is in lane 0, and a task is to push it on lane 1; two tasks are to push it, each on its lane.
    -- Wrong: 2026-12: 16 is looked for in the begin's own lane, and in all busy pushes: a bag of lane 0 is pushed on
    -- lane 1.
    ∷ entry searches_own_lane 6 1 2 pushed_in_lanes passes (other_answer 13)
    -- Wrong: 2026-12: 16 is looked for in all lanes, and in the busy pushes of the begin's own: two pushes of one bag
    -- on two lanes are both accepted.
    ∷ entry searches_own_pushes 6 2 2 pushed_in_lanes_at_once passes (other_answer 2)
    -- There is no task 1 and no lane 1.
    -- Wrong: 2026-12: 26 is tested after 5.
    ∷ entry tests_task_first 4 1 1 (begins_on 1 1 push right 51) passes (other_answer 1)
    -- Wrong: 2026-12: 26 is not tested, and a push is begun on a lane that is not there.
    ∷ entry takes_any_lane 4 1 1 (begins_on 1 0 push right 51) (not_the_row's_answer 1) (other_answer 1)
    -- A start with five lanes and growth 65; with five lanes; with seven nodes for four lanes.
    -- Wrong: 2026-12: 1 is tested before 25.
    ∷ entry start_tests_sizes_first 10 1 1 (start_act 10 1 65 5 ∷ []) passes (other_answer 1)
    -- Wrong: 2026-12: a start with five lanes is taken.
    ∷ entry start_takes_five_lanes 10 1 1 (start_act 10 1 0 5 ∷ []) (lane_is_not_the_row 1) (other_answer 1)
    -- Wrong: 2026-12: a start with seven nodes for four lanes is taken.
    ∷ entry start_takes_node_less 7 1 1 (start_act 7 1 0 4 ∷ []) passes (other_answer 1)
    -- A start with two lanes: lane 1 cannot be read; a bag that is pushed on lane 0 is in lane 1 too.
    -- Wrong: 2026-12: a start with two lanes makes lane 0 alone.
    ∷ entry start_makes_first_lane 6 1 1 (start_act 6 1 0 2 ∷ []) (lane_is_not_the_row 1) (other_table 1)
    -- Wrong: 2026-12: a start with two lanes gives both the same nodes, and a bag that is pushed on one is in both.
    ∷ entry start_shares_nodes 6 1 1 (start_act 6 1 0 2 ∷ pushed51_on 0 0) (lane_is_not_the_row 13) (other_table 1)
    ∷ []
