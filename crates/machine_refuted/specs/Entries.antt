-- What an entry is, a wrong machine with calls that tell it from the right one, and the acts that calls are made of.
use Rattle.std.specs.Prelude.{List, [], ◌∷◌, ◌++◌, ℕ, replicate}
use Rattle.machine.specs.Sides.{Side, left, right, side_number}
use Rattle.machine.specs.Values.{stored}
use Rattle.machine.specs.Operations.{Operation, push, pop, add, remove, operation_number}
use Rattle.machine_refuted.specs.Machines.{
  Act,
  start_act,
  begin_act,
  tick_act,
  ticks_act,
  dispatch_act,
  dispatches_act,
  run_act,
  panel_act,
  read_act,
  Machine,
}
use Rattle.machine_refuted.specs.Judged.{Verdict}

-- A wrong machine, calls on a table that start left, and what the row and the definitions say of it there.
pub record Entry : Type 0 where
  pub wrong : Machine
  pub S : ℕ
  pub T : ℕ
  pub lanes : ℕ
  pub calls : List Act
  pub row_says : Verdict
  pub definitions-say : Verdict

abbrev pub entry : Machine → (S T lanes : ℕ) → List Act → (row_says definitions-say : Verdict) → Entry
entry M S T lanes calls r d =
    record {
      wrong = M;
      S = S;
      T = T;
      lanes = lanes;
      calls = calls;
      row_says = r;
      definitions-say = d;
    }

-- A begin on a side of a lane.
abbrev pub begins_on : (lane k : ℕ) → Operation → Side → ℕ → List Act
begins_on l k op s argument = begin_act k l (operation_number op) (side_number s) (stored argument) ∷ []

-- A begin on a side of lane 0, and n ticks of a task with a hint.
abbrev pub begins : ℕ → Operation → Side → ℕ → List Act
begins k op s argument = begins_on 0 k op s argument

abbrev pub ticks : (n k hint : ℕ) → List Act
ticks n k h = replicate n (tick_act k h)

-- A right add or remove of task 0, or of another, with hints 0, that ends in n ticks.
abbrev pub wholly : (n k : ℕ) → Operation → ℕ → List Act
wholly n k op argument = begins k op right argument ++ ticks n k 0

-- Two nodes are added and given back.
abbrev pub added_and_removed : List Act
added_and_removed = wholly 6 0 add 1 ++ wholly 10 0 remove 0

-- The same, while a push of task 1 stalls at 5 with one of the two, node 3, in B.
abbrev pub removed_from_push : List Act
removed_from_push = wholly 6 0 add 1 ++ wholly 2 1 push 51 ++ wholly 10 0 remove 0

-- Case 5: an add makes the lane end at node 2, and the push moves the hat to the spur, node 3.
abbrev pub hat_to_spur : List Act
hat_to_spur = removed_from_push ++ wholly 5 0 add 0 ++ ticks 1 1 0

-- A remove stalls at 64 beside that push; after an add of task 2 the push moves the hat to the node cut off.
abbrev pub hat_to_node_cut_off : List Act
hat_to_node_cut_off =
    wholly 6 0 add 1 ++ wholly 2 1 push 51 ++ wholly 3 0 remove 0 ++ wholly 5 2 add 0 ++ ticks 1 1 0

-- Of three spare nodes one remove is to leave two, and the other none: it stands at 78 when the first one cuts.
abbrev pub two_removes : List Act
two_removes = wholly 8 0 add 3 ++ wholly 6 1 remove 2 ++ wholly 6 0 remove 0 ++ ticks 1 1 0 ++ ticks 1 0 0

-- Two nodes are added; two tasks are to push bag 51, both at once; and one task, twice.
abbrev pub pushed_at_once : List Act
pushed_at_once =
    wholly 6 0 add 1 ++ begins 0 push right 51 ++ begins 1 push right 51 ++ ticks 3 0 0 ++ ticks 3 1 0

abbrev pub pushed_again : List Act
pushed_again = wholly 6 0 add 1 ++ wholly 3 0 push 51 ++ wholly 3 0 push 51

-- The same with three nodes, and bag 52 at the left end.
abbrev pub pushed_again_behind : List Act
pushed_again_behind = wholly 7 0 add 2 ++ wholly 3 0 push 52 ++ wholly 3 0 push 51 ++ wholly 3 0 push 51

-- A push of bag 51 at the right end of a lane, by task 0 or another; alone it takes eleven ticks.
abbrev pub pushed51_on : (lane k : ℕ) → List Act
pushed51_on l k = begins_on l k push right 51 ++ ticks 11 k 0

-- Bag 51 is pushed on lane 0, and then on lane 1; by two tasks, both at once.
abbrev pub pushed_in_lanes : List Act
pushed_in_lanes = pushed51_on 0 0 ++ pushed51_on 1 0

abbrev pub pushed_in_lanes_at_once : List Act
pushed_in_lanes_at_once = begins 0 push right 51 ++ begins_on 1 1 push right 51 ++ ticks 11 0 0 ++ ticks 11 1 0

-- n dispatches with a hint.
abbrev pub dispatches_of : (n hint : ℕ) → List Act
dispatches_of n h = replicate n (dispatch_act h)

-- Task 0 is to push bag 51, and task 1's pop answers at its next tick.
abbrev pub pop_about_to_answer : List Act
pop_about_to_answer = begins 0 push right 51 ++ begins 1 pop right 0 ++ ticks 3 1 0

-- Each call once, and none to be refused where task 0 alone is busy.
abbrev pub each_call : List Act
each_call =
    start_act 4 2 0 1
    ∷ begin_act 1 0 (operation_number pop) (side_number left) (stored 0)
    ∷ tick_act 0 0
    ∷ ticks_act 0 0 2
    ∷ dispatch_act 0
    ∷ dispatches_act 0 2
    ∷ run_act (0 ∷ 0 ∷ []) (replicate 3 7)
    ∷ panel_act (0 ∷ 0 ∷ []) (replicate 3 7)
    ∷ read_act 0 []
    ∷ []
