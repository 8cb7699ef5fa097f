-- Worked examples, computed by the state alone: whole calls with their refusals, and what to do about "full".
use mathlib.Core.Path.{◌≡◌, refl}
use mathlib.Core.List.{List, [], ◌∷◌}
use mathlib.Core.Option.{bind}
use native.Mathlib.Decide.{ℕ_discrete, dec_lt, dec_le}
use lib.ListN.{replicate}
use Rattle.machine.specs.Outcomes.Answer.{Pushed, Bag, Empty, Full, Yes, No, Refused}
use Rattle.machine.specs.Sides.{left, right}
use Rattle.machine.specs.Operations.{push, pop, add, remove}
use Rattle.machine.specs.Values.{Value-discrete, decode}
use Rattle.machine.specs.Steps.{step_in, step_of, is_step_in}
use Rattle.machine.specs.Table.{table_length, hat, link, value, task}
use Rattle.machine.specs.Shape.{all_below, same_words, node_ok, busy_ok, record_ok, shape_ok}
use Rattle.machine.specs.Allocate.{
  hats_from,
  held_from,
  roots,
  mark,
  mark_all,
  visit,
  visit_from,
  marked,
  first_unmarked,
  allocate,
}
use Rattle.machine.specs.Lines.{write_all, dcas, act}
use Rattle.machine.specs.Calls.{
  times,
  start_words,
  start,
  begin,
  effect_of,
  applied,
  tick_on,
  tick,
  is_begun,
  lane_from,
  lane,
  lanes_below,
  start_nodes,
}
use Rattle.machine.specs.Twice.{rows_below}
use Rattle.machine_capacity.specs.Alone.{ticks_with}
use Rattle.machine_capacity.specs.OneUser.{State, start_state, WholeCall, call_of, all_calls}
use Rattle.machine_capacity.specs.OneUserExactly.{Hinted, whole_calls}
use Rattle.machine_capacity.specs.Room.{room, Loader, give_back, last_answer}

-- ---- Twelve whole calls on six nodes, two tasks, growth 1 and one lane.
abbrev calls : List WholeCall
calls =
    call_of 0 0 push right 51
    ∷ call_of 1 0 push left 51
    ∷ call_of 0 1 push right 52
    ∷ call_of 2 0 push right 52
    ∷ call_of 0 0 push right 0
    ∷ call_of 0 0 pop left 0
    ∷ call_of 1 0 pop left 0
    ∷ call_of 0 0 add right 1
    ∷ call_of 0 0 add left 0
    ∷ call_of 0 0 remove right 0
    ∷ call_of 0 0 remove left 0
    ∷ call_of 0 0 push left 51
    ∷ []

pub worked : (all_calls (start_state 6 2 1 1) calls).answers
    ≡ (Pushed ∷ Refused 16 ∷ Refused 26 ∷ Refused 5 ∷ Refused 7 ∷ Bag 51 ∷ Empty ∷ Yes ∷ No ∷ Yes ∷ No ∷ Pushed ∷ [])
unfolding all_calls rows_below ℕ_discrete dec_lt
worked = refl

-- What is spare and free then: left 1, right 1, free 3.
pub worked-numbers :
    (((all_calls (start_state 6 2 1 1) calls).state.lane 0).spare left ≡ 1)
    × (((all_calls (start_state 6 2 1 1) calls).state.lane 0).spare right ≡ 1)
    × ((all_calls (start_state 6 2 1 1) calls).state.free ≡ 3)
unfolding all_calls rows_below ℕ_discrete dec_lt
worked-numbers = (refl, refl, refl)

-- ---- Seven nodes and one lane: four nodes are added on the left, and a push on the right takes the last one.
abbrev crowded : State
crowded = (all_calls (start_state 7 1 0 1) (call_of 0 0 add left 3 ∷ call_of 0 0 push right 51 ∷ [])).state

abbrev on_left : Loader
on_left = record { task = 0; lane = 0; side = left; tag = 53 }

-- The next push there is "full". Of the five spare nodes on the left four are given back, and then it is "pushed".
pub given-back :
    (last_answer crowded (call_of 0 0 push right 52) [] ≡ Full)
    × (room crowded 0 left ≡ 4)
    × ((give_back crowded on_left).free ≡ 4)
    × (last_answer crowded (call_of 0 0 push right 52) (on_left ∷ []) ≡ Pushed)
unfolding last_answer all_calls rows_below ℕ_discrete dec_lt
given-back = (refl, refl, refl, refl)

-- With two spare nodes there, a remove of 0 says "no", and the push stays "full".
abbrev two_spare : State
two_spare = (all_calls (start_state 4 1 0 1) (call_of 0 0 add left 0 ∷ call_of 0 0 push right 51 ∷ [])).state

pub not-given-back :
    (room two_spare 0 left ≡ 1)
    × ((give_back two_spare on_left).free ≡ 0)
    × (last_answer two_spare (call_of 0 0 push right 52) (on_left ∷ []) ≡ Full)
    × ((all_calls two_spare (call_of 0 0 remove left 0 ∷ [])).answers ≡ (No ∷ []))
unfolding last_answer all_calls rows_below ℕ_discrete dec_lt
not-given-back = (refl, refl, refl, refl)

-- ---- The table itself, tick by tick on its words: the last places, a pop that makes a spare node, an add that finds
-- none free, and a remove; the same answers.
abbrev on_words : List WholeCall
on_words =
    call_of 0 0 push right 51
    ∷ call_of 0 0 push left 52
    ∷ call_of 0 0 push right 53
    ∷ call_of 0 0 pop left 0
    ∷ call_of 0 0 add right 1
    ∷ call_of 0 0 push right 51
    ∷ call_of 0 0 remove left 0
    ∷ call_of 0 0 push left 53
    ∷ []

abbrev hinted : List WholeCall → List Hinted
hinted [] = []
hinted (c ∷ cs) = record { call = c; hints = replicate 170 1 } ∷ hinted cs

pub same-on-words :
    ((whole_calls (start (replicate (table_length 4 1) 7) 4 1 0 1).words (hinted on_words)).answers
    ≡ (Pushed ∷ Pushed ∷ Full ∷ Bag 52 ∷ No ∷ Refused 16 ∷ No ∷ Pushed ∷ []))
    × ((all_calls (start_state 4 1 0 1) on_words).answers
    ≡ (Pushed ∷ Pushed ∷ Full ∷ Bag 52 ∷ No ∷ Refused 16 ∷ No ∷ Pushed ∷ []))
unfolding whole_calls ticks_with all_calls rows_below ℕ_discrete dec_lt dec_le Value-discrete decode step_in step_of
    is_step_in hat link value task all_below same_words node_ok busy_ok record_ok shape_ok hats_from held_from roots mark
    mark_all visit visit_from marked first_unmarked allocate write_all dcas act times start_nodes start_words start begin
    effect_of applied tick_on tick is_begun lane_from lane lanes_below bind
same-on-words = (refl, refl)
