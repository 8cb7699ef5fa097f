-- The starred cases, all by one computation over the definitions.
use mathlib.Core.Path.{◌≡◌, refl}
use mathlib.Core.List.{map}
use mathlib.Core.Option.{bind}
use native.Mathlib.Decide.{ℕ_discrete, dec_lt, dec_le}
use Rattle.machine_cases.specs.Cases.{cases, outcomes, expectations, plays, acts, tick_until}
use Rattle.machine.specs.Values.{Value-discrete, decode}
use Rattle.machine.specs.Steps.{step_in, step_of, is_step_in}
use Rattle.machine.specs.Table.{hat, link, value, task}
use Rattle.machine.specs.Shape.{all_below, same_words, node_ok, busy_ok, record_ok, shape_ok}
use Rattle.machine.specs.Allocate.{
  held_from,
  hats_from,
  roots,
  mark,
  mark_all,
  visit,
  visit_from,
  marked,
  first_unmarked,
  allocate,
}
use Rattle.machine.specs.Lines.{write_all, dcas, act}
use Rattle.machine.specs.Calls.{
  times,
  start_nodes,
  start_words,
  start,
  begin,
  effect_of,
  applied,
  tick_on,
  tick,
  is_begun,
  lane_from,
  lane,
  lanes_below,
}

pub worked : map outcomes cases ≡ map expectations cases
unfolding outcomes plays acts tick_until ℕ_discrete dec_lt dec_le Value-discrete decode step_in step_of is_step_in hat link
    value task all_below same_words node_ok busy_ok record_ok shape_ok held_from hats_from roots mark mark_all visit visit_from
    marked first_unmarked allocate write_all dcas act times start_nodes start_words start begin effect_of applied tick_on tick
    is_begun lane_from lane lanes_below bind
worked = refl
