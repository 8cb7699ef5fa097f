-- T - 1 dispatches are not enough, by one computation over the definitions.
use mathlib.Core.Path.{refl}
use native.Mathlib.Decide.{ℕ_discrete, dec_lt, dec_le}
use Rattle.machine.specs.Round.{first_from}
use Rattle.machine.specs.Values.{Value-discrete, decode}
use Rattle.machine.specs.Steps.{step_in, step_of, is_step_in}
use Rattle.machine.specs.Table.{hat, link, value, task}
use Rattle.machine.specs.Shape.{all_below, same_words, node_ok, busy_ok, record_ok, shape_ok}
use Rattle.machine.specs.Allocate.{
  held_from,
  hats_from,
  roots,
  mark,
  mark_all,
  visit,
  visit_from,
  marked,
  first_unmarked,
  allocate,
}
use Rattle.machine.specs.Lines.{write_all, dcas, act}
use Rattle.machine.specs.Calls.{
  times,
  start_nodes,
  start_words,
  start,
  begin,
  effect_of,
  applied,
  tick_on,
  tick,
  dispatch_to,
  dispatch_on,
  dispatch,
}
use Rattle.machine.specs.Begun.{after_all}
use Rattle.machine_progress.specs.LastOfAll.{turns, begin_pops, numbers_from, LastOfAll}

pub last-of-all : LastOfAll
unfolding turns begin_pops numbers_from after_all hat hats_from start_nodes first_from dispatch_to dispatch_on dispatch
    ℕ_discrete dec_lt dec_le
    Value-discrete decode step_in step_of is_step_in link value task all_below same_words node_ok busy_ok record_ok shape_ok
    held_from roots mark mark_all visit visit_from marked first_unmarked allocate write_all dcas act times start_words start
    begin effect_of applied tick_on tick
last-of-all = refl
