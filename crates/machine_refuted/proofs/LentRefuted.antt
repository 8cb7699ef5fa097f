-- 2026-14: every wrong begin over a lent record and wrong row is refuted, by computation over the definitions.
use mathlib.Core.Path.{refl}
use mathlib.Core.Option.{bind}
use native.Mathlib.Decide.{ℕ_discrete, dec_lt, dec_le}
use Rattle.machine.specs.Round.{first_from}
use Rattle.machine.specs.Values.{Value-discrete, decode}
use Rattle.machine.specs.Steps.{step_in, step_of, is_step_in}
use Rattle.machine.specs.Table.{hat, link, value, task}
use Rattle.machine.specs.Shape.{all_below, same_words, node_ok, busy_ok, record_ok, shape_ok}
use Rattle.machine.specs.Allocate.{
  hats_from,
  held_from,
  roots,
  mark,
  mark_all,
  visit,
  visit_from,
  marked,
  first_unmarked,
  allocate,
}
use Rattle.machine.specs.Lines.{write_all, dcas, act}
use Rattle.machine.specs.Calls.{
  times,
  start_nodes,
  start_words,
  start,
  begin,
  effect_of,
  applied,
  tick_on,
  tick,
  ticks,
  dispatch_to,
  dispatch_on,
  dispatch,
  is_begun,
  lane_from,
  lane,
  lanes_below,
}
use Rattle.machine.specs.Lent.{lent_to, begin_lent}
use Rattle.machine.specs.Row.{
  push_answered,
  pop_answered,
  size_answered,
  feed_made,
  feed_dispatched,
  feed_idle,
  feed_dispatch,
}
use Rattle.machine.specs.Demand3.{feed_tick}
use Rattle.machine.specs.Events.{pending_of, with_copied}
use Rattle.machine_refuted.specs.WrongLent.{made, by_known, by_definition, LentRefuted}

pub lent-refuted : LentRefuted
unfolding made by_known by_definition pending_of with_copied lent_to begin_lent first_from feed_dispatched feed_idle feed_dispatch
    dispatch_to dispatch_on dispatch feed_tick push_answered pop_answered size_answered feed_made bind ℕ_discrete dec_lt dec_le
    Value-discrete decode step_in step_of is_step_in hat link value task all_below same_words node_ok busy_ok record_ok shape_ok
    hats_from held_from roots mark mark_all visit visit_from marked first_unmarked allocate write_all dcas act times
    start_nodes start_words start begin effect_of applied tick_on tick ticks is_begun lane_from lane lanes_below
lent-refuted = (refl, refl, refl, refl)
