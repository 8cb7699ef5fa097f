-- The cases of 2026-10, by computation over the definitions.
use mathlib.Core.Path.{◌≡◌, refl}
use mathlib.Core.List.{map}
use mathlib.Core.Option.{bind}
use native.Mathlib.Decide.{ℕ_discrete, dec_lt, dec_le}
use Rattle.machine.specs.Values.{Value-discrete, decode}
use Rattle.machine.specs.Steps.{step_in, step_of, is_step_in}
use Rattle.machine.specs.Table.{hat, link, value, task}
use Rattle.machine.specs.Shape.{all_below, same_words, node_ok, busy_ok, record_ok, shape_ok}
use Rattle.machine.specs.Allocate.{
  held_from,
  hats_from,
  roots,
  mark,
  mark_all,
  visit,
  visit_from,
  marked,
  first_unmarked,
  allocate,
}
use Rattle.machine.specs.Lines.{write_all, dcas, act}
use Rattle.machine.specs.Calls.{
  times,
  start_nodes,
  start_words,
  start,
  begin,
  effect_of,
  applied,
  tick_on,
  tick,
  ticks,
  is_begun,
  lane_from,
  lane,
  lanes_below,
}
use Rattle.machine.specs.Snapshots.{listed, rows, transposed, reordered, take_snapshot, put_back}
use Rattle.machine.specs.Row.{push_answered, pop_answered, feed_made}
use Rattle.machine.specs.Demand3.{feed_tick}
use Rattle.machine.specs.Events.{row_kept, known_after}
use Rattle.machine_cases.specs.SnapshotCases.{Compared, comparisons, Course, courses, tells_then}

pub words-worked : map (λ (c : Compared). c.found) comparisons ≡ map (λ (c : Compared). c.expected) comparisons
unfolding listed rows transposed reordered take_snapshot put_back times start_nodes start_words all_below same_words node_ok
    busy_ok record_ok shape_ok is_step_in ℕ_discrete dec_lt dec_le
words-worked = refl

pub courses-worked : map tells_then courses ≡ map (λ (c : Course). c.tells) courses
unfolding row_kept known_after push_answered pop_answered feed_made feed_tick listed rows transposed reordered take_snapshot
    put_back ℕ_discrete dec_lt dec_le Value-discrete decode step_in step_of is_step_in hat link value task all_below same_words
    node_ok busy_ok record_ok shape_ok held_from hats_from roots mark mark_all visit visit_from marked first_unmarked allocate
    write_all dcas act times start_nodes start_words start begin effect_of applied tick_on tick ticks is_begun lane_from lane
    lanes_below bind
courses-worked = refl
