-- The cases of 2026-14, by computation over the definitions.
use mathlib.Core.Path.{◌≡◌, refl}
use mathlib.Core.List.{map}
use mathlib.Core.Option.{bind}
use native.Mathlib.Decide.{ℕ_discrete, dec_lt, dec_le}
use Rattle.machine.specs.Values.{Value-discrete, decode}
use Rattle.machine.specs.Steps.{step_in, step_of, is_step_in}
use Rattle.machine.specs.Table.{hat, link, value, task}
use Rattle.machine.specs.Shape.{all_below, same_words, node_ok, busy_ok, record_ok, shape_ok}
use Rattle.machine.specs.Allocate.{
  held_from,
  hats_from,
  roots,
  mark,
  mark_all,
  visit,
  visit_from,
  marked,
  first_unmarked,
  allocate,
}
use Rattle.machine.specs.Lines.{write_all, dcas, act}
use Rattle.machine.specs.Calls.{
  times,
  start_nodes,
  start_words,
  start,
  begin,
  effect_of,
  applied,
  tick_on,
  tick,
  ticks,
  is_begun,
  lane_from,
  lane,
  lanes_below,
  read_into,
  read,
}
use Rattle.machine.specs.Snapshots.{listed, rows, transposed, reordered, take_snapshot, put_back}
use Rattle.machine.specs.Row.{push_answered, pop_answered, feed_made}
use Rattle.machine.specs.Demand3.{feed_tick}
use Rattle.machine.specs.Lent.{lent_to, begin_lent}
use Rattle.machine.specs.Events.{row_kept, pending_of, with_copied, known_after}
use Rattle.machine_cases.specs.Cases.{outcomes, expectations, plays, acts, tick_until}
use Rattle.machine_cases.specs.SnapshotCases.{Compared}
use Rattle.machine_cases.specs.LentCases.{comparisons, Course, courses, tells_then, leaks}

pub words-worked : map (λ (c : Compared). c.found) comparisons ≡ map (λ (c : Compared). c.expected) comparisons
unfolding lent_to begin_lent begin times start_nodes start_words all_below same_words node_ok busy_ok record_ok shape_ok is_step_in
    step_in step_of hat link value task decode is_begun lane_from lane lanes_below bind ℕ_discrete dec_lt dec_le Value-discrete
words-worked = refl

pub courses-worked : map tells_then courses ≡ map (λ (c : Course). c.tells) courses
unfolding lent_to begin_lent pending_of with_copied row_kept known_after push_answered pop_answered feed_made feed_tick listed
    rows transposed reordered take_snapshot put_back ℕ_discrete dec_lt dec_le Value-discrete decode step_in step_of is_step_in
    hat
    link value task all_below same_words node_ok busy_ok record_ok shape_ok held_from hats_from roots mark mark_all visit
    visit_from marked first_unmarked allocate write_all dcas act times start_nodes start_words start begin effect_of applied
    tick_on tick ticks is_begun lane_from lane lanes_below read_into read bind
courses-worked = refl

pub leaks-worked : map outcomes leaks ≡ map expectations leaks
unfolding outcomes plays acts tick_until lent_to begin_lent ℕ_discrete dec_lt dec_le Value-discrete decode step_in step_of
    is_step_in hat link value task all_below same_words node_ok busy_ok record_ok shape_ok held_from hats_from roots mark mark_all
    visit visit_from marked first_unmarked allocate write_all dcas act times start_nodes start_words start begin effect_of
    applied tick_on tick is_begun lane_from lane lanes_below bind
leaks-worked = refl
