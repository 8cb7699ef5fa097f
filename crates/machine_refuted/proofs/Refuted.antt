-- Every wrong machine is refuted, by computation over the definitions.
use mathlib.Core.Path.{◌≡◌, refl, ◌∙◌}
use mathlib.Core.Bool.{Bool, true, ◌&&◌}
use mathlib.Core.List.{List, [], ◌∷◌, map}
use mathlib.Core.Option.{bind}
use Prim.Native.Nat.{ℕ}
use lib.ListN.{replicate, length-replicate}
use borrow.Author.Tests.{eq-eqb}
use native.Mathlib.Decide.{ℕ_discrete, dec_lt, dec_le}
use Rattle.tag.specs.Tags.{all_tag_words}
use Rattle.machine.specs.Outcomes.Reply.{Accepted}
use Rattle.machine.specs.Round.{first_from}
use Rattle.machine.specs.Values.{Value-discrete, decode}
use Rattle.machine.specs.Steps.{step_in, step_of, is_step_in}
use Rattle.machine.specs.Table.{table_length, hat, link, value, task}
use Rattle.machine.specs.Shape.{lanes_ok, sizes_ok, all_below, same_words, node_ok, busy_ok, record_ok, shape_ok}
use Rattle.machine.specs.Allocate.{
  hats_from,
  held_from,
  roots,
  mark,
  mark_all,
  visit,
  visit_from,
  marked,
  first_unmarked,
  allocate,
}
use Rattle.machine.specs.Lines.{write_all, dcas, act}
use Rattle.machine.specs.Answers.{plain_answer_of, answer_of}
use Rattle.machine.specs.Row.{
  empty_row,
  push_answered,
  pop_answered,
  size_answered,
  feed_made,
  feed_run,
  feed_dispatched,
  feed_idle,
  feed_dispatch,
}
use Rattle.machine.specs.Demand3.{feed_tick, feed_dispatches}
use Rattle.machine.specs.Calls.{
  times,
  start_words,
  start,
  begin,
  effect_of,
  applied,
  tick_on,
  tick,
  ticks,
  dispatch_to,
  dispatch_on,
  dispatch,
  dispatches,
  went_on,
  run_on,
  run,
  panel,
  is_begun,
  lane_from,
  lane,
  lanes_below,
  start_nodes,
  read_into,
  read,
}
use Rattle.machine_refuted.specs.Machines.{
  consecutive,
  dispatch_to_by,
  dispatch_choosing,
  begin_by,
  tick_on_by,
  tick_by,
  ticks_by,
  consecutive_turns,
  dispatch_by,
  dispatches_by,
  run_on_by,
  run_by,
  panel_by,
  tables_by,
}
use Rattle.machine_refuted.specs.Judged.{
  passes,
  made_by,
  by_row,
  by_definitions,
  after_all_by,
  going_alone,
  dispatches_to_idle,
  free_below,
}
use Rattle.machine_refuted.specs.Entries.{Entry}
use Rattle.machine_refuted.specs.WrongTicks.{whole_on, touches_nothing}
use Rattle.machine_refuted.specs.WrongSearches.{held_from_by, leftwards}
use Rattle.machine_refuted.specs.WrongRuns.{to_refusal}
use Rattle.machine_refuted.specs.WrongBegins.{is_argument}
use Rattle.machine_refuted.specs.WrongTags.{turned}
use Rattle.machine_refuted.specs.WrongLanes.{on_lanes, is_begun_on}
use Rattle.machine_refuted.specs.WrongConsecutive.{to_idle, past_idle}
use Rattle.machine_refuted.specs.Lists.{
  entries,
  begun_with,
  Judged,
  judged,
  expected,
  AllRefuted,
  RefusesEach,
  Spins,
  NeverDrains,
  Leaks,
  Doubles,
}
use Rattle.machine.proofs.Basics.Tests.{and_left, and_right}
use Rattle.machine_refuted.proofs.RightPasses.{right-passes-row, right-passes-definitions}

-- ---- Of an entry it is computed how its wrong machine fails; the right one passes on every list.
failing : Entry → Judged
failing e =
    let wrongly = made_by e.wrong e.calls (begun_with e.S e.T e.lanes) in
    record {
      right_by_row = passes;
      right_by_definitions = passes;
      wrong_by_row = by_row e.wrong wrongly 1 (empty_row e.T e.lanes);
      wrong_by_definitions = by_definitions wrongly 1;
    }

accepted : (S T lanes : ℕ) → lanes_ok lanes ≡ true → sizes_ok S T 0 lanes ≡ true
    → (start (replicate (table_length S T) 7) S T 0 lanes).reply ≡ Accepted
unfolding start
accepted S T lanes few sized = rw (few, sized, eq-eqb _ _ (length-replicate {A = ℕ} (table_length S T) 7))

judged-failing : (e : Entry) → lanes_ok e.lanes ≡ true → sizes_ok e.S e.T 0 e.lanes ≡ true
    → judged e ≡ failing e
unfolding judged failing
judged-failing e few sized =
    rw (
      right-passes-row e.S e.T 0 e.lanes _ (accepted e.S e.T e.lanes few sized) e.calls,
      right-passes-definitions e.calls 1 (begun_with e.S e.T e.lanes),
    )

all_sized : List Entry → Bool
all_sized [] = true
all_sized (e ∷ es) = lanes_ok e.lanes && (sizes_ok e.S e.T 0 e.lanes && all_sized es)

all-failing : (es : List Entry) → all_sized es ≡ true → map judged es ≡ map failing es
unfolding all_sized
all-failing [] sized = refl
all-failing (e ∷ es) sized =
    let ok = sizes_ok e.S e.T 0 e.lanes in
    let few = and_left (lanes_ok e.lanes) (ok && all_sized es) sized in
    let others = and_right (lanes_ok e.lanes) (ok && all_sized es) sized in
    let here = and_left ok (all_sized es) others in
    let further = and_right ok (all_sized es) others in
    rw (judged-failing e few here, all-failing es further)

pub all-refuted : AllRefuted
unfolding failing all_sized made_by by_row by_definitions on_lanes is_begun_on whole_on touches_nothing held_from_by leftwards
    to_refusal to_idle past_idle is_argument turned begin_by tick_on_by consecutive ticks_by ticks dispatch_to_by dispatch_choosing
    dispatch_by
    consecutive_turns dispatches_by dispatches went_on feed_dispatches
    first_from feed_dispatched feed_idle feed_dispatch dispatch_to dispatch_on dispatch tick_by run_on_by run_by panel_by
    tables_by feed_tick push_answered pop_answered size_answered feed_made feed_run bind plain_answer_of answer_of ℕ_discrete
    dec_lt dec_le Value-discrete decode step_in step_of is_step_in hat link value task all_below same_words node_ok busy_ok
    record_ok shape_ok hats_from held_from roots mark mark_all visit visit_from marked first_unmarked allocate write_all dcas
    act times start_nodes start_words start begin effect_of applied tick_on tick run_on run panel is_begun lane_from lane
    lanes_below read_into read all_tag_words
all-refuted =
    let right-passes = all-failing entries refl in
    let fails-as-said : map failing entries ≡ map expected entries = refl in
    (right-passes ∙ fails-as-said, refl)

pub refuses-each : RefusesEach
unfolding after_all_by made_by by_row by_definitions on_lanes is_begun_on whole_on touches_nothing held_from_by leftwards
    to_refusal to_idle past_idle is_argument turned begin_by tick_on_by consecutive ticks_by ticks dispatch_to_by dispatch_choosing
    dispatch_by consecutive_turns dispatches_by dispatches went_on feed_dispatches
    first_from feed_dispatched feed_idle feed_dispatch dispatch_to dispatch_on dispatch tick_by run_on_by run_by panel_by
    tables_by feed_tick push_answered pop_answered size_answered feed_made feed_run bind plain_answer_of answer_of ℕ_discrete
    dec_lt dec_le Value-discrete decode step_in step_of is_step_in hat link value task all_below same_words node_ok busy_ok
    record_ok shape_ok hats_from held_from roots mark mark_all visit visit_from marked first_unmarked allocate write_all dcas
    act times start_nodes start_words start begin effect_of applied tick_on tick run_on run panel is_begun lane_from lane
    lanes_below read_into read all_tag_words
refuses-each = refl

-- ---- What the further theorems exclude.

pub spins : Spins
unfolding going_alone after_all_by begin_by tick_on_by tick_by ℕ_discrete dec_lt dec_le Value-discrete decode step_in step_of
    is_step_in hat link value task all_below same_words node_ok busy_ok record_ok shape_ok hats_from held_from roots mark
    mark_all visit visit_from marked first_unmarked allocate write_all dcas act times start_nodes start_words start begin
    effect_of applied tick_on tick is_begun lane_from lane lanes_below bind
spins = (refl, refl)

pub never-drains : NeverDrains
unfolding dispatches_to_idle after_all_by begin_by tick_on_by tick_by dispatch_to_by dispatch_choosing dispatch_by first_from
    dispatch_to dispatch_on dispatch ℕ_discrete dec_lt dec_le Value-discrete decode step_in step_of is_step_in hat link value
    task all_below same_words node_ok busy_ok record_ok shape_ok hats_from held_from roots mark mark_all visit visit_from marked
    first_unmarked allocate write_all dcas act times start_nodes start_words start begin effect_of applied tick_on tick
    is_begun lane_from lane lanes_below bind
never-drains = (refl, refl)

pub leaks : Leaks
unfolding free_below after_all_by begin_by tick_on_by tick_by ℕ_discrete dec_lt dec_le Value-discrete decode step_in step_of
    is_step_in hat link value task all_below same_words node_ok busy_ok record_ok shape_ok hats_from held_from roots mark
    mark_all visit visit_from marked first_unmarked allocate write_all dcas act times start_nodes start_words start begin
    effect_of applied tick_on tick is_begun lane_from lane lanes_below bind
leaks = (refl, refl)

pub doubles : Doubles
unfolding after_all_by begin_by tick_on_by tick_by ℕ_discrete dec_lt dec_le Value-discrete decode step_in step_of is_step_in hat
    link value task all_below same_words node_ok busy_ok record_ok shape_ok hats_from held_from roots mark mark_all visit
    visit_from marked first_unmarked allocate write_all dcas act times start_nodes start_words start begin effect_of applied
    tick_on tick is_begun is_begun_on lane_from lane lanes_below bind
doubles = (refl, refl, refl, refl, refl, refl, refl, refl, refl, refl, refl, refl, refl)
