-- `tick_once::make` meets its contract: the outcome of either line is the effect, and `finish` lays it into the table.
use mathlib.Core.Path.{◌≡◌, ap, ◌∙◌}
use mathlib.Core.List.{List}
use Prim.Native.Nat.{ℕ, ◌-◌, ◌≤◌}
use Rattle.std.specs.Prelude.{Ok}
use native.Mathlib.Omega.{arith}
use lib.ListN.{length}
use borrow.Rule.Slice.PartMut.{mid_of, put_mid}
use Rattle.machine.specs.Values.{number}
use Rattle.machine.specs.Operations.{operation_of, goal_of}
use Rattle.machine.specs.Table.{growth, node_count, node_at, node_part, record_words}
use Rattle.machine.specs.Allocate.{allocate}
use Rattle.table_layout.proofs.Laws.Views.{nodes-part}
use Rattle.table_layout.proofs.Laws.LaidNodes.{with_nodes, nodes-laid}
use Rattle.table_record.specs.declared.Task as Tasks
use Rattle.table_record.specs.Coded.{struct_of}
use Rattle.tick_once.specs.Steps.{MayTick}
use Rattle.tick_once.proofs.Laws.MadeTick.{Tick, header-room, nodes-room, its-side, its-lane, its-argument, its-ready, others-ready, found-28, found-31, at-28, at-31, its-finish, its-tick}
use Rattle.tick_once.proofs.make.Goals as goal

-- The tick that begins, by what its tests have found out.
abbrev tick-at : {ws : List ℕ} {k hint : ℕ} {old : Tasks.Task} → MayTick ws k hint → old ≡ struct_of (record_words ws k) → Tick ws k hint
tick-at {old = old} may old-is = record { may = may; old = old; old-is = old-is }

-- ---- What is known where the end of the nodes is: the part that is lent and laid back.
module _ {ws : List ℕ} {k hint from count end : ℕ} (tick : Tick ws k hint) (begins : from ≡ node_at 0)
    (counted : count ≡ node_count ws) (ends : end ≡ node_at count) where
  end_is : end ≡ node_at (node_count ws)
  end_is = ends ∙ ap node_at counted

  part-ordered : from ≤ end
  part-ordered = omega (arith, begins, end_is)

  part-within : end ≤ length ws
  part-within = omega (arith, end_is, nodes-room tick)

  part-is : mid_of from (end - from) ws ≡ node_part ws
  part-is = nodes-part ws begins end_is

  after_is : (ns : List ℕ) → put_mid from (end - from) ws ns ≡ with_nodes ns ws
  after_is ns = nodes-laid ns ws begins end_is

-- The goal is the definition's.
goal-is : (ws : List ℕ) {g r : ℕ} (t : Tasks.Task)
    → g ≡ growth ws
    → r ≡ goal_of (operation_of t.operation) g (number t.argument)
    → r ≡ goal_of (operation_of t.operation) (growth ws) (number t.argument)
goal-is ws t is-growth is-goal = is-goal ∙ ap (λ (g : ℕ). goal_of (operation_of t.operation) g (number t.argument)) is-growth

pub hat-hat-requires : goal.hat-hat-requires
hat-hat-requires c =
    let tick = tick-at c.requires.may_tick c.requires.value in
    (header-room tick, its-lane tick, its-side tick)

pub goal_of-goal-requires : goal.goal_of-goal-requires
goal_of-goal-requires c = its-argument (tick-at c.requires.may_tick c.requires.value)

-- ---- What each line relies on.
pub line28-done-requires : goal.line28-done-requires
line28-done-requires c =
    let tick = tick-at c.requires.may_tick c.requires.value in
    let part = part-is tick c.node_at-from.ensures c.slots.ensures c.node_at-end.ensures in
    ((its-ready tick part).ready, found-28 tick part c.first_free-found.ensures)

pub line31-done-requires : goal.line31-done-requires
line31-done-requires c =
    let tick = tick-at c.requires.may_tick c.requires.value in
    let part = part-is tick c.node_at-from.ensures c.slots.ensures c.node_at-end.ensures in
    ((its-ready tick part).ready, found-31 tick part c.found_at_31-found.ensures)

-- The other lines look at no node that they would be given.
pub line-done-requires : goal.line-done-requires
line-done-requires c =
    let tick = tick-at c.requires.may_tick c.requires.value in
    let part = part-is tick c.node_at-from.ensures c.slots.ensures c.node_at-end.ensures in
    others-ready tick part c.in_default.in_default-own.rest.0.1 c.in_default.in_default-own.rest.1

-- ---- What is laid back.
pub finish-requires : goal.finish-requires
finish-requires c =
    let tick = tick-at c.requires.may_tick c.requires.value in
    let part = part-is tick c.node_at-from.ensures c.slots.ensures c.node_at-end.ensures in
    let after = after_is tick c.node_at-from.ensures c.slots.ensures c.node_at-end.ensures c.line28-done.new.ns in
    let is-goal = goal-is c.args.table.now c.args.old c.growth.ensures c.goal_of-goal.ensures in
    let line-is = at-28 tick part _ _ c.in-28.is c.first_free-found.ensures c.line28-done.ensures in
    let laid = its-finish tick part c.hat-hat.ensures is-goal _ (Ok c.line28-done.result) after line-is c.line28-done.auto.ns in
    record { lane_lt_most_lanes = laid.0; goes_on = laid.1 }

pub finish-requires-in-31 : goal.finish-requires-in-31
finish-requires-in-31 c =
    let tick = tick-at c.requires.may_tick c.requires.value in
    let part = part-is tick c.node_at-from.ensures c.slots.ensures c.node_at-end.ensures in
    let after = after_is tick c.node_at-from.ensures c.slots.ensures c.node_at-end.ensures c.line31-done.new.ns in
    let is-goal = goal-is c.args.table.now c.args.old c.growth.ensures c.goal_of-goal.ensures in
    let line-is = at-31 tick part _ _ c.in-31.is c.found_at_31-found.ensures c.line31-done.ensures in
    let laid = its-finish tick part c.hat-hat.ensures is-goal _ c.line31-done.result after line-is c.line31-done.auto.ns in
    record { lane_lt_most_lanes = laid.0; goes_on = laid.1 }

pub finish-requires-in_default : goal.finish-requires-in_default
finish-requires-in_default c =
    let tick = tick-at c.requires.may_tick c.requires.value in
    let part = part-is tick c.node_at-from.ensures c.slots.ensures c.node_at-end.ensures in
    let after = after_is tick c.node_at-from.ensures c.slots.ensures c.node_at-end.ensures c.line-done.new.ns in
    let is-goal = goal-is c.args.table.now c.args.old c.growth.ensures c.goal_of-goal.ensures in
    let line-is = c.line-done.ensures (allocate c.args.table.now c.args.hint) in
    let laid = its-finish tick part c.hat-hat.ensures is-goal _ c.line-done.result after line-is c.line-done.auto.ns in
    record { lane_lt_most_lanes = laid.0; goes_on = laid.1 }

-- ---- What each comes to.
pub returns-in-28 : goal.returns-in-28
returns-in-28 c =
    let tick = tick-at c.requires.may_tick c.requires.value in
    let part = part-is tick c.node_at-from.ensures c.slots.ensures c.node_at-end.ensures in
    let after = after_is tick c.node_at-from.ensures c.slots.ensures c.node_at-end.ensures c.line28-done.new.ns in
    let is-goal = goal-is c.args.table.now c.args.old c.growth.ensures c.goal_of-goal.ensures in
    let line-is = at-28 tick part _ _ c.in-28.is c.first_free-found.ensures c.line28-done.ensures in
    c.finish.ensures ∙ its-tick tick part c.hat-hat.ensures is-goal _ (Ok c.line28-done.result) after line-is

pub returns-in-31 : goal.returns-in-31
returns-in-31 c =
    let tick = tick-at c.requires.may_tick c.requires.value in
    let part = part-is tick c.node_at-from.ensures c.slots.ensures c.node_at-end.ensures in
    let after = after_is tick c.node_at-from.ensures c.slots.ensures c.node_at-end.ensures c.line31-done.new.ns in
    let is-goal = goal-is c.args.table.now c.args.old c.growth.ensures c.goal_of-goal.ensures in
    let line-is = at-31 tick part _ _ c.in-31.is c.found_at_31-found.ensures c.line31-done.ensures in
    c.finish-in-31.ensures ∙ its-tick tick part c.hat-hat.ensures is-goal _ c.line31-done.result after line-is

pub returns-in_default : goal.returns-in_default
returns-in_default c =
    let tick = tick-at c.requires.may_tick c.requires.value in
    let part = part-is tick c.node_at-from.ensures c.slots.ensures c.node_at-end.ensures in
    let after = after_is tick c.node_at-from.ensures c.slots.ensures c.node_at-end.ensures c.line-done.new.ns in
    let is-goal = goal-is c.args.table.now c.args.old c.growth.ensures c.goal_of-goal.ensures in
    let line-is = c.line-done.ensures (allocate c.args.table.now c.args.hint) in
    c.finish-in_default.ensures ∙ its-tick tick part c.hat-hat.ensures is-goal _ c.line-done.result after line-is
