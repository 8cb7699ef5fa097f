-- In each arm the step is known, and the definitions compute.
use mathlib.Core.Logic.{inl, inr}
use borrow.Author.Tests.{eq-eqb, ne_eqb, lt-ltb, le-ltb, le-leb, lt-leb}
use Rattle.machine.specs.Steps.{is_step_in}
use Rattle.table_shape.proofs.records.progress_ok.Goals as goal

pub returns-then-counted-eq0 : goal.returns-then-counted-eq0
returns-then-counted-eq0 c =
    rw (c.in-54.is, eq-eqb _ _ c.if-counted-eq0.true) c.value_ok.ensures

pub returns-else-counted-eq0 : goal.returns-else-counted-eq0
returns-else-counted-eq0 c = rw (c.in-54.is, ne_eqb _ _ c.if-counted-eq0.false)

pub returns-then-counted-goal : goal.returns-then-counted-goal
unfolding is_step_in
returns-then-counted-goal c =
    let below = lt-ltb _ _ c.if-counted-goal.true in
    let v = c.value_ok-then-counted-goal.ensures in
    elim c.in-31.is [
      | inl e ↦ rw (e, below) v
      | inr (inl e) ↦ rw (e, below) v
      | inr (inr e) ↦ rw (e, below) v
    ]

pub returns-else-counted-goal : goal.returns-else-counted-goal
unfolding is_step_in
returns-else-counted-goal c =
    let reached = le-ltb _ _ c.if-counted-goal.false in
    elim c.in-31.is [
      | inl e ↦ rw (e, reached)
      | inr (inl e) ↦ rw (e, reached)
      | inr (inr e) ↦ rw (e, reached)
    ]

pub returns-then-counted-goal-2 : goal.returns-then-counted-goal-2
unfolding is_step_in
returns-then-counted-goal-2 c =
    rw (c.in-51.is, le-leb _ _ c.if-counted-goal-2.true) c.bag_ok.ensures

pub returns-else-counted-goal-2 : goal.returns-else-counted-goal-2
unfolding is_step_in
returns-else-counted-goal-2 c = rw (c.in-51.is, lt-leb _ _ c.if-counted-goal-2.false)

pub returns-then-counted-goal-3 : goal.returns-then-counted-goal-3
unfolding is_step_in
returns-then-counted-goal-3 c =
    rw (c.in-48.is, le-leb _ _ c.if-counted-goal-3.true) c.end_mark_ok.ensures

pub returns-else-counted-goal-3 : goal.returns-else-counted-goal-3
unfolding is_step_in
returns-else-counted-goal-3 c = rw (c.in-48.is, lt-leb _ _ c.if-counted-goal-3.false)

pub returns-then-counted-goal-4 : goal.returns-then-counted-goal-4
unfolding is_step_in
returns-then-counted-goal-4 c =
    let k = c.in_default.in_default-own.rest in
    let n = c.args.step in
    rw (
      ne_eqb n 54 k.0.0.0.1,
      ne_eqb n 31 (λ e. k.0.0.1 (inl e)),
      ne_eqb n 56 (λ e. k.0.0.1 (inr (inl e))),
      ne_eqb n 58 (λ e. k.0.0.1 (inr (inr e))),
      ne_eqb n 51 k.0.1,
      ne_eqb n 48 k.1,
      le-leb _ _ c.if-counted-goal-4.true,
    ) c.value_ok-then-counted-goal-4.ensures

pub returns-else-counted-goal-4 : goal.returns-else-counted-goal-4
unfolding is_step_in
returns-else-counted-goal-4 c =
    let k = c.in_default.in_default-own.rest in
    let n = c.args.step in
    rw (
      ne_eqb n 54 k.0.0.0.1,
      ne_eqb n 31 (λ e. k.0.0.1 (inl e)),
      ne_eqb n 56 (λ e. k.0.0.1 (inr (inl e))),
      ne_eqb n 58 (λ e. k.0.0.1 (inr (inr e))),
      lt-leb _ _ c.if-counted-goal-4.false,
    )
