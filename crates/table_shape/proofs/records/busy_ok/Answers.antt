-- The flag of the chain is followed from test to test, once operation, side and argument have passed.
use mathlib.Core.Path.{◌≡◌, refl, sym, ap, ◌∙◌}
use mathlib.Core.Bool.{◌&&◌}
use Rattle.machine.specs.Sides.{side_of}
use Rattle.machine.specs.Shape.{counted_ok, value_read_ok}
use Rattle.table_layout.proofs.Laws.Conjunctions.{and-passed, and-failed}
use Rattle.table_shape.proofs.Laws.RecordWords.{call_ok, operation-fails, side-fails, argument-fails, busy-tests}
use Rattle.table_shape.proofs.records.busy_ok.Goals as goal
use Rattle.table_shape.proofs.records.busy_ok.Goals.{then-is_step_of, else-is_step_of}

pub returns-then-t-gt-REMOVE : goal.returns-then-t-gt-REMOVE
returns-then-t-gt-REMOVE c =
    let a = c.args in
    operation-fails a.slots a.growth a.lanes a.t c.if-t-gt-REMOVE.true

pub returns-then-t-gt1 : goal.returns-then-t-gt1
returns-then-t-gt1 c =
    let a = c.args in
    side-fails a.slots a.growth a.lanes a.t c.if-t-gt-REMOVE.false c.if-t-gt1.true

pub returns-then-not-argument_ok : goal.returns-then-not-argument_ok
returns-then-not-argument_ok c =
    let a = c.args in
    argument-fails a.slots a.growth a.lanes a.t c.if-t-gt-REMOVE.false c.if-t-gt1.false
    (sym c.argument_ok.ensures ∙ c.if-not-argument_ok.true)

pub goal_of-goal-requires : goal.goal_of-goal-requires
goal_of-goal-requires c = sym c.argument_ok.ensures ∙ c.if-not-argument_ok.false

pub returns-then-progress_ok : goal.returns-then-progress_ok
returns-then-progress_ok c =
    let a = c.args in
    let t = a.t in
    let flag : c.if-is_step_of.value ≡ call_ok a.growth t =
    elim c.if-is_step_of.branch [
      | then-is_step_of w ↦ and-passed c.is_step_of.ensures w.if-is_step_of.true
          (w.value-is ∙ w.progress_ok.ensures
          ∙ ap (λ n. counted_ok t.step n t.counted && value_read_ok (side_of t.side) t.step t.value)
          c.goal_of-goal.ensures)
      | else-is_step_of w ↦ and-failed _ c.is_step_of.ensures w.if-is_step_of.false w.value-is
    ] in
    let argument = sym c.argument_ok.ensures ∙ c.if-not-argument_ok.false in
    and-passed flag c.if-progress_ok.true c.registers_ok.ensures
    ∙ busy-tests a.slots a.growth a.lanes t c.if-t-gt-REMOVE.false c.if-t-gt1.false argument

pub returns-else-progress_ok : goal.returns-else-progress_ok
returns-else-progress_ok c =
    let a = c.args in
    let t = a.t in
    let flag : c.if-is_step_of.value ≡ call_ok a.growth t =
    elim c.if-is_step_of.branch [
      | then-is_step_of w ↦ and-passed c.is_step_of.ensures w.if-is_step_of.true
          (w.value-is ∙ w.progress_ok.ensures
          ∙ ap (λ n. counted_ok t.step n t.counted && value_read_ok (side_of t.side) t.step t.value)
          c.goal_of-goal.ensures)
      | else-is_step_of w ↦ and-failed _ c.is_step_of.ensures w.if-is_step_of.false w.value-is
    ] in
    let argument = sym c.argument_ok.ensures ∙ c.if-not-argument_ok.false in
    and-failed _ flag c.if-progress_ok.false refl
    ∙ busy-tests a.slots a.growth a.lanes t c.if-t-gt-REMOVE.false c.if-t-gt1.false argument
