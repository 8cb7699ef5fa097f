-- The flag of the chain is followed over header, columns and tasks.
use mathlib.Core.Path.{◌≡◌, refl, ◌∙◌}
use mathlib.Core.Bool.{◌&&◌}
use Rattle.machine.specs.Shape.{header_ok}
use Rattle.table_layout.proofs.Laws.Conjunctions.{and-passed, and-failed}
use Rattle.call_snapshot.specs.Promised.{columns_ok}
use Rattle.call_snapshot.proofs.Laws.ResultTests.{result-shape}
use Rattle.call_snapshot.proofs.result_shape_ok.Goals as goal
use Rattle.call_snapshot.proofs.result_shape_ok.Goals.{then-header_ok, else-header_ok}

pub returns-then-columns_ok : goal.returns-then-columns_ok
returns-then-columns_ok c =
    let t = c.args.snapshot.now in
    let flag : c.if-header_ok.value ≡ header_ok t && columns_ok t =
    elim c.if-header_ok.branch [
      | then-header_ok w ↦ and-passed c.header_ok.ensures w.if-header_ok.true (w.value-is ∙ w.columns_ok.ensures)
      | else-header_ok w ↦ and-failed _ c.header_ok.ensures w.if-header_ok.false w.value-is
    ] in
    and-passed flag c.if-columns_ok.true c.tasks_ok.ensures ∙ result-shape t c.requires

pub returns-else-columns_ok : goal.returns-else-columns_ok
returns-else-columns_ok c =
    let t = c.args.snapshot.now in
    let flag : c.if-header_ok.value ≡ header_ok t && columns_ok t =
    elim c.if-header_ok.branch [
      | then-header_ok w ↦ and-passed c.header_ok.ensures w.if-header_ok.true (w.value-is ∙ w.columns_ok.ensures)
      | else-header_ok w ↦ and-failed _ c.header_ok.ensures w.if-header_ok.false w.value-is
    ] in
    and-failed _ flag c.if-columns_ok.false refl ∙ result-shape t c.requires
