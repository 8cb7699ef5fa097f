-- The flag of the chain is followed over header, nodes and tasks.
use mathlib.Core.Path.{◌≡◌, refl, ◌∙◌}
use mathlib.Core.Bool.{◌&&◌}
use Rattle.machine.specs.Table.{node_count}
use Rattle.machine.specs.Shape.{header_ok, all_below, node_ok, shape_ok}
use Rattle.table_layout.proofs.Laws.Conjunctions.{and-passed, and-failed}
use Rattle.table_shape.proofs.Laws.TableWords.{header-long}
use Rattle.table_shape.proofs.shape_ok.Goals as goal
use Rattle.table_shape.proofs.shape_ok.Goals.{then-header_ok, else-header_ok}

pub header_ok-requires : goal.header_ok-requires
header_ok-requires c = header-long c.args.table.now c.requires

pub returns-then-nodes_ok : goal.returns-then-nodes_ok
unfolding shape_ok
returns-then-nodes_ok c =
    let t = c.args.table.now in
    let flag : c.if-header_ok.value ≡ header_ok t && all_below (node_count t) (node_ok t) =
    elim c.if-header_ok.branch [
      | then-header_ok w ↦ and-passed c.header_ok.ensures w.if-header_ok.true (w.value-is ∙ w.nodes_ok.ensures)
      | else-header_ok w ↦ and-failed _ c.header_ok.ensures w.if-header_ok.false w.value-is
    ] in
    and-passed flag c.if-nodes_ok.true c.tasks_ok.ensures

pub returns-else-nodes_ok : goal.returns-else-nodes_ok
unfolding shape_ok
returns-else-nodes_ok c =
    let t = c.args.table.now in
    let flag : c.if-header_ok.value ≡ header_ok t && all_below (node_count t) (node_ok t) =
    elim c.if-header_ok.branch [
      | then-header_ok w ↦ and-passed c.header_ok.ensures w.if-header_ok.true (w.value-is ∙ w.nodes_ok.ensures)
      | else-header_ok w ↦ and-failed _ c.header_ok.ensures w.if-header_ok.false w.value-is
    ] in
    and-failed _ flag c.if-nodes_ok.false refl
