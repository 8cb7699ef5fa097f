-- The flag of the chain is followed over header, nodes and tasks, as in `shape_ok`.
use mathlib.Core.Path.{◌≡◌, refl, ◌∙◌}
use mathlib.Core.Bool.{◌&&◌}
use Rattle.machine.specs.Table.{node_count}
use Rattle.machine.specs.Shape.{header_ok, all_below, node_ok}
use Rattle.table_record.specs.Coded.{record_of}
use Rattle.table_layout.proofs.Laws.Conjunctions.{and-passed, and-failed}
use Rattle.table_shape.proofs.Laws.TableWords.{header-long}
use Rattle.table_shape.proofs.Laws.LentShape.{lent-shape}
use Rattle.table_shape.proofs.lent_shape_ok.Goals as goal
use Rattle.table_shape.proofs.lent_shape_ok.Goals.{then-header_ok, else-header_ok}

pub header_ok-requires : goal.header_ok-requires
header_ok-requires c = header-long c.args.table.now c.requires

pub returns-then-nodes_ok : goal.returns-then-nodes_ok
returns-then-nodes_ok c =
    let t = c.args.table.now in
    let flag : c.if-header_ok.value ≡ header_ok t && all_below (node_count t) (node_ok t) =
    elim c.if-header_ok.branch [
      | then-header_ok w ↦ and-passed c.header_ok.ensures w.if-header_ok.true (w.value-is ∙ w.nodes_ok.ensures)
      | else-header_ok w ↦ and-failed _ c.header_ok.ensures w.if-header_ok.false w.value-is
    ] in
    let a = c.args in
    and-passed flag c.if-nodes_ok.true c.lent_tasks_ok.ensures
    ∙ lent-shape a.table.now a.k (record_of a.own)

pub returns-else-nodes_ok : goal.returns-else-nodes_ok
returns-else-nodes_ok c =
    let t = c.args.table.now in
    let flag : c.if-header_ok.value ≡ header_ok t && all_below (node_count t) (node_ok t) =
    elim c.if-header_ok.branch [
      | then-header_ok w ↦ and-passed c.header_ok.ensures w.if-header_ok.true (w.value-is ∙ w.nodes_ok.ensures)
      | else-header_ok w ↦ and-failed _ c.header_ok.ensures w.if-header_ok.false w.value-is
    ] in
    let a = c.args in
    and-failed _ flag c.if-nodes_ok.false refl
    ∙ lent-shape a.table.now a.k (record_of a.own)
