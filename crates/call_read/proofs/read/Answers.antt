-- `call_read::read` meets its contract: a table that passes has lanes to walk.
use Rattle.machine.proofs.Shape.ShapeLaws.{well-linked}
use Rattle.table_shape.proofs.Laws.PassedTable.{table-passed}
use Rattle.call_read.proofs.read.Goals as goal

pub invariant_of-read_lane : goal.invariant_of-read_lane
invariant_of-read_lane c =
    let ws = c.args.table.now in record { linked = well-linked ws (table-passed ws c.in_ok-table_refusal.ensures) }
