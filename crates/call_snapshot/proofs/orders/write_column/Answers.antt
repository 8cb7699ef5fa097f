use Rattle.std.proofs.Common.{◌+◌, ◌*◌, get_or}
use Rattle.machine.specs.Table.{node_length}
use Rattle.call_snapshot.proofs.Laws.Fronts.{nothing-listed}
use Rattle.call_snapshot.proofs.orders.write_column.Goals as goal

pub loop-x-init : goal.loop-x-init
loop-x-init c =
    let a = c.args in
    nothing-listed a.column.now (λ y. get_or a.ns.now (node_length * y + a.c) 0)
