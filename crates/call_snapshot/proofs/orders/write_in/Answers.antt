-- Header and records, and between them the nodes' words in the order.
use Rattle.machine.proofs.Snapshots.RoundTrips.{has-nodes}
use Rattle.call_snapshot.proofs.Laws.Parts.{order-laid}
use Rattle.call_snapshot.proofs.orders.write_in.Goals as goal

pub returns : goal.returns
returns g c =
    let a = c.args in
    order-laid g.O.Order.order a.from.now a.to.now c.write.new.to
    (has-nodes a.from.now c.requires.0) c.requires.1 c.slots-slots.ensures c.node_at-first.ensures c.node_at-end.ensures
    c.copy_ends.ensures c.part.ensures c.write.ensures
