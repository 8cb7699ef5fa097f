-- `call_start::fresh::Sizes::write` meets its contract.
use mathlib.Core.Path.{◌∙◌}
use Prim.Native.Nat.{◌-◌}
use native.Mathlib.Omega.{arith}
use lib.ListN.{length}
use borrow.Rule.Slice.PartMut.{mid_len}
use Rattle.call_start.proofs.Filling.{table-started}
use Rattle.call_start.proofs.fresh.Sizes.write.Goals as goal

pub returns : goal.returns
returns c =
    let s = c.args.self in
    let t = c.write_header.new.table in
    let w = c.write_nodes in
    let long = w.auto.ns ∙ mid_len c.node_at-from.result (length t) t (omega arith) in
    table-started s.slots s.tasks s.growth s.lanes c.args.table.now t w.new.ns c.write_tasks.new.table
    (length t - c.node_at-from.result) (omega arith) c.node_at-from.ensures c.write_header.ensures
    (omega (arith, long)) w.ensures c.write_tasks.ensures
