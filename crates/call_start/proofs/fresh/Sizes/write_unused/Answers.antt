use mathlib.Core.Path.{◌≡◌, sym, ap, ◌∙◌}
use Prim.Native.Nat.{◌+◌, ◌*◌, ◌-◌}
use native.Mathlib.Omega.{arith}
use Rattle.machine.specs.Tasks.{no_node}
use Rattle.machine.specs.Table.{node_length}
use Rattle.table_layout.specs.Words.{set_node_in}
use Rattle.call_start.proofs.Filling.{filling-more, filling-done}
use Rattle.call_start.proofs.fresh.Sizes.write_unused.Invariants.{unused}
use Rattle.call_start.proofs.fresh.Sizes.write_unused.Goals as goal

pub loop-x-preserved : goal.loop-x-preserved
loop-x-preserved c =
    let l = c.loop-x in
    let n = c.args.self.slots in
    let written = c.write.ensures ∙ ap (set_node_in l.ns l.x no_node no_node) c.never.ensures in
    rw written
    (filling-more l.ns unused (node_length * l.x) (node_length * (l.x + 1)) (n - l.x) (n - (l.x + 1))
    (omega arith) (omega arith) (omega arith)
    ∙ l.invariant)

pub returns : goal.returns
returns c =
    let l = c.loop-x in
    let n = c.args.self.slots in
    let e : node_length * n ≡ node_length * l.x = omega arith in
    rw e (sym (filling-done l.ns unused (node_length * l.x) (n - l.x) (omega arith)) ∙ l.invariant)
