use Rattle.std.proofs.Common.{◌+◌, ◌*◌, refl, sym, ap, ◌∙◌, arith, take, take_all}
use Rattle.machine.specs.Table.{node_length}
use Rattle.machine.specs.Snapshots.{rows, transposed}
use Rattle.table_layout.specs.Words.{set_node_in}
use Rattle.call_snapshot.proofs.Laws.Fronts.{no_row, node-words, one-node}
use Rattle.call_snapshot.proofs.orders.ByNodesOrder.write.Invariants.{word_in}
use Rattle.call_snapshot.proofs.orders.ByNodesOrder.write.Goals as goal

pub loop-x-init : goal.loop-x-init
loop-x-init c = no_row c.args.to.now node_length (word_in c.args.slots c.args.from.now)

pub loop-x-preserved : goal.loop-x-preserved
loop-x-preserved c =
    let l = c.loop-x in
    let a = c.args in
    let cs = a.from.now in
    ap (take (node_length * (l.x + 1))) (c.write.ensures ∙ ap (set_node_in l.to l.x _ _) c.of_words.ensures)
    ∙ one-node l.to (word_in a.slots cs) l.x _ (omega arith) l.invariant
    (node-words a.slots cs c.requires.0 l.x (omega arith)) refl

pub returns : goal.returns
unfolding transposed
returns c =
    let l = c.loop-x in
    let a = c.args in
    sym (take_all (node_length * l.x) l.to (omega arith))
    ∙ l.invariant
    ∙ ap (λ m. rows m node_length (word_in a.slots a.from.now)) (omega arith)
