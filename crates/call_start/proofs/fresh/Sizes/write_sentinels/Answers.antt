use mathlib.Core.Path.{◌≡◌, sym, ap, ◌∙◌}
use mathlib.Core.List.{List}
use Prim.Native.Nat.{ℕ, ◌+◌, ◌*◌, ◌-◌}
use native.Mathlib.Omega.{arith}
use native.Mathlib.Decide.{ℕ_discrete}
use Rattle.machine.specs.Sides.{right}
use Rattle.machine.specs.Values.{X, encode}
use Rattle.machine.specs.Tasks.{no_node}
use Rattle.machine.specs.Table.{node_length}
use Rattle.table_layout.specs.Words.{set_node_in}
use Rattle.call_start.proofs.Filling.{sentinels-more, sentinels-done}
use Rattle.call_start.proofs.fresh.Sizes.write_sentinels.Goals as goal

pub loop-l-preserved : goal.loop-l-preserved
unfolding ℕ_discrete
loop-l-preserved c =
    let l = c.loop-l in
    let n = c.args.self.lanes in
    let one =
    c.write.ensures ∙ ap (set_node_in l.ns (2 * l.l) no_node (2 * l.l + 1)) c.of.ensures in
    let two =
    c.write-in-loop-l.ensures
    ∙ ap (set_node_in c.write.new.nodes (2 * l.l + 1) (2 * l.l) no_node) c.of-in-loop-l.ensures
    ∙ ap (λ (t : List ℕ). set_node_in t (2 * l.l + 1) (2 * l.l) no_node (encode (X right))) one in
    rw two (sentinels-more l.ns l.l (n - l.l) (n - (l.l + 1)) (omega arith) (omega arith) ∙ l.invariant)

pub returns : goal.returns
returns c =
    let l = c.loop-l in
    let n = c.args.self.lanes in
    let e : node_length * (2 * n) ≡ node_length * (2 * l.l) = omega arith in
    rw e (sym (sentinels-done l.ns (node_length * (2 * l.l)) (n - l.l) l.l (omega arith)) ∙ l.invariant)
