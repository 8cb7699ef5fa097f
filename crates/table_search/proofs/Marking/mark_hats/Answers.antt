-- One turn after the other, and after the last there is no lane left.
use mathlib.Core.Path.{ap, ◌∙◌}
use Prim.Native.Nat.{ℕ}
use native.Mathlib.Decide.{ℕ_discrete}
use Rattle.machine.specs.Allocate.{hats_from}
use Rattle.table_search.specs.Marked.{with_mark, with_marks, Marked}
use Rattle.table_search.proofs.Laws.Marked.{hats-kept, hats-end}
use Rattle.table_search.proofs.Marking.mark_hats.Goals as goal

pub loop-lane-preserved : goal.loop-lane-preserved
unfolding ℕ_discrete
loop-lane-preserved c =
    let l = c.loop-lane in
    let b = c.hat-in-loop-lane.result in
    hats-kept c.args.table.now l.self c.lanes-lane-end.result l.lane c.loop-lane-test.true c.hat.ensures
    c.hat-in-loop-lane.ensures (c.mark-in-loop-lane.ensures ∙ ap (λ (m : Marked). with_mark m b) c.mark.ensures) l.invariant

pub returns : goal.returns
returns c =
    let l = c.loop-lane in
    let ws = c.args.table.now in
    hats-end ws l.self c.lanes-lane-end.result l.lane c.loop-lane-test.false
    (l.invariant ∙ ap (λ (n : ℕ). with_marks c.args.self.now (hats_from ws n 0)) c.lanes-lane-end.ensures)
