-- One turn after the other, and after the last there is no task left.
use mathlib.Core.Path.{ap, ◌∙◌}
use Prim.Native.Nat.{ℕ}
use Rattle.machine.specs.Allocate.{held_from}
use Rattle.table_search.specs.Marked.{with_marks}
use Rattle.table_search.proofs.Laws.Marked.{held-kept, held-end}
use Rattle.table_search.proofs.Marking.mark_tasks.Goals as goal

pub loop-k-preserved : goal.loop-k-preserved
loop-k-preserved c =
    let l = c.loop-k in
    held-kept c.args.table.now l.self c.tasks-k-end.result l.k c.loop-k-test.true c.tasks-k-end.ensures c.task.ensures
    c.mark_held.ensures l.invariant

pub returns : goal.returns
returns c =
    let l = c.loop-k in
    let ws = c.args.table.now in
    held-end ws l.self c.tasks-k-end.result l.k c.loop-k-test.false
    (l.invariant ∙ ap (λ (n : ℕ). with_marks c.args.self.now (held_from ws n 0)) c.tasks-k-end.ensures)
