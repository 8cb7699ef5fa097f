-- A register that does not hold counts as none, which is never marked.
use native.Mathlib.Omega.{arith}
use borrow.Author.Tests.{eq-eqb}
use Rattle.machine.specs.Tasks.{no_node}
use Rattle.table_search.proofs.Laws.Arrays.{no_node-unmarked}
use Rattle.table_search.proofs.Marking.mark_found.Goals as goal

pub returns-else-found-ne0 : goal.returns-else-found-ne0
returns-else-found-ne0 c =
    rw (eq-eqb c.args.found 0 c.if-found-ne0.false)
    (no_node-unmarked c.args.self.now no_node (rw (← c.self.view_is) (omega (arith, c.self.invariant.room.few))))
