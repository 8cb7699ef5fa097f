-- Marking what the tasks that are left hold gives what marking all that the tasks hold gives at the start.
use mathlib.Core.Path.{◌≡◌}
use Prim.Native.Nat.{◌-◌}
use Rattle.machine.specs.Allocate.{held_from}
use Rattle.table_search.specs.Marked.{with_marks}
use Rattle.table_search.proofs.Marking.mark_tasks.Given as goal

abbrev pub invariant-loop-k : goal.invariant-loop-k
invariant-loop-k l =
    with_marks l.self (held_from l.table (l.k-end - l.k) l.k)
    ≡ with_marks l.initial.self (held_from l.table l.k-end 0)
