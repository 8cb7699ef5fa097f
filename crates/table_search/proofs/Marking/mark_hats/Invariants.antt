-- Marking the hats of the lanes that are left gives what marking the hats of all lanes gives at the start.
use mathlib.Core.Path.{◌≡◌}
use Prim.Native.Nat.{◌-◌}
use Rattle.machine.specs.Allocate.{hats_from}
use Rattle.table_search.specs.Marked.{with_marks}
use Rattle.table_search.proofs.Marking.mark_hats.Given as goal

abbrev pub invariant-loop-lane : goal.invariant-loop-lane
invariant-loop-lane l =
    with_marks l.self (hats_from l.table (l.lane-end - l.lane) l.lane)
    ≡ with_marks l.initial.self (hats_from l.table l.lane-end 0)
