-- Visiting the queue from the head on gives what visiting all of it gives at the start.
use mathlib.Core.Path.{◌≡◌}
use Prim.Native.Nat.{◌-◌}
use Rattle.machine.specs.Allocate.{largest_count, visit_from}
use Rattle.table_search.specs.Marked.{Searchable}
use Rattle.table_search.proofs.Marking.spread.Given as goal

abbrev pub invariant-loop-head : goal.invariant-loop-head
invariant-loop-head l =
    Searchable l.table l.self
    × (visit_from l.table (largest_count - l.head) l.head l.self.marking
    ≡ visit_from l.table largest_count 0 l.initial.self.marking)

abbrev pub decreases-loop-head : goal.decreases-loop-head
decreases-loop-head l = largest_count - l.head
