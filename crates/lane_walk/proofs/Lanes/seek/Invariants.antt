-- `lane_walk::Lanes::seek` meets its contract: the bags tallied and those ahead are those of the whole walk.
use mathlib.Core.Path.{◌≡◌}
use mathlib.Core.Bool.{Bool}
use mathlib.Core.List.{List}
use Prim.Native.Nat.{ℕ, ◌-◌}
use Rattle.machine.specs.Table.{node_count}
use Rattle.machine.specs.Calls.{lane_from, lane}
use Rattle.machine.proofs.Shape.BusyLaws.{NodeOrNone}
use Rattle.lane_walk.specs.Walks.{walk_of}
use Rattle.lane_walk.proofs.Laws.Tally.{tallied}
use Rattle.lane_walk.proofs.Lanes.seek.Given as goal

-- What holds before each turn.
pub record Turn (table : List ℕ) (l sought x n : ℕ) (found : Bool) : Type 0 where
  pub node-or-none : NodeOrNone (node_count table) x
  pub tally-alike :
      tallied sought n found (lane_from table (node_count table - n) x) ≡ walk_of sought (lane table l)

abbrev pub invariant-loop-n : goal.invariant-loop-n
invariant-loop-n l = Turn l.self.table.now l.l l.sought l.x l.n l.found
