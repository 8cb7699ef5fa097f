-- `lane_walk::Lanes::locate` meets its contract: the bags counted and those of the walk ahead are all, and the node of
-- the place is had, or the last that was gone to.
use mathlib.Core.Path.{◌≡◌}
use mathlib.Core.List.{List}
use Prim.Native.Nat.{ℕ, ◌-◌, min}
use Rattle.machine.specs.Sides.{left, right}
use Rattle.machine.specs.Table.{node_count, hat, link}
use Rattle.machine.specs.Calls.{lane_from, lane}
use Rattle.machine.proofs.Shape.BusyLaws.{NodeOrNone}
use Rattle.lane_walk.specs.Walks.{count_of, node_after}
use Rattle.lane_walk.proofs.Laws.Places.{counted}
use Rattle.lane_walk.proofs.Lanes.locate.Given as goal

-- What holds before each turn.
pub record Turn (table : List ℕ) (l place x there n : ℕ) : Type 0 where
  pub node-or-none : NodeOrNone (node_count table) x
  pub node-reached : x ≡ node_after table n (link table right (hat table l left))
  pub node_had : there ≡ node_after table (min place n) (link table right (hat table l left))
  pub count-alike : counted n (lane_from table (node_count table - n) x) ≡ count_of (lane table l)

abbrev pub invariant-loop-n : goal.invariant-loop-n
invariant-loop-n l = Turn l.self.table.now l.l l.place l.x l.there l.n
