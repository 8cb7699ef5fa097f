-- `call_start::fresh::Sizes::write_sentinels` meets its contract: what is written and what is to come are those of all
-- lanes.
use mathlib.Core.Path.{◌≡◌}
use Prim.Native.Nat.{◌*◌, ◌-◌}
use Rattle.machine.specs.Table.{node_length}
use Rattle.machine.specs.Calls.{start_nodes}
use Rattle.call_start.proofs.Filling.{sentinels}
use Rattle.call_start.proofs.fresh.Sizes.write_sentinels.Given as goal

abbrev pub invariant-loop-l : goal.invariant-loop-l
invariant-loop-l l = sentinels l.ns (node_length * (2 * l.l)) (l.l-end - l.l) l.l ≡ start_nodes l.l-end 0
