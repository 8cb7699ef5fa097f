-- `call_start::fresh::Sizes::hats` meets its contract: the hats below x are their own places, and the others none.
use mathlib.Core.Path.{◌≡◌}
use mathlib.Core.List.{List}
use Prim.Native.Nat.{ℕ, ◌*◌, ◌≤◌, ◌<◌}
use lib.ListN.{length, get_or}
use Rattle.machine.specs.Tasks.{no_node}
use Rattle.machine.specs.Table.{most_lanes}
use Rattle.call_start.proofs.fresh.Sizes.hats.Given as goal

pub record Turn (hats : List ℕ) (x : ℕ) : Type 0 where
  pub hats-long : length hats ≡ 2 * most_lanes
  pub used : (k : ℕ) → k < x → get_or hats k 0 ≡ k
  pub unused_none : (k : ℕ) → x ≤ k → k < 2 * most_lanes → get_or hats k 0 ≡ no_node

abbrev pub invariant-loop-x : goal.invariant-loop-x
invariant-loop-x l = Turn l.hats l.x
