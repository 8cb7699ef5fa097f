-- Which nodes are reachable: the slot rule, as a predicate.
use Rattle.std.specs.Prelude.{◌≡◌, ◌≢◌, true, List, ℕ, ◌<◌}
use Rattle.machine.specs.Sides.{Side}
use Rattle.machine.specs.Tasks.{no_node, Register, register}
use Rattle.machine.specs.Registers.{holds}
use Rattle.machine.specs.Table.{node_count, lane_count, hat, link, task}

-- 01: a chain of links, L or R, leads to the node from a hat or any task's register, itself included. 2026-06: only
-- from a register that holds its node at the task's step. 2026-12: from a hat of any lane.
pub data Reachable (ws : List ℕ) : ℕ → Type 0 where
  from_hat : (l : ℕ) (s : Side) → l < lane_count ws → Reachable ws (hat ws l s)
  from_register : (k : ℕ) (r : Register)
      → holds (task ws k).step r ≡ true
      → register (task ws k) r ≢ no_node
      → Reachable ws (register (task ws k) r)
  along : {x : ℕ} (s : Side) → Reachable ws x → link ws s x ≢ no_node → Reachable ws (link ws s x)

-- 01: a slot is free when nothing reaches it.
pub record Free (ws : List ℕ) (x : ℕ) : Type 0 where
  pub is_node : x < node_count ws
  pub unreached : Reachable ws x → ⊥
