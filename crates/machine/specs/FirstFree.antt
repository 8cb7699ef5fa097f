-- What "take" gives, in 01's words: the first free node from the hint upward, going round, or none where none is free.
use Rattle.std.specs.Prelude.{◌≡◌, ◌≢◌, List, ℕ, zero, suc, ◌<◌}
use Rattle.std.proofs.Math.Option.{none}
use Rattle.machine.specs.Tasks.{no_node}
use Rattle.machine.specs.Table.{node_count}
use Rattle.machine.specs.Reach.{Reachable, Free}
use Rattle.machine.specs.Round.{following}
use Rattle.machine.specs.Allocate.{allocate}
use Rattle.machine.specs.Calls.{table_refusal}

-- Where i steps lead from x upward, going round past S - 1 to 0.
abbrev pub nth : (S x i : ℕ) → ℕ
nth S x zero = x
nth S x (suc i) = nth S (following S x) i

-- x is the first free node on the way from the hint: it is free, and every node met before it is reachable.
pub record FirstFreeFrom (ws : List ℕ) (hint x : ℕ) : Type 0 where
  pub free : Free ws x
  pub steps : ℕ
  pub few_steps : steps < node_count ws
  pub there : x ≡ nth (node_count ws) hint steps
  pub passed : (j : ℕ) → j < steps → Reachable ws (nth (node_count ws) hint j)

-- 01: "take" means the first free slot from the hint upward, going round past S - 1 to 0.
abbrev pub TakesFirstFree : Type 0
TakesFirstFree =
    (ws : List ℕ)
    → table_refusal ws none ≡ none
    → (hint : ℕ)
    → hint < node_count ws
    → (allocate ws hint ≢ no_node → FirstFreeFrom ws hint (allocate ws hint))
    × (allocate ws hint ≡ no_node → (x : ℕ) → x < node_count ws → Reachable ws x)
