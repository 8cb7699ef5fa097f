-- Request 2026-06: what stands in a register that does not hold is never seen.
use Rattle.std.specs.Prelude.{◌≡◌, true, List, [], ◌∷◌, ℕ}
use Rattle.std.proofs.Math.Option.{none}
use Rattle.machine.specs.Sides.{Side}
use Rattle.machine.specs.Tasks.{Task, Register, in_a, in_b, in_c, in_d, register, with_registers}
use Rattle.machine.specs.Registers.{holds, held_in}
use Rattle.machine.specs.Table.{
  node_count,
  task_count,
  growth,
  lane_count,
  hat,
  tick_count,
  dispatched,
  link,
  value,
  task,
  set_task,
}
use Rattle.machine.specs.Calls.{is_busy, table_refusal}
use Rattle.machine.specs.Demand3.{Call, given, after}

-- Two records are the same but for registers that do not hold at their step.
pub record SameButUnneeded (t u : Task) : Type 0 where
  pub same_operation : u.operation ≡ t.operation
  pub same_step : u.step ≡ t.step
  pub same_side : u.side ≡ t.side
  pub same_argument : u.argument ≡ t.argument
  pub same_counted : u.counted ≡ t.counted
  pub same_value : u.value ≡ t.value
  pub same_lane : u.lane ≡ t.lane
  pub same_registers : (r : Register) → holds t.step r ≡ true → register u r ≡ register t r

-- Two accepted tables are the same but for such registers.
pub record Alike (ws vs : List ℕ) : Type 0 where
  pub accepted : table_refusal ws none ≡ none
  pub accepted' : table_refusal vs none ≡ none
  pub same_nodes : node_count vs ≡ node_count ws
  pub same_count : task_count vs ≡ task_count ws
  pub same_growth : growth vs ≡ growth ws
  pub same-lanes : lane_count vs ≡ lane_count ws
  pub same_hats : (l : ℕ) (s : Side) → hat vs l s ≡ hat ws l s
  pub same_ticks : tick_count vs ≡ tick_count ws
  pub same_dispatched : dispatched vs ≡ dispatched ws
  pub same_links : (s : Side) (x : ℕ) → link vs s x ≡ link ws s x
  pub same_values : (x : ℕ) → value vs x ≡ value ws x
  pub same_tasks : (k : ℕ) → SameButUnneeded (task ws k) (task vs k)

-- Every call of a list gives the same on both tables, its answer and the words that it writes into a slice of its own,
-- and the tables that the list leaves are alike.
abbrev pub SameFor : List Call → (ws vs : List ℕ) → Type 0
SameFor [] ws vs = Alike ws vs
SameFor (c ∷ cs) ws vs = (given c vs ≡ given c ws) × SameFor cs (after c ws) (after c vs)

-- Tables that are alike are the same for every list of calls.
abbrev pub UnneededUnseen : Type 0
UnneededUnseen = (ws vs : List ℕ) → Alike ws vs → (calls : List Call) → SameFor calls ws vs

-- ---- The same, as something that may be done to a table.

-- The record with none in the registers that do not hold at its step.
abbrev pub cleared : Task → Task
cleared t = with_registers t (held_in t in_a) (held_in t in_b) (held_in t in_c) (held_in t in_d)

-- In any accepted table the registers of a busy task that do not hold may be set to none: every list of calls then
-- gives the same.
abbrev pub ClearingUnseen : Type 0
ClearingUnseen =
    (ws : List ℕ)
    → table_refusal ws none ≡ none
    → (k : ℕ)
    → is_busy (task ws k).operation ≡ true
    → (calls : List Call)
    → SameFor calls ws (set_task k (cleared (task ws k)) ws)
