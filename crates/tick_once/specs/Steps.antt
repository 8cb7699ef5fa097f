-- A tick in code: what it relies on, the node that it takes, and what it comes to.
use Rattle.std.specs.Prelude.{◌≡◌, true, List, ℕ, ◌<◌, get_or}
use Rattle.machine.specs.Choice.{◌≟◌, if?◌then◌else◌}
use Rattle.machine.specs.Tasks.{no_node}
use Rattle.machine.specs.Table.{node_count, task_count, task}
use Rattle.machine.specs.Shape.{WellFormed}
use Rattle.machine.specs.Calls.{is_busy, Ticked, effect_of, applied}
use Rattle.table_record.specs.declared.Task as Tasks

-- A tick that has passed the tests before refusal 11.
pub record MayTick (ws : List ℕ) (k hint : ℕ) : Type 0 where
  pub table : WellFormed ws
  pub is_task : k < task_count ws
  pub is_hint : hint < node_count ws
  pub busy : is_busy (task ws k).operation ≡ true

-- The node that line 31 is given. (01: at step 31 the test of D precedes the search.)
abbrev pub found_at31 : Tasks.Task → (f : ℕ) → ℕ
found_at31 t f = if? get_or t.registers 3 0 ≟ no_node then no_node else f

-- What a tick of a busy task comes to.
abbrev pub made : List ℕ → (k hint : ℕ) → Ticked
made ws k h = applied (task ws k).lane (task ws k).side ws k (effect_of ws k h)
