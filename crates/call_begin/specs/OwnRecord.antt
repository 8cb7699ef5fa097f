-- A task's record by value, which stands for the task's words in a table.
use Rattle.std.specs.Prelude.{◌≡◌, Bool, ◌&&◌, ◌≢◌, List, ℕ, eqb, Result, Ok, Err}
use Rattle.machine.specs.declared.refusal.Refusal.{Refusal}
use Rattle.machine.specs.Tasks.{Task}
use Rattle.machine.specs.Table.{task_count, task}
use Rattle.machine.specs.Calls.{all_lanes, is_push}
use Rattle.table_record.specs.declared.Task as Tasks
use Rattle.table_record.specs.Coded.{record_of, task_meant}

-- The table `ws` with `own` for the record of task k: what a begin reads of it.
pub record WithOwn (ws : List ℕ) (k : ℕ) (own : Tasks.Task) (with-own : List ℕ) : Type 0 where
  pub lanes : all_lanes with-own ≡ all_lanes ws
  pub count : task_count with-own ≡ task_count ws
  pub its_task : task with-own k ≡ task_meant own
  pub others : (j : ℕ) → j ≢ k → task with-own j ≡ task ws j

-- A busy push of the tag n.
abbrev pub is_push_of : (n : ℕ) → Task → Bool
is_push_of n t = is_push t.operation && eqb n t.argument

-- The words of the record that its caller has after a begin over it: a refusal leaves its own.
abbrev pub words_in : Result Tasks.Task Refusal → (own : Tasks.Task) → List ℕ
words_in (Ok t) own = record_of t
words_in (Err r) own = record_of own
