-- How the code holds a task record: as a struct, whose words are the record's in 01's order.
use Rattle.std.specs.Prelude.{◌≡◌, List, [], ◌∷◌, ◌++◌, ℕ, get_or, set}
use Rattle.table_record.specs.declared.Task as Tasks
use Rattle.machine.specs.declared.Stored.{Stored}
use Rattle.machine.specs.Values.{stored_words}
use Rattle.machine.specs.Tasks.{
  Task,
  fresh,
  in_a,
  in_b,
  in_c,
  in_d,
  words_of,
  operation_word,
  step_word,
  side_word,
  argument_words,
  counted_word,
  value_read_words,
  register_word,
  lane_word,
  task_of,
}

-- The struct of a record's words, and its words in 01's order.
abbrev pub struct_of : List ℕ → Tasks.Task
struct_of r =
    record {
      operation = operation_word r;
      step = step_word r;
      side = side_word r;
      argument = argument_words r;
      counted = counted_word r;
      value = value_read_words r;
      registers = register_word r in_a ∷ register_word r in_b ∷ register_word r in_c ∷ register_word r in_d ∷ [];
      lane = lane_word r;
    }

abbrev pub record_of : Tasks.Task → List ℕ
record_of t =
    t.operation
    ∷ t.step
    ∷ t.side
    ∷ (stored_words t.argument
    ++ (t.counted
    ∷ (stored_words t.value
    ++ (get_or t.registers 0 0
    ∷ get_or t.registers 1 0
    ∷ get_or t.registers 2 0
    ∷ get_or t.registers 3 0
    ∷ t.lane
    ∷ []))))

-- The struct of a record, and the record of a struct.
abbrev pub coded_task : Task → Tasks.Task
coded_task t = struct_of (words_of t)

abbrev pub task_meant : Tasks.Task → Task
task_meant t = task_of (record_of t)

abbrev pub fresh_task : Tasks.Task
fresh_task = coded_task fresh

-- The struct of the same call further on, and with one thing changed.
abbrev further_on : Tasks.Task → (step counted : ℕ) → Stored → (registers : List ℕ) → Tasks.Task
further_on t st n v rs =
    record {
      operation = t.operation;
      step = st;
      side = t.side;
      argument = t.argument;
      counted = n;
      value = v;
      registers = rs;
      lane = t.lane;
    }

abbrev pub at_step : Tasks.Task → ℕ → Tasks.Task
at_step t st = further_on t st t.counted t.value t.registers

abbrev pub with_register : Tasks.Task → (i x : ℕ) → Tasks.Task
with_register t i x = further_on t t.step t.counted t.value (set t.registers i x)

abbrev pub with_value_read : Tasks.Task → Stored → Tasks.Task
with_value_read t v = further_on t t.step t.counted v t.registers

abbrev pub with_count : Tasks.Task → ℕ → Tasks.Task
with_count t n = further_on t t.step n t.value t.registers

-- Two structs of the same call: of what it was begun with, which no line changes before it answers.
abbrev pub SameCall : (t u : Tasks.Task) → Type 0
SameCall t u =
    (t.operation ≡ u.operation) × (t.side ≡ u.side) × (t.argument ≡ u.argument) × (t.lane ≡ u.lane)
