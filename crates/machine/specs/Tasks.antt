-- The task record: what it says, and its words.
use Rattle.std.specs.Prelude.{List, [], ◌∷◌, ◌++◌, ℕ, get_or}
use Rattle.machine.specs.Sides.{Side, left, side_number, side_of}
use Rattle.machine.specs.declared.Stored.{Stored}
use Rattle.machine.specs.Values.{Value, never, encode, decode, stored, number, stored_words, stored_at}
use Rattle.machine.specs.Operations.{Operation, idle, operation_number, operation_of, goal_of}
use Rattle.machine.specs.Steps.{Step, rest, step_number, step_of}

-- 01: 65,535 for none: no node.
abbrev pub no_node : ℕ
no_node = 65535

-- 01: operation, step, side, argument, counted, value read, and four registers, node numbers or none. Argument and
-- value read include the digit that 02 gives them. 02: "A task's last word is its lane".
pub record Task : Type 0 where
  pub operation : Operation
  pub step : Step
  pub side : Side
  pub argument : ℕ
  pub counted : ℕ
  pub value : Value
  pub A : ℕ
  pub B : ℕ
  pub C : ℕ
  pub D : ℕ
  pub lane : ℕ

-- 02: a fresh record is eight zeros and four nones, and the lane is "0 when idle".
abbrev pub fresh : Task
fresh =
    record {
      operation = idle;
      step = rest;
      side = left;
      argument = 0;
      counted = 0;
      value = never;
      A = no_node;
      B = no_node;
      C = no_node;
      D = no_node;
      lane = 0;
    }

-- The registers, by name.
pub data Register : Type 0 where
  in_a in_b in_c in_d : Register

abbrev pub register : Task → Register → ℕ
register t in_a = t.A
register t in_b = t.B
register t in_c = t.C
register t in_d = t.D

-- 01: the task's goal, where growth is the table's.
abbrev pub goal : (growth : ℕ) → Task → ℕ
goal growth t = goal_of t.operation growth t.argument

-- ---- The words of a record.
abbrev pub record_length : ℕ
record_length = 13

-- In 01's order, each leading digit after the word that it belongs to; the lane last.
abbrev pub words_of : Task → List ℕ
words_of t =
    operation_number t.operation
    ∷ step_number t.step
    ∷ side_number t.side
    ∷ (stored_words (stored t.argument)
    ++ (t.counted
    ∷ (stored_words (encode t.value)
    ++ (t.A ∷ t.B ∷ t.C ∷ t.D ∷ t.lane ∷ []))))

-- Each by its name. No other file says where in a record a word stands.
abbrev pub operation_word : List ℕ → ℕ
operation_word r = get_or r 0 0

abbrev pub step_word : List ℕ → ℕ
step_word r = get_or r 1 0

abbrev pub side_word : List ℕ → ℕ
side_word r = get_or r 2 0

abbrev pub argument_words : List ℕ → Stored
argument_words r = stored_at r 3

abbrev pub counted_word : List ℕ → ℕ
counted_word r = get_or r 5 0

abbrev pub value_read_words : List ℕ → Stored
value_read_words r = stored_at r 6

abbrev pub register_word : List ℕ → Register → ℕ
register_word r in_a = get_or r 8 0
register_word r in_b = get_or r 9 0
register_word r in_c = get_or r 10 0
register_word r in_d = get_or r 11 0

abbrev pub lane_word : List ℕ → ℕ
lane_word r = get_or r 12 0

-- The record of its words.
abbrev pub task_of : List ℕ → Task
task_of r =
    record {
      operation = operation_of (operation_word r);
      step = step_of (step_word r);
      side = side_of (side_word r);
      argument = number (argument_words r);
      counted = counted_word r;
      value = decode (value_read_words r);
      A = register_word r in_a;
      B = register_word r in_b;
      C = register_word r in_c;
      D = register_word r in_d;
      lane = lane_word r;
    }

-- ---- The record of the same call further on: at a step, with a count, a value read and registers.
abbrev pub further : Task → Step → (counted : ℕ) → Value → (a b c d : ℕ) → Task
further t st n v a b c d =
    record {
      operation = t.operation;
      step = st;
      side = t.side;
      argument = t.argument;
      counted = n;
      value = v;
      A = a;
      B = b;
      C = c;
      D = d;
      lane = t.lane;
    }

-- With one thing set.
abbrev pub goto : Task → Step → Task
goto t st = further t st t.counted t.value t.A t.B t.C t.D

abbrev pub with_registers : Task → (a b c d : ℕ) → Task
with_registers t a b c d = further t t.step t.counted t.value a b c d

abbrev pub with_a : Task → ℕ → Task
with_a t x = with_registers t x t.B t.C t.D

abbrev pub with_b : Task → ℕ → Task
with_b t x = with_registers t t.A x t.C t.D

abbrev pub with_c : Task → ℕ → Task
with_c t x = with_registers t t.A t.B x t.D

abbrev pub with_d : Task → ℕ → Task
with_d t x = with_registers t t.A t.B t.C x

abbrev pub with_counted : Task → ℕ → Task
with_counted t n = further t t.step n t.value t.A t.B t.C t.D

abbrev pub with_value : Task → Value → Task
with_value t v = further t t.step t.counted v t.A t.B t.C t.D
