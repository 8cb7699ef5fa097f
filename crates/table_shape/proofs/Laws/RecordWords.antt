-- What the definitions say of a record where the code has compared its words with numbers.
use mathlib.Core.Path.{◌≡◌}
use mathlib.Core.Bool.{Bool, true, false, ◌&&◌, and_assoc, and-true, and-false}
use mathlib.Core.List.{List}
use Prim.Native.Nat.{ℕ, ◌≤◌, ◌<◌}
use lib.Dec.{ltb}
use lib.ListN.{get_or}
use borrow.Author.Tests.{le-leb, lt-leb}
use Rattle.machine.specs.Sides.{side_of}
use Rattle.machine.specs.Values.{number}
use Rattle.machine.specs.Operations.{operation_of, argument_ok, goal_of}
use Rattle.machine.specs.Steps.{steps_of, is_step_in}
use Rattle.machine.specs.Shape.{node_or_none, value_read_ok, counted_ok, busy_ok}
use Rattle.table_record.specs.declared.Task as Tasks
use Rattle.table_record.specs.Coded.{record_of}

-- ---- A record of a task that is in a call.

-- The tests between those of operation, side and argument and those of the registers.
abbrev pub call_ok : (growth : ℕ) → Tasks.Task → Bool
call_ok g t =
    is_step_in (steps_of (operation_of t.operation)) t.step
    && (counted_ok t.step (goal_of (operation_of t.operation) g (number t.argument)) t.counted
    && value_read_ok (side_of t.side) t.step t.value)

abbrev registers_ok : (S lanes : ℕ) → List ℕ → (lane : ℕ) → Bool
registers_ok S L rs l =
    node_or_none S (get_or rs 0 0)
    && node_or_none S (get_or rs 1 0)
    && node_or_none S (get_or rs 2 0)
    && node_or_none S (get_or rs 3 0)
    && ltb l L

module _ (S g L : ℕ) (t : Tasks.Task) where
  pub operation-fails : 4 < t.operation → false ≡ busy_ok S g L (record_of t)
  unfolding busy_ok
  operation-fails h = rw (lt-leb t.operation 4 h)

  pub side-fails : t.operation ≤ 4 → 1 < t.side → false ≡ busy_ok S g L (record_of t)
  unfolding busy_ok
  side-fails h k = rw (le-leb t.operation 4 h, lt-leb t.side 1 k)

  pub argument-fails :
      t.operation ≤ 4
      → t.side ≤ 1
      → argument_ok (operation_of t.operation) t.argument ≡ false
      → false ≡ busy_ok S g L (record_of t)
  unfolding busy_ok
  argument-fails h k e =
      rw (
        le-leb t.operation 4 h,
        le-leb t.side 1 k,
        e,
        and-false (is_step_in (steps_of (operation_of t.operation)) t.step),
      )

  pub busy-tests :
      t.operation ≤ 4
      → t.side ≤ 1
      → argument_ok (operation_of t.operation) t.argument ≡ true
      → call_ok g t && registers_ok S L t.registers t.lane ≡ busy_ok S g L (record_of t)
  unfolding busy_ok
  busy-tests h k e =
      rw (
        le-leb t.operation 4 h,
        le-leb t.side 1 k,
        e,
        and-true (is_step_in (steps_of (operation_of t.operation)) t.step),
      ) (simp and_assoc)
