-- The table of the steps' owners that the code keeps, and when it is right.
use Rattle.std.specs.Prelude.{◌≡◌, Bool, List, ℕ, ◌≤◌, ◌/◌, ◌%◌, ◌^◌, eqb, get_or}
use Rattle.machine.specs.Operations.{operation_of}
use Rattle.machine.specs.Steps.{steps_of, is_step_in}

-- Whether the operation's bit is in the entry.
abbrev pub owned : (operation entry : ℕ) → Bool
owned op e = eqb (e / 2 ^ op % 2) 1

-- The entry answers as 01's lists do for each operation of a call.
pub record OwnerOk (step entry : ℕ) : Type 0 where
  pub answers : (op : ℕ) → 1 ≤ op → op ≤ 4 → owned op entry ≡ is_step_in (steps_of (operation_of op)) step

pub record OwnersOk (table : List ℕ) : Type 0 where
  pub at-step : (s : ℕ) → OwnerOk s (get_or table s 0)
