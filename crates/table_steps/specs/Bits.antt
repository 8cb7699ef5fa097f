-- The table of bits that the code keeps: what an entry says of each register, and when the table is right.
use Rattle.std.specs.Prelude.{◌≡◌, Bool, not, List, ℕ, ◌/◌, ◌%◌, eqb, get_or}
use Rattle.machine.specs.Steps.{step_of}
use Rattle.machine.specs.Tasks.{Register, in_a, in_b, in_c, in_d}
use Rattle.machine.specs.Registers.{holds}

abbrev bit_of : Register → ℕ
bit_of in_a = 1
bit_of in_b = 2
bit_of in_c = 4
bit_of in_d = 8

-- Whether the register's bit is in the entry.
abbrev pub is_in : (entry : ℕ) → Register → Bool
is_in e r = not (eqb (e / bit_of r % 2) 0)

-- At every step's number the entry has the registers that hold there; past the end it is 0, and none holds.
pub record Exact (table : List ℕ) : Type 0 where
  pub at-step : (s : ℕ) (r : Register) → is_in (get_or table s 0) r ≡ holds (step_of s) r
