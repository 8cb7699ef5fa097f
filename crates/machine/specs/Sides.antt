-- The two sides of the deque and their numbers.
use Rattle.std.specs.Prelude.{ℕ}
use Rattle.machine.specs.Choice.{◌≟◌, if?◌then◌else◌}

pub data Side : Type 0 where
  left right : Side
  deriving Discrete as Side-discrete

abbrev pub opposite : Side → Side
opposite left = right
opposite right = left

-- 01: side (0 left, 1 right).
abbrev pub side_number : Side → ℕ
side_number left = 0
side_number right = 1

-- The side of a number that is 0 or 1.
abbrev pub side_of : ℕ → Side
side_of n = if? n ≟ 0 then left else right
