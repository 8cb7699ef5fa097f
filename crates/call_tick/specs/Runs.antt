-- What a run relies on once its tests are passed.
use Rattle.std.specs.Prelude.{◌≡◌, List, ℕ, ◌*◌, ◌/◌, ◌%◌, ◌≤◌, length}
use Rattle.machine.specs.Answers.{answer_length}
use Rattle.machine.specs.Shape.{WellFormed}

-- The tests of 3, 4 and 13 are passed.
pub record MayTake (ws list : List ℕ) : Type 0 where
  pub table : WellFormed ws
  pub paired : length list % 2 ≡ 0
  pub short : length list ≤ 8192

-- The test of 14 is passed too.
pub record MayRun (ws list answers : List ℕ) : Type 0 where
  pub taken : MayTake ws list
  pub room : answer_length * (length list / 2) ≤ length answers
