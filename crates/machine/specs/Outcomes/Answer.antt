-- What a tick answers.
use Rattle.std.specs.Prelude.{ℕ}

pub data Answer : Type 0 where
  Going Pushed : Answer
  Bag : ℕ → Answer
  Empty Full Yes No : Answer
  Refused : ℕ → Answer
