-- What reading a lane answers: how many bags it wrote, or the refusal.
use Rattle.std.specs.Prelude.{ℕ}

pub data Reading : Type 0 where
  Count Refused : ℕ → Reading
