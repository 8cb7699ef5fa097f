-- What start and begin answer.
use Rattle.std.specs.Prelude.{ℕ}

pub data Reply : Type 0 where
  Accepted : Reply
  Refused : ℕ → Reply
