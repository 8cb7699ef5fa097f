-- What a run answers: how many ticks it made, and the number that stopped it or 0.
use Rattle.std.specs.Prelude.{ℕ}

pub record Ran : Type 0 where
  pub made : ℕ
  pub refusal : ℕ
