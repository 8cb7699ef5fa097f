-- What a push by list answers (2026-13): the reply of its begin; or the number of the list's fault, 27 to 29, and the
-- faulty line, from 1.
use Rattle.std.specs.Prelude.{ℕ}
use Rattle.machine.specs.Outcomes.Reply.{Reply}

pub data ByList : Type 0 where
  Replied : Reply → ByList
  Faulty : (number line : ℕ) → ByList
