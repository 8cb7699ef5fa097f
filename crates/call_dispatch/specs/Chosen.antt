-- A choice of tasks in code as the definitions', and what a dispatch answers that is not refused.
use Rattle.std.specs.Prelude.{ℕ, Option, Some, None, Ok}
use Rattle.std.proofs.Math.Option.{Option as Maybe, some, none}
use Rattle.machine.specs.declared.answer.Answer.{Answer}
use Rattle.machine.specs.Outcomes.Dispatch.{Dispatch}
use Rattle.machine.specs.Results.{dispatch_in}

-- The task chosen, if one is.
abbrev pub task_in : Option ℕ → Maybe ℕ
task_in None = none
task_in (Some k) = some k

-- None is "idle".
abbrev pub made_in : Option Answer → Dispatch
made_in answer = dispatch_in (Ok answer)
