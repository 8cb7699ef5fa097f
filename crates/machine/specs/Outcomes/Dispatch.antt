-- What a dispatch answers: "idle", or what the tick answers that it makes. Its refusals are those of a tick.
use Rattle.machine.specs.Outcomes.Answer.{Answer}

pub data Dispatch : Type 0 where
  Idle : Dispatch
  Answered : Answer → Dispatch
