-- What a list comes to with a tag, and alone; and the same of what the code answers.
use Rattle.std.specs.Prelude.{ℕ, Result, Ok, Err}
use Rattle.airline_list.specs.declared.End.{End}
use Rattle.airline_list.specs.declared.Fault.{Fault}
use Rattle.airline_list.specs.declared.Flaw.{Flaw}
use Rattle.airline_list.specs.declared.Flaw.TheVariants.{Line, Code, Closing}

-- The end to which it sends a tag; or the number of its fault, 27 to 29, and the faulty line, from 1.
pub data Sent : Type 0 where
  To : End → Sent
  NotSent : (number line : ℕ) → Sent

-- Whether it is accepted; or its fault.
pub data Checked : Type 0 where
  Accepted : Checked
  Faulty : (number line : ℕ) → Checked

abbrev pub flaw_number : Flaw → ℕ
flaw_number Line = 27
flaw_number Code = 28
flaw_number Closing = 29

abbrev pub sent_of : Result End Fault → Sent
sent_of (Ok end) = To end
sent_of (Err fault) = NotSent (flaw_number fault.flaw) fault.line

abbrev pub checked_of : Result (Unit {0}) Fault → Checked
checked_of (Ok accepted) = Accepted
checked_of (Err fault) = Faulty (flaw_number fault.flaw) fault.line
