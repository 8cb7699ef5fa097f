-- What the call in code answers, as one of the definitions' replies.
use Rattle.std.specs.Prelude.{Result, Ok, Err}
use Rattle.airline_list.specs.Outcomes.{flaw_number}
use Rattle.machine.specs.Outcomes.Reply.{Accepted, Refused}
use Rattle.machine.specs.Outcomes.ByList.{ByList, Replied, Faulty}
use Rattle.machine.specs.Results.{refusal_number}
use Rattle.call_push_by_list.specs.declared.ListRefusal.{ListRefusal}
use Rattle.call_push_by_list.specs.declared.ListRefusal.TheVariants.{List, Begin}

abbrev pub by_list : Result (Unit {0}) ListRefusal → ByList
by_list (Ok begun) = Replied Accepted
by_list (Err (List fault)) = Faulty (flaw_number fault.flaw) fault.line
by_list (Err (Begin refusal)) = Replied (Refused (refusal_number refusal))
