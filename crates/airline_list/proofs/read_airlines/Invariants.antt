-- `airline_list::read_airlines` meets its contract: each line that is told is read, and none is left out.
use Rattle.airline_list.specs.Read.{Reading}
use Rattle.airline_list.proofs.read_airlines.Given as goal

abbrev pub invariant-loop-line : goal.invariant-loop-line
invariant-loop-line l = Reading l.wanted l.list l.from l.line l.codes.bits l.named
