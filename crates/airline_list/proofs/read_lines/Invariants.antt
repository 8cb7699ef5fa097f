-- `airline_list::read_lines` meets its contract: at each line, what is left to read comes to what the list comes to.
use Rattle.airline_list.specs.Read.{Reading}
use Rattle.airline_list.proofs.read_lines.Given as goal

abbrev pub invariant-loop-line : goal.invariant-loop-line
invariant-loop-line l = Reading l.wanted l.list l.from l.line l.codes.bits l.named
