-- What is left of the line gives what the whole of it gives.
use Rattle.text_scan.proofs.Laws.LineLaws.{Scanning}
use Rattle.text_scan.proofs.Line.scan_line.Given as goal

abbrev pub invariant-loop-i : goal.invariant-loop-i
invariant-loop-i l = Scanning l.chunk l.from l.initial.self l.self l.i
