-- `program_print::lines::put_lane` meets its contract.
use native.Mathlib.Omega.{arith}
use Rattle.text.proofs.Laws.WritingLaws.{written-append, written-long}
use Rattle.program_print.proofs.lines.put_lane.Goals as goal

pub put-requires-2 : goal.put-requires-2
put-requires-2 c =
    let name = c.put.ensures.written in
    let row = c.put_tags.ensures in
    omega (arith, name.end, written-long name, row.upper_bound, written-long row.written)

pub returns-clause-written : goal.returns-clause-written
returns-clause-written c =
    written-append (written-append c.put.ensures.written c.put_tags.ensures.written) c.put-2.ensures.written
