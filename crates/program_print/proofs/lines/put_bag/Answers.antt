-- `program_print::lines::put_bag` meets its contract.
use native.Mathlib.Omega.{arith}
use Rattle.text.proofs.Laws.WritingLaws.{written-append, written-long}
use Rattle.text.proofs.Laws.Rows.{tag-length}
use Rattle.program_print.proofs.lines.put_bag.Goals as goal

pub put-requires-2 : goal.put-requires-2
put-requires-2 c =
    let name = c.put.ensures.written in
    let tag = c.put_tag.ensures.written in
    omega (arith, name.end, written-long name, tag.end, written-long tag, tag-length c.args.tag)

pub returns-clause-written : goal.returns-clause-written
returns-clause-written c =
    written-append (written-append c.put.ensures.written c.put_tag.ensures.written) c.put-2.ensures.written

pub returns-clause-upper_bound : goal.returns-clause-upper_bound
returns-clause-upper_bound c =
    let ends = c.put-2.ensures.written.end in
    omega (arith, c.put.ensures.written.end, c.put_tag.ensures.written.end, ends, tag-length c.args.tag)
