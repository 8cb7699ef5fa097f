-- `program_print::lines::put_refused` meets its contract.
use native.Mathlib.Omega.{arith}
use Rattle.text.proofs.Laws.WritingLaws.{written-append, written-long}
use Rattle.text.proofs.Laws.Decimals.{decimal-length}
use Rattle.program_print.proofs.lines.put_refused.Goals as goal

pub put-requires-2 : goal.put-requires-2
put-requires-2 c =
    let name = c.put.ensures.written in
    let number = c.put_number.ensures.written in
    let digits = decimal-length c.args.n (omega arith) in
    omega (arith, name.end, written-long name, number.end, written-long number, digits)

pub returns-clause-written : goal.returns-clause-written
returns-clause-written c =
    written-append (written-append c.put.ensures.written c.put_number.ensures.written) c.put-2.ensures.written

pub returns-clause-upper_bound : goal.returns-clause-upper_bound
returns-clause-upper_bound c =
    let ends = c.put-2.ensures.written.end in
    let digits = decimal-length c.args.n (omega arith) in
    omega (arith, c.put.ensures.written.end, c.put_number.ensures.written.end, ends, digits)
