-- `program_stream::Session::end_line` meets its contract: the line is read, answered and printed, and the next one is
-- begun afresh.
use Rattle.std.proofs.Common.{sym}
use Rattle.program_stream.specs.Carried.{loan}
use Rattle.program_stream.proofs.Laws.CarriedLaws.{line-ends}
use Rattle.program_stream.proofs.Session.end_line.Goals as goal

pub returns-clause-serves : goal.returns-clause-serves
returns-clause-serves c =
    let served =
    line-ends (loan c.args.self.now) c.scanned_command-command.ensures c.answer-outcome.ensures.changes c.clear.ensures
    c.print.ensures.written in
    let text = c.out-1.given.1.1 (sym c.print.ensures.same_buffer) in
    rw text served
