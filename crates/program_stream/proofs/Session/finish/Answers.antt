-- `program_stream::Session::finish` meets its contract: a line that has a byte is answered, and else nothing is printed.
use Rattle.program_stream.proofs.Laws.CarriedLaws.{last_line, no-last-line}
use Rattle.program_stream.proofs.Laws.MeantLaws.{end-made}
use Rattle.program_stream.proofs.Session.finish.Goals as goal

pub returns-then-self-clause-serves : goal.returns-then-self-clause-serves
returns-then-self-clause-serves c = last_line _ c.if-self.true c.end_line.ensures.serves

pub returns-then-self-clause-makes : goal.returns-then-self-clause-makes
returns-then-self-clause-makes c =
    end-made c.requires.in_order (last_line _ c.if-self.true c.end_line.ensures.serves)

pub returns-clause-serves : goal.returns-clause-serves
returns-clause-serves c = no-last-line _ c.if-self.false

pub returns-clause-makes : goal.returns-clause-makes
returns-clause-makes c = end-made c.requires.in_order (no-last-line _ c.if-self.false)
