-- `program_stream::Session::restart` meets its contract: no table, and a line of which nothing is scanned.
use Rattle.program_stream.proofs.Laws.MeantLaws.{first-in-order, first_holds}
use Rattle.program_stream.proofs.Session.restart.Goals as goal

pub returns-clause-in_order : goal.returns-clause-in_order
returns-clause-in_order c large places =
    let s = c.args.self.now in
    rw c.clear.ensures (first-in-order s.space.words.now s.line.text large places)

pub returns-clause-holds : goal.returns-clause-holds
returns-clause-holds c =
    let s = c.args.self.now in
    rw c.clear.ensures (first_holds s.space.words.now s.line.text)
