-- `program_stream::Session::new` meets its contract: no table, and a line of which nothing is scanned.
use Rattle.text_scan.specs.Kept.{no_text}
use Rattle.program_stream.proofs.Laws.MeantLaws.{first_holds}
use Rattle.program_stream.proofs.Session.new.Goals as goal

pub returns-clause-holds : goal.returns-clause-holds
returns-clause-holds c = rw c.new.ensures (first_holds c.args.words.now no_text)
