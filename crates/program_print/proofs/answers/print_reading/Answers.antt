-- `program_print::answers::print_reading` meets its contract: the tags that were counted are the first of the words.
use Rattle.text.proofs.Laws.Rows.{tags-of-front}
use Rattle.program_print.proofs.answers.print_reading.Goals as goal

pub returns-in-Ok-clause-written : goal.returns-in-Ok-clause-written
returns-in-Ok-clause-written c =
    let counted = rw c.in-Ok.is at c.requires in
    rw c.in-Ok.is (rw (tags-of-front c.in-Ok.bags c.args.words.now counted.reading_in_bounds) at c.put_lane.ensures.written)
