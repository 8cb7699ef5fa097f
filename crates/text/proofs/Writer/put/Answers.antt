-- `text::Writer::put` meets its contract.
use native.Mathlib.Omega.{arith}
use Rattle.text.proofs.Laws.WritingLaws.{part-written}
use Rattle.text.proofs.Writer.put.Goals as goal

pub returns-clause-written : goal.returns-clause-written
returns-clause-written c =
    part-written c.args.self.now.out.now c.args.text.now c.args.self.now.at (omega arith) c.copy_from_slice.ensures.after
