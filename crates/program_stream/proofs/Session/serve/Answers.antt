-- `program_stream::Session::serve` meets its contract: the line is scanned on, and answered if its line feed is there.
use mathlib.Core.Path.{refl}
use Rattle.program_stream.specs.Carried.{loan}
use Rattle.program_stream.proofs.Laws.CarriedLaws.{part-onward, scanned-in-order, part-served, line-served}
use Rattle.program_stream.proofs.Session.serve.Goals as goal

pub end_line-at-requires-clause-in_order : goal.end_line-at-requires-clause-in_order
end_line-at-requires-clause-in_order c =
    scanned-in-order (loan c.args.self.now) c.scan_line-to.ensures refl c.requires.in_order

pub returns-then-to-chunk-clause-serves : goal.returns-then-to-chunk-clause-serves
returns-then-to-chunk-clause-serves c =
    line-served (loan c.args.self.now) c.scan_line-to.ensures refl c.if-to-chunk.true c.end_line-at.ensures.serves

pub returns-clause-onward : goal.returns-clause-onward
returns-clause-onward c = part-onward c.requires.from_in_bounds c.scan_line-to.ensures c.if-to-chunk.false

pub returns-clause-serves : goal.returns-clause-serves
returns-clause-serves c =
    part-served (loan c.args.self.now) c.scan_line-to.ensures refl c.args.out.now c.args.at
