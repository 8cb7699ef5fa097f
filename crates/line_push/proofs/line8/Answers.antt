-- `line_push::line8` meets its contract: it tests A's node for X.
use Rattle.machine.specs.Sides.{side_of}
use Rattle.machine.specs.Values.{X}
use Rattle.machine.specs.Steps.{line28, line67}
use Rattle.machine.specs.Lines.{act}
use Rattle.table_values.specs.declared.Mark.TheVariants as letter
use Rattle.table_values.proofs.Laws.ValueWords.{mark-ok, mark-word}
use Rattle.line_parts.specs.Lent.{line_of}
use Rattle.line_parts.proofs.Laws.Shapes.{by-mark}
use Rattle.line_push.proofs.line8.Goals as goal

pub by_mark-requires : goal.by_mark-requires
by_mark-requires c = (c.requires, rw c.of.ensures (mark-ok (side_of c.args.t.side) letter.X))

pub returns : goal.returns
unfolding line_of act
returns c g f =
    rw (c.by_mark.ensures, c.of.ensures, mark-word (side_of c.args.t.side) letter.X)
    (by-mark c.requires c.args.hat (X (side_of c.args.t.side)) line28 line67)
