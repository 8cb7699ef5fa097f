-- `line_unspur::line68` meets its contract: it tests A's node for Y.
use Rattle.machine.specs.Sides.{side_of}
use Rattle.machine.specs.Values.{Y}
use Rattle.machine.specs.Steps.{line69}
use Rattle.machine.specs.Lines.{act, back}
use Rattle.table_record.specs.Coded.{task_meant}
use Rattle.table_values.specs.declared.Mark.TheVariants as letter
use Rattle.table_values.proofs.Laws.ValueWords.{mark-ok, mark-word}
use Rattle.line_parts.specs.Lent.{line_of}
use Rattle.line_parts.proofs.Laws.Shapes.{by-mark}
use Rattle.line_unspur.proofs.line68.Goals as goal

pub by_mark-requires : goal.by_mark-requires
by_mark-requires c = (c.requires, rw c.of.ensures (mark-ok (side_of c.args.t.side) letter.Y))

pub returns : goal.returns
unfolding line_of act
returns c g f =
    rw (c.by_mark.ensures, c.back.ensures, c.of.ensures, mark-word (side_of c.args.t.side) letter.Y)
    (by-mark c.requires c.args.hat (Y (side_of c.args.t.side)) line69 (back (task_meant c.args.t)))
