-- `line_add::line18` meets its contract: it follows A's outward link into A.
use Rattle.machine.specs.Sides.{side_of}
use Rattle.machine.specs.Steps.{line15, line17}
use Rattle.machine.specs.Tasks.{in_a}
use Rattle.machine.specs.Lines.{act}
use Rattle.line_parts.specs.Lent.{line_of}
use Rattle.line_parts.proofs.Laws.Shapes.{link-followed}
use Rattle.line_add.proofs.line18.Goals as goal

pub returns : goal.returns
unfolding line_of act
returns c g f =
    rw c.follow.ensures (link-followed c.requires c.args.hat (side_of c.args.t.side) 0 in_a line15 line17)
