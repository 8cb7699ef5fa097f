-- `line_push::line3` meets its contract: it follows A's outward link into B.
use Rattle.machine.specs.Sides.{side_of}
use Rattle.machine.specs.Steps.{line5, line8}
use Rattle.machine.specs.Tasks.{in_b}
use Rattle.machine.specs.Lines.{act}
use Rattle.line_parts.specs.Lent.{line_of}
use Rattle.line_parts.proofs.Laws.Shapes.{link-followed}
use Rattle.line_push.proofs.line3.Goals as goal

pub returns : goal.returns
unfolding line_of act
returns c g f =
    rw c.follow.ensures (link-followed c.requires c.args.hat (side_of c.args.t.side) 0 in_b line8 line5)
