-- `line_unspur::line69` meets its contract: it follows A's inward link into B.
use Rattle.machine.specs.Sides.{opposite, side_of}
use Rattle.machine.specs.Steps.{line70}
use Rattle.machine.specs.Tasks.{in_b}
use Rattle.machine.specs.Lines.{act}
use Rattle.line_parts.specs.Lent.{line_of}
use Rattle.line_parts.proofs.Laws.Ready.{side-meant}
use Rattle.line_parts.proofs.Laws.Shapes.{followed-on}
use Rattle.line_unspur.proofs.line69.Goals as goal

pub returns : goal.returns
unfolding line_of act
returns c g f =
    let inward = opposite (side_of c.args.t.side) in
    rw (c.follow.ensures, side-meant inward c.opposite.ensures)
    (followed-on c.requires c.args.hat inward 0 in_b line70)
