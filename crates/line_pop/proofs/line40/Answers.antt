-- `line_pop::line40` meets its contract: it follows A's inward link into B.
use Rattle.machine.specs.Sides.{opposite, side_of}
use Rattle.machine.specs.Steps.{line39, line42}
use Rattle.machine.specs.Tasks.{in_b}
use Rattle.machine.specs.Lines.{act}
use Rattle.line_parts.specs.Lent.{line_of}
use Rattle.line_parts.proofs.Laws.Ready.{side-meant}
use Rattle.line_parts.proofs.Laws.Shapes.{link-followed}
use Rattle.line_pop.proofs.line40.Goals as goal

pub returns : goal.returns
unfolding line_of act
returns c g f =
    let inward = opposite (side_of c.args.t.side) in
    rw (c.follow.ensures, side-meant inward c.opposite.ensures)
    (link-followed c.requires c.args.hat inward 0 in_b line39 line42)
