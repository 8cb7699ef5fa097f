-- `line_unspur::line70` meets its contract: it follows B's outward link into C.
use Rattle.machine.specs.Sides.{side_of}
use Rattle.machine.specs.Steps.{line72}
use Rattle.machine.specs.Tasks.{in_c}
use Rattle.machine.specs.Lines.{act, back}
use Rattle.table_record.specs.Coded.{task_meant}
use Rattle.line_parts.specs.Lent.{line_of}
use Rattle.line_parts.proofs.Laws.Shapes.{link-followed}
use Rattle.line_unspur.proofs.line70.Goals as goal

pub returns : goal.returns
unfolding line_of act
returns c g f =
    let t = c.args.t in
    rw (c.follow.ensures, c.back.ensures)
    (link-followed c.requires c.args.hat (side_of t.side) 1 in_c (back (task_meant t)) line72)
