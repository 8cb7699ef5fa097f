-- `line_break::line82` meets its contract: it is refused where A is none.
use Rattle.machine.specs.Lines.{act}
use Rattle.line_parts.specs.Lent.{line_of}
use Rattle.line_parts.proofs.Laws.Ready.{line-refused}
use Rattle.line_break.proofs.line82.Goals as goal

pub returns-in_err-a : goal.returns-in_err-a
unfolding line_of act
returns-in_err-a c g f =
    line-refused c.requires.canonical c.in_err-a.ensures.none c.from_residual.result c.from_residual.ensures.1 _ _ _
