-- `line_push::line5` meets its contract: the swap fails by either comparison.
use Rattle.std.proofs.Common.{rules}
use Rattle.machine.specs.Lines.{act, dcas}
use Rattle.line_parts.specs.Lent.{line_of}
use Rattle.line_push.proofs.line5.Goals as goal
use Rattle.line_push.proofs.line5.Goals.{else-hat-a-via-then-hat-a+else-n, else-hat-a-via-else-hat-a}

pub returns : goal.returns
unfolding line_of act dcas
returns c g f =
    elim c.else-hat-a.branch [
      | else-hat-a-via-then-hat-a+else-n w ↦ search rules
      | else-hat-a-via-else-hat-a w ↦ search rules
    ]
