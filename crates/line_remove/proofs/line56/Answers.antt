-- `line_remove::line56` meets its contract: the compare with X decides.
use Rattle.machine.specs.Lines.{act}
use Rattle.machine.proofs.Basics.Choices.{test-unequal, unequalᵛ}
use Rattle.line_parts.specs.Lent.{line_of, next_done}
use Rattle.line_parts.proofs.Laws.Ready.{by_code}
use Rattle.line_parts.proofs.Laws.Compared.{are-other}
use Rattle.line_remove.proofs.line56.Goals as goal

pub returns : goal.returns
unfolding line_of act
returns c g f =
    let a = c.in_ok-a.ensures.node in
    let x = rw (c.value.ensures, a.is) at c.is.ensures in
    rw (c.next.ensures, test-unequal a.through, unequalᵛ (are-other x c.if-is.false))
    (by_code c.requires (λ u. next_done c.args.hat u 58))
