-- `line_pop::line48` meets its contract: the two comparisons decide.
use native.Mathlib.Omega.{arith}
use Rattle.machine.specs.Lines.{act, dcas}
use Rattle.machine.proofs.Basics.Choices.{test-equal, test-unequal, unequalᵛ}
use Rattle.line_parts.specs.Lent.{line_of, next_done}
use Rattle.line_parts.proofs.Laws.Ready.{by_code, value-read-ok}
use Rattle.line_parts.proofs.Laws.Compared.{are-other}
use Rattle.line_pop.proofs.line48.Goals as goal
use Rattle.line_pop.proofs.line48.Goals.{else-hat-t-via-then-hat-t+else-as_read, else-hat-t-via-else-hat-t}

pub same-as_read-requires : goal.same-as_read-requires
same-as_read-requires c =
    let b = c.in_ok-b.ensures.node in
    (rw c.value-v.ensures (rw b.is (c.requires.values _ (c.requires.held 1 (omega arith) b.through))), value-read-ok c.requires)

pub returns : goal.returns
unfolding line_of act dcas
returns c g f =
    let b = c.in_ok-b.ensures.node in
    let kept = by_code c.requires (λ u. next_done c.args.hat u 39) in
    let v = rw (c.value-v.ensures, b.is) at c.same-as_read.ensures in
    rw (c.next.ensures, test-unequal b.through)
    (elim c.else-hat-t.branch [
      | else-hat-t-via-then-hat-t+else-as_read w ↦
          rw (test-equal w.if-hat-t.true, unequalᵛ (are-other v w.if-as_read.false)) kept
      | else-hat-t-via-else-hat-t w ↦ rw (test-unequal w.if-hat-t.false) kept
    ])
