-- `line_unspur::line72` meets its contract: the swap writes the hat and no node.
use Prim.Native.Nat.{ℕ}
use Rattle.machine.specs.Steps.{step_number}
use Rattle.machine.specs.Lines.{act, back}
use Rattle.machine.proofs.Basics.Choices.{test-equal, test-unequal}
use Rattle.table_record.specs.Coded.{task_meant}
use Rattle.line_parts.specs.Lent.{line_of, next_done}
use Rattle.line_parts.proofs.Laws.Ready.{by-record, line-refused}
use Rattle.line_unspur.proofs.line72.Goals as goal
use Rattle.line_unspur.proofs.line72.Goals.{then-hat-t, else-hat-t}

pub returns-in_err-c : goal.returns-in_err-c
unfolding line_of act
returns-in_err-c c ns g f =
    line-refused c.requires c.in_err-c.ensures.none c.from_residual.result c.from_residual.ensures.1 _ _ _

pub returns : goal.returns
unfolding line_of act
returns c ns g f =
    let x = c.in_ok-c.ensures.node in
    let to = λ (h : ℕ). by-record c.requires ns (λ u. next_done h u (step_number (back (task_meant c.args.t)))) in
    rw (c.next.ensures, c.back.ensures, test-unequal x.through)
    (elim c.if-hat-t.branch [
      | then-hat-t w ↦ rw (w.swapped-is, x.is, test-equal w.if-hat-t.true) (to _)
      | else-hat-t w ↦ rw (w.swapped-is, test-unequal w.if-hat-t.false) (to _)
    ])
