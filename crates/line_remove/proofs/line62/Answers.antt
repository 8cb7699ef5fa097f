-- `line_remove::line62` meets its contract: both compares decide, then both values are written, A's first.
use Rattle.machine.specs.Lines.{act, dcas}
use Rattle.machine.proofs.Basics.Choices.{test-unequal, equalᵛ, unequalᵛ}
use Rattle.line_parts.specs.Lent.{line_of, next_done}
use Rattle.line_parts.proofs.Laws.Ready.{by-record}
use Rattle.line_parts.proofs.Laws.Compared.{are-same, are-other}
use Rattle.line_remove.proofs.line62.Goals as goal
use Rattle.line_remove.proofs.line62.Goals.{else-is-via-then-is+else-is-2, else-is-via-else-is}

pub returns-then-is-2 : goal.returns-then-is-2
unfolding line_of act dcas
returns-then-is-2 c g f =
    let a = c.in_ok-a.ensures.node in
    let b = c.in_ok-b.ensures.node in
    let at-A = rw (c.value-v.ensures, a.is) at c.is.ensures in
    let at-B = rw (c.value-w.ensures, b.is) at c.is-then-is.ensures in
    rw (
      c.next.ensures,
      c.set_value-then-is-2.ensures,
      c.of-then-is-2.ensures,
      c.set_value.ensures,
      c.of.ensures,
      a.is,
      b.is,
      test-unequal a.through,
      test-unequal b.through,
      equalᵛ (are-same at-A c.if-is.true),
      equalᵛ (are-same at-B c.if-is-2.true),
    )
    (by-record c.requires.canonical _ (λ u. next_done c.args.hat u 64))

pub returns : goal.returns
unfolding line_of act dcas
returns c g f =
    let a = c.in_ok-a.ensures.node in
    let b = c.in_ok-b.ensures.node in
    let at-A = rw (c.value-v.ensures, a.is) at c.is.ensures in
    rw (c.answers.ensures, test-unequal a.through, test-unequal b.through)
    (elim c.else-is.branch [
      | else-is-via-then-is+else-is-2 w ↦
          let at-B = rw (c.value-w.ensures, b.is) at w.is-then-is.ensures in
          rw (equalᵛ (are-same at-A w.if-is.true), unequalᵛ (are-other at-B w.if-is-2.false))
      | else-is-via-else-is w ↦ rw (unequalᵛ (are-other at-A w.if-is.false))
    ])
