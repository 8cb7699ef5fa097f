-- `line_break::line78` meets its contract: the compare with the value read decides.
use native.Mathlib.Omega.{arith}
use Rattle.machine.specs.Lines.{act}
use Rattle.machine.proofs.Basics.Choices.{test-unequal, equalᵛ, unequalᵛ}
use Rattle.line_parts.specs.Lent.{line_of, next_done}
use Rattle.line_parts.proofs.Laws.Ready.{by_code, by-record, node-value-ok, value-read-ok}
use Rattle.line_parts.proofs.Laws.Compared.{are-same, are-other}
use Rattle.line_break.proofs.line78.Goals as goal

pub same-requires : goal.same-requires
same-requires c =
    let b = c.in_ok-b.ensures.node in
    (node-value-ok c.requires 1 (omega arith) b.through (rw b.is at c.value-v.ensures), value-read-ok c.requires)

pub returns-then-same : goal.returns-then-same
unfolding line_of act
returns-then-same c g f =
    let b = c.in_ok-b.ensures.node in
    let read = rw (c.value-v.ensures, b.is) at c.same.ensures in
    rw (
      c.next.ensures,
      c.set_value.ensures,
      c.of.ensures,
      b.is,
      test-unequal b.through,
      equalᵛ (are-same read c.if-same.true),
    )
    (by-record c.requires.canonical _ (λ u. next_done c.args.hat u 79))

pub returns : goal.returns
unfolding line_of act
returns c g f =
    let b = c.in_ok-b.ensures.node in
    let read = rw (c.value-v.ensures, b.is) at c.same.ensures in
    rw (c.next-2.ensures, test-unequal b.through, unequalᵛ (are-other read c.if-same.false))
    (by_code c.requires (λ u. next_done c.args.hat u 77))
