-- `line_add::line24` meets its contract: what is read comes before the one store.
use Rattle.std.proofs.Common.{rules}
use Rattle.machine.specs.Lines.{act}
use Rattle.machine.proofs.Basics.Choices.{test-unequal}
use Rattle.line_parts.specs.Lent.{line_of}
use Rattle.line_add.proofs.line24.Goals as goal

pub returns : goal.returns
unfolding line_of act
returns c g f =
    let a = c.in_ok-a.ensures.node in
    let d = c.in_ok-d.ensures.node in
    rw (
      c.next.ensures,
      c.with.ensures,
      c.set_link.ensures,
      c.link-b.ensures,
      a.is,
      d.is,
      test-unequal a.through,
      test-unequal d.through,
    )
    (search rules)
