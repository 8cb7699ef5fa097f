-- `line_remove::line64` meets its contract: the link is cut or not, and the step is one.
use mathlib.Core.List.{List}
use Prim.Native.Nat.{ℕ}
use Rattle.machine.specs.Lines.{act}
use Rattle.machine.proofs.Basics.Choices.{test-equal, test-unequal}
use Rattle.line_parts.specs.Lent.{line_of, next_done}
use Rattle.line_parts.proofs.Laws.Ready.{by-record}
use Rattle.line_remove.proofs.line64.Goals as goal
use Rattle.line_remove.proofs.line64.Goals.{then-link-t, else-link-t}

pub returns : goal.returns
unfolding line_of act
returns c g f =
    let a = c.in_ok-a.ensures.node in
    let to-74 = λ (ns : List ℕ). by-record c.requires.canonical ns (λ u. next_done c.args.hat u 74) in
    rw (c.next.ensures, test-unequal a.through)
    (elim c.if-link-t.branch [
      | then-link-t w ↦
          rw (w.ns-is, w.set_link.ensures, a.is, test-equal (rw (c.link.ensures, a.is) at w.if-link-t.true)) (to-74 _)
      | else-link-t w ↦ rw (w.ns-is, test-unequal (rw (c.link.ensures, a.is) at w.if-link-t.false)) (to-74 _)
    ])
