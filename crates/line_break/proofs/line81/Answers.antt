-- `line_break::line81` meets its contract: it follows A's outward link into B, and the value read may end it.
use mathlib.Core.Path.{sym, ◌∙◌}
use borrow.Author.Tests.{eq-eqb}
use Rattle.machine.proofs.Basics.Contradiction.{clash}
use Prim.Native.Nat.{ℕ}
use lib.ListN.{get_or}
use Rattle.machine.specs.Sides.{side_of}
use Rattle.machine.specs.Lines.{act}
use Rattle.machine.proofs.Basics.Choices.{test-equal, test-unequal, equalᵛ, unequalᵛ}
use Rattle.table_record.specs.Coded.{with_register}
use Rattle.table_layout.specs.Words.{link_in}
use Rattle.line_parts.specs.Lent.{line_of, next_done}
use Rattle.line_parts.proofs.Laws.Ready.{by_code, value-read-ok}
use Rattle.line_parts.proofs.Laws.Compared.{are-same, are-other}
use Rattle.line_break.proofs.line81.Goals as goal
use Rattle.line_break.proofs.line81.Goals.{then-b-eq-NONE, else-b-eq-NONE, then-last, else-last}

pub is-last-requires : goal.is-last-requires
is-last-requires c = value-read-ok c.requires

pub returns : goal.returns
unfolding line_of act
returns c g f =
    let t = c.args.t in
    let a = c.in_ok-a.ensures.node in
    let b = link_in c.args.ns.now (side_of t.side) (get_or t.registers 0 0) in
    let to = λ (step : ℕ). by_code c.requires (λ u. next_done c.args.hat (with_register u 1 b) step) in
    rw (c.next.ensures, c.with.ensures, c.link-b.ensures, a.is, test-unequal a.through)
    (elim c.if-last.branch [
      | then-last w ↦ elim c.if-b-eq-NONE.branch [
        | then-b-eq-NONE v ↦ rw (w.step-is, test-equal (rw (c.link-b.ensures, a.is) at v.if-b-eq-NONE.true)) (to 82)
        | else-b-eq-NONE v ↦
            let x = are-same v.is-last.ensures (sym v.last-is ∙ w.if-last.true) in
            rw (
              w.step-is,
              test-unequal (rw (c.link-b.ensures, a.is) at v.if-b-eq-NONE.false),
              equalᵛ x,
            )
            (to 82)
      ]
      | else-last w ↦ elim c.if-b-eq-NONE.branch [
        | then-b-eq-NONE v ↦ clash (cc (sym (eq-eqb _ _ v.if-b-eq-NONE.true) ∙ (sym v.last-is ∙ w.if-last.false)))
        | else-b-eq-NONE v ↦
            let x = are-other v.is-last.ensures (sym v.last-is ∙ w.if-last.false) in
            rw (
              w.step-is,
              test-unequal (rw (c.link-b.ensures, a.is) at v.if-b-eq-NONE.false),
              unequalᵛ x,
            )
            (to 77)
      ]
    ])
