-- `line_break::line74` meets its contract: B and its outward link are read into A and B.
use Prim.Native.Nat.{ℕ}
use lib.ListN.{get_or}
use Rattle.machine.specs.Sides.{side_of}
use Rattle.machine.specs.Lines.{act}
use Rattle.machine.proofs.Basics.Choices.{test-equal, test-unequal}
use Rattle.table_record.specs.Coded.{with_register}
use Rattle.table_layout.specs.Words.{link_in}
use Rattle.line_parts.specs.Lent.{line_of, next_done}
use Rattle.line_parts.proofs.Laws.Ready.{by_code}
use Rattle.line_break.proofs.line74.Goals as goal
use Rattle.line_break.proofs.line74.Goals.{then-b-eq-NONE, else-b-eq-NONE}

pub returns : goal.returns
unfolding line_of act
returns c g f =
    let t = c.args.t in
    let a = c.in_ok-a.ensures.node in
    let x = get_or t.registers 1 0 in
    let y = link_in c.args.ns.now (side_of t.side) x in
    let to = λ (step : ℕ). by_code c.requires
    (λ u. next_done c.args.hat (with_register (with_register u 0 x) 1 y) step)
    in
    rw (c.next.ensures, c.with-2.ensures, c.with.ensures, c.link-b.ensures, a.is, test-unequal a.through)
    (elim c.if-b-eq-NONE.branch [
      | then-b-eq-NONE w ↦ rw (w.step-is, test-equal (rw (c.link-b.ensures, a.is) at w.if-b-eq-NONE.true)) (to 82)
      | else-b-eq-NONE w ↦ rw (w.step-is, test-unequal (rw (c.link-b.ensures, a.is) at w.if-b-eq-NONE.false)) (to 77)
    ])
