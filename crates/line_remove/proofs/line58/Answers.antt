-- `line_remove::line58` meets its contract: a node further, and whether the goal is reached.
use Prim.Native.Nat.{ℕ, suc}
use native.Mathlib.Numerals.{add-one}
use lib.ListN.{get_or}
use Rattle.machine.specs.Sides.{side_of}
use Rattle.machine.specs.Lines.{act}
use Rattle.machine.proofs.Basics.Choices.{test-equal, test-unequal}
use Rattle.table_record.specs.Coded.{with_register, with_count}
use Rattle.table_layout.specs.Words.{link_in}
use Rattle.line_parts.specs.Lent.{line_of, next_done}
use Rattle.line_parts.proofs.Laws.Ready.{by_code}
use Rattle.line_remove.proofs.line58.Goals as goal
use Rattle.line_remove.proofs.line58.Goals.{then-counted-goal, else-counted-goal}

pub returns : goal.returns
unfolding line_of act
returns c f =
    let t = c.args.t in
    let a = c.in_ok-a.ensures.node in
    let x = link_in c.args.ns.now (side_of t.side) (get_or t.registers 0 0) in
    let linked = rw (c.link-x.ensures, a.is) at c.if-x-eq-NONE.false in
    let to = λ (step : ℕ). by_code c.requires
    (λ u. next_done c.args.hat (with_count (with_register u 0 x) (suc t.counted)) step)
    in
    rw (
      c.next.ensures,
      c.counting.ensures,
      c.with.ensures,
      c.link-x.ensures,
      a.is,
      test-unequal a.through,
      test-unequal linked,
      add-one,
    )
    (elim c.if-counted-goal.branch [
      | then-counted-goal w ↦ rw (w.step-is, test-equal (rw add-one at w.if-counted-goal.true)) (to 60)
      | else-counted-goal w ↦ rw (w.step-is, test-unequal (rw add-one at w.if-counted-goal.false)) (to 56)
    ])
