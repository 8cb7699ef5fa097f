-- `line_take::line31` meets its contract: a node is found or not, and the words are stored in order.
use mathlib.Core.List.{List}
use Prim.Native.Nat.{ℕ, suc}
use native.Mathlib.Numerals.{add-one}
use Rattle.machine.specs.Sides.{opposite, side_of}
use Rattle.table_record.specs.Coded.{with_count, with_register}
use Rattle.machine.specs.Lines.{act}
use Rattle.machine.proofs.Basics.Choices.{test-equal, test-unequal}
use Rattle.line_parts.specs.Lent.{line_of, next_done}
use Rattle.line_parts.proofs.Laws.Ready.{by_code, by-record, line-refused, side-meant}
use Rattle.line_take.proofs.line31.Goals as goal
use Rattle.line_take.proofs.line31.Goals.{then-count-goal, else-count-goal}

pub returns-in_err-d : goal.returns-in_err-d
unfolding line_of act
returns-in_err-d c =
    line-refused c.requires.0.canonical c.in_err-d.ensures.none c.from_residual.result c.from_residual.ensures.1 _ _ _

pub returns-then-found-eq-NONE : goal.returns-then-found-eq-NONE
unfolding line_of act
returns-then-found-eq-NONE c =
    rw (c.next.ensures, test-unequal c.in_ok-d.ensures.node.through, test-equal c.if-found-eq-NONE.true)
    (by_code c.requires.0 (λ u. next_done c.args.hat u 15))

pub returns : goal.returns
unfolding line_of act
returns c =
    let x = c.args in
    let t = x.t in
    let d = c.in_ok-d.ensures.node in
    let s = side_of t.side in
    let n = suc t.counted in
    let to = λ (ns : List ℕ) (step : ℕ). by-record c.requires.0.canonical ns
    (λ u. next_done x.hat (with_count (with_register u 3 x.found) n) step)
    in
    rw (
      c.next-2.ensures,
      c.counting.ensures,
      c.with.ensures,
      c.set_link-3.ensures,
      c.set_link-2.ensures,
      c.set_link.ensures,
      c.set_value.ensures,
      c.of.ensures,
      side-meant (opposite s) c.opposite-inward.ensures,
      d.is,
      test-unequal d.through,
      test-unequal c.if-found-eq-NONE.false,
      add-one,
    )
    (elim c.if-count-goal.branch [
      | then-count-goal w ↦ rw (w.step-is, test-equal (rw add-one at w.if-count-goal.true)) (to _ 15)
      | else-count-goal w ↦ rw (w.step-is, test-unequal (rw add-one at w.if-count-goal.false)) (to _ 31)
    ])
