-- `line_pop::line42` meets its contract: the word read is the word of its value, and `after_read` gives the step.
use native.Mathlib.Omega.{arith}
use lib.ListN.{get_or}
use Rattle.machine.specs.Sides.{opposite, side_of}
use Rattle.machine.specs.Values.{decode}
use Rattle.machine.specs.Steps.{step_number}
use Rattle.machine.specs.Lines.{act, after_read}
use Rattle.machine.proofs.Basics.Choices.{test-unequal}
use Rattle.table_record.specs.Coded.{with_value_read}
use Rattle.table_layout.specs.Words.{stored_in}
use Rattle.line_parts.specs.Lent.{line_of, next_done}
use Rattle.line_parts.proofs.Laws.Ready.{by_code, side-meant, value-coded}
use Rattle.line_pop.proofs.line42.Goals as goal

pub returns : goal.returns
unfolding line_of act
returns c g f =
    let b = c.in_ok-b.ensures.node in
    let o = opposite (side_of c.args.t.side) in
    let v = stored_in c.args.ns.now (get_or c.args.t.registers 1 0) in
    rw (
      c.next.ensures,
      c.after_read.ensures,
      c.reading.ensures,
      c.value-v.ensures,
      side-meant o c.opposite.ensures,
      b.is,
      test-unequal b.through,
      value-coded c.requires 1 (omega arith) b.through,
    )
    (by_code c.requires (λ u. next_done c.args.hat (with_value_read u v) (step_number (after_read o (decode v)))))
