-- `line_break::line77` meets its contract: the words read are those of their value.
use native.Mathlib.Omega.{arith}
use lib.ListN.{get_or}
use Rattle.machine.specs.Lines.{act}
use Rattle.machine.proofs.Basics.Choices.{test-unequal}
use Rattle.table_record.specs.Coded.{with_value_read}
use Rattle.table_layout.specs.Words.{stored_in}
use Rattle.line_parts.specs.Lent.{line_of, next_done}
use Rattle.line_parts.proofs.Laws.Ready.{by_code, value-coded}
use Rattle.line_break.proofs.line77.Goals as goal

pub returns : goal.returns
unfolding line_of act
returns c g f =
    let b = c.in_ok-b.ensures.node in
    let v = stored_in c.args.ns.now (get_or c.args.t.registers 1 0) in
    rw (
      c.next.ensures,
      c.reading.ensures,
      c.value.ensures,
      b.is,
      test-unequal b.through,
      value-coded c.requires 1 (omega arith) b.through,
    )
    (by_code c.requires (λ u. next_done c.args.hat (with_value_read u v) 78))
