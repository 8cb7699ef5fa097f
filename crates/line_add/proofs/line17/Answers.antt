-- `line_add::line17` meets its contract: three comparisons of values choose the step as the definition does.
use native.Mathlib.Omega.{arith}
use Prim.Native.Nat.{ℕ}
use lib.ListN.{get_or}
use Rattle.machine.specs.Lines.{act}
use Rattle.machine.proofs.Basics.Choices.{test-unequal, equalᵛ, unequalᵛ}
use Rattle.table_record.specs.Coded.{with_value_read}
use Rattle.table_layout.specs.Words.{stored_in}
use Rattle.line_parts.specs.Lent.{line_of, next_done}
use Rattle.line_parts.proofs.Laws.Ready.{by_code, value-coded}
use Rattle.line_parts.proofs.Laws.Compared.{are-same, are-other}
use Rattle.line_add.proofs.line17.Goals as goal
use Rattle.line_add.proofs.line17.Goals.{then-is, else-is+then-is-2, else-is+else-is-2+then-is-3, else-is+else-is-2+else-is-3}

pub returns : goal.returns
unfolding line_of act
returns c g f =
    let R = c.requires in
    let a = c.in_ok-a.ensures.node in
    let v = stored_in c.args.ns.now (get_or c.args.t.registers 0 0) in
    let to = λ (step : ℕ). by_code R (λ u. next_done c.args.hat (with_value_read u v) step) in
    let n = rw (c.value-v.ensures, a.is) at c.is.ensures in
    rw (
      c.next.ensures,
      c.reading.ensures,
      c.value-v.ensures,
      a.is,
      test-unequal a.through,
      value-coded R 0 (omega arith) a.through,
    )
    (elim c.if-is.branch [
      | then-is w ↦ rw (w.step-is, equalᵛ (are-same n w.if-is.true)) (to 18)
      | else-is+then-is-2 w ↦
          let y = rw (c.value-v.ensures, a.is) at w.is-else-is.ensures in
          rw (w.step-is, unequalᵛ (are-other n w.if-is.false), equalᵛ (are-same y w.if-is-2.true)) (to 67)
      | else-is+else-is-2+then-is-3 w ↦
          let y = rw (c.value-v.ensures, a.is) at w.is-else-is.ensures in
          let x = rw (c.value-v.ensures, a.is) at w.is-else-is-2.ensures in
          rw (
            w.step-is,
            unequalᵛ (are-other n w.if-is.false),
            unequalᵛ (are-other y w.if-is-2.false),
            equalᵛ (are-same x w.if-is-3.true),
          )
          (to 24)
      | else-is+else-is-2+else-is-3 w ↦
          let y = rw (c.value-v.ensures, a.is) at w.is-else-is.ensures in
          let x = rw (c.value-v.ensures, a.is) at w.is-else-is-2.ensures in
          rw (
            w.step-is,
            unequalᵛ (are-other n w.if-is.false),
            unequalᵛ (are-other y w.if-is-2.false),
            unequalᵛ (are-other x w.if-is-3.false),
          )
          (to 15)
    ])
