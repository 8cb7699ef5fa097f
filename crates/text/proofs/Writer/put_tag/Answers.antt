use native.Mathlib.Omega.{arith}
use Rattle.text.proofs.Laws.Rows.{digit-left, digit-put}
use Rattle.text.proofs.Writer.put_tag.Goals as goal

pub overflow_add-digit : goal.overflow_add-digit
overflow_add-digit c = omega (arith, digit-left c.args.tag c.loop-digit.digit-index c.loop-digit.invariant (omega arith))

pub loop-digit-preserved : goal.loop-digit-preserved
loop-digit-preserved c = digit-put c.args.tag c.loop-digit.digit-index c.loop-digit.invariant (omega arith)
