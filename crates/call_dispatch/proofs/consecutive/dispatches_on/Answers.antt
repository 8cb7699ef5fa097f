-- `call_dispatch::consecutive::dispatches_on` meets its contract: the dispatches that are left give what all give.
use Rattle.std.proofs.Common.{refl, sym, ◌∙◌, arith}
use Rattle.std.proofs.lemmas.Result.{err_from_is_err_and}
use Rattle.call_dispatch.proofs.ConsecutiveDispatches.{still-passed, dispatches_end, others-left}
use Rattle.call_dispatch.proofs.consecutive.dispatches_on.Goals as goal

pub returns-in_err-answer : goal.returns-in_err-answer
returns-in_err-answer c =
    let a = c.args in
    let l = c.loop in
    let passed_on = err_from_is_err_and c.from_residual.result c.from_residual.ensures.1 in
    rw (passed_on.1, passed_on.2)
    (dispatches_end l.table a.hint l.invariant.0 c.in_err-answer.ensures a.times l.counter (omega arith) l.invariant.1 refl)

pub returns-then-not-goes_on : goal.returns-then-not-goes_on
returns-then-not-goes_on c =
    let a = c.args in
    let l = c.loop in
    dispatches_end l.table a.hint l.invariant.0 c.in_ok-answer.ensures a.times l.counter (omega arith) l.invariant.1
    (sym c.goes_on.ensures ∙ c.if-not-goes_on.true)

pub loop-preserved : goal.loop-preserved
loop-preserved c =
    let a = c.args in
    let l = c.loop in (
      still-passed l.table a.hint l.invariant.0 c.in_ok-answer.ensures,
      others-left l.table a.hint l.invariant.0 c.in_ok-answer.ensures a.times l.counter (omega arith) l.invariant.1
          (sym c.goes_on.ensures ∙ c.if-not-goes_on.false),
    )
