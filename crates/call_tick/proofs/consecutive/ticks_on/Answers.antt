-- `call_tick::consecutive::ticks_on` meets its contract: the ticks that are left give what all give.
use Rattle.std.proofs.Common.{refl, sym, ◌∙◌, arith}
use Rattle.std.proofs.lemmas.Result.{err_from_is_err_and}
use Rattle.call_tick.proofs.Laws.ConsecutiveTicks.{tick-passed, ticks_end, others-follow}
use Rattle.call_tick.proofs.consecutive.ticks_on.Goals as goal

pub returns-in_err-answer : goal.returns-in_err-answer
returns-in_err-answer c =
    let a = c.args in
    let l = c.loop in
    let passed_on = err_from_is_err_and c.from_residual.result c.from_residual.ensures.1 in
    rw (passed_on.1, passed_on.2)
    (ticks_end l.table l.invariant.0 a.task a.hint c.in_err-answer.ensures a.times l.counter (omega arith) l.invariant.1 refl)

pub returns-then-not-is_going : goal.returns-then-not-is_going
returns-then-not-is_going c =
    let a = c.args in
    let l = c.loop in
    ticks_end l.table l.invariant.0 a.task a.hint c.in_ok-answer.ensures a.times l.counter (omega arith) l.invariant.1
    (sym c.is_going.ensures ∙ c.if-not-is_going.true)

pub loop-preserved : goal.loop-preserved
loop-preserved c =
    let a = c.args in
    let l = c.loop in (
      tick-passed l.table l.invariant.0 a.task a.hint c.in_ok-answer.ensures,
      others-follow l.table l.invariant.0 a.task a.hint c.in_ok-answer.ensures a.times l.counter (omega arith)
          l.invariant.1 (sym c.is_going.ensures ∙ c.if-not-is_going.false),
    )
