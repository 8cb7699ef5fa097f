-- `call_dispatch::dispatches` meets its contract: a refusal of the tests is that of all.
use Rattle.std.proofs.lemmas.Result.{err_from_is_err_and}
use Rattle.call_dispatch.proofs.ConsecutiveDispatches.{all-refused}
use Rattle.call_dispatch.proofs.dispatches.Goals as goal

pub returns-in_err-dispatch_refusal : goal.returns-in_err-dispatch_refusal
returns-in_err-dispatch_refusal c =
    let a = c.args in
    let passed_on = err_from_is_err_and c.from_residual.result c.from_residual.ensures.1 in
    rw (passed_on.1, passed_on.2)
    (all-refused a.table.now a.hint c.in_err-dispatch_refusal.ensures a.times c.if-times-eq0.false)
