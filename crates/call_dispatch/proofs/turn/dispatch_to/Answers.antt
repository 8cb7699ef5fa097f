-- `call_dispatch::turn::dispatch_to` meets its contract: a refusal of the tick is the dispatch's.
use Rattle.std.proofs.lemmas.Result.{err_from_is_err_and}
use Rattle.call_dispatch.proofs.DispatchTests.{to-refused}
use Rattle.call_dispatch.proofs.turn.dispatch_to.Goals as goal

pub returns-in_err-answer : goal.returns-in_err-answer
returns-in_err-answer c =
    let a = c.args in
    let passed_on = err_from_is_err_and c.from_residual.result c.from_residual.ensures.1 in
    rw (passed_on.1, passed_on.2) (to-refused a.table.now a.k a.hint c.in_err-answer.ensures)
