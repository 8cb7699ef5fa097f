-- `call_begin::OwnRecord::refusal` meets its contract: what refuses a push comes before 8.
use Rattle.std.proofs.lemmas.Result.{err_from_is_err_and}
use Rattle.machine.specs.Values.{number}
use Rattle.machine.specs.Asked.{operation_meant}
use Rattle.call_begin.proofs.SeenTests.{twice-refused}
use Rattle.call_begin.proofs.OwnRecord.refusal.Goals as goal

pub returns-in_err-twice_refusal : goal.returns-in_err-twice_refusal
returns-in_err-twice_refusal c = λ ws W.
    let call = c.args.call in
    let p = err_from_is_err_and c.from_residual.result c.from_residual.ensures.1 in
    rw (p.1, p.2)
    (twice-refused ws (number call.argument) (operation_meant call.operation) _ (c.in_err-twice_refusal.ensures ws W))
