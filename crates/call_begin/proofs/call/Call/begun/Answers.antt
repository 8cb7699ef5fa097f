-- `call_begin::call::Call::begun` meets its contract: a fresh record, at its first step, with the numbers of the call.
use Rattle.call_begin.proofs.BeginTests.{begun-record}
use Rattle.machine.specs.Asked.{operation_meant, side_meant}
use Rattle.call_begin.proofs.call.Call.begun.Goals as goal

pub returns : goal.returns
returns c =
    let call = c.args.self in
    let n = c.number.ensures in
    let step = c.first_step.ensures in
    let side = c.number-2.ensures in
    let fresh = c.fresh.ensures in
    rw (n, step, side, fresh)
    (begun-record call.lane (operation_meant call.operation) (side_meant call.side) call.argument call.is_argument)
