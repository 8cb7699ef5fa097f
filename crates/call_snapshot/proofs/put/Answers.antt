-- `call_snapshot::put` meets its contract: a refusal of the result is the put's.
use Rattle.std.proofs.lemmas.Result.{err_from_is_err_and}
use Rattle.call_snapshot.proofs.Laws.Replies.{put-refused}
use Rattle.call_snapshot.proofs.put.Goals as goal

pub returns-in_err-result_refusal : goal.returns-in_err-result_refusal
returns-in_err-result_refusal c =
    let passed_on = err_from_is_err_and c.from_residual.result c.from_residual.ensures.1 in
    rw (passed_on.1, passed_on.2)
    (put-refused c.args.snapshot.now c.args.table.now c.if-snapshot-table.false c.in_err-result_refusal.ensures)
