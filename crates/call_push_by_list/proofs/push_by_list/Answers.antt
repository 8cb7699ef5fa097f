-- `call_push_by_list::push_by_list` meets its contract: the begin is made at the end to which the list sends the tag.
use Rattle.std.specs.Prelude.{Ok, Err}
use Rattle.std.proofs.lemmas.Result.{err_from_is_err_and}
use mathlib.Core.Path.{ap}
use Rattle.airline_list.specs.Outcomes.{flaw_number, sent_of}
use Rattle.call_push_by_list.proofs.Sending.{begun-at, not-begun}
use Rattle.call_push_by_list.proofs.push_by_list.Goals as goal

pub returns-in_err-end : goal.returns-in_err-end
returns-in_err-end c =
    let a = c.args in
    let fault = c.in_err-end.field-0.0 in
    let p = err_from_is_err_and c.from_residual.result c.from_residual.ensures.1 in
    rw (p.1, p.2)
    (not-begun a.list.now a.table.now a.task a.l a.argument (sent_of c.end_for.result) c.number.result c.number.ensures
    c.end_for.ensures (flaw_number fault.flaw) fault.line (ap sent_of c.in_err-end.was))

pub returns-in_err-begin : goal.returns-in_err-begin
returns-in_err-begin c =
    let a = c.args in
    let p = err_from_is_err_and c.from_residual-in_err-begin.result c.from_residual-in_err-begin.ensures.1 in
    rw (p.1, p.2)
    (begun-at a.list.now a.table.now a.task a.l a.argument (sent_of c.end_for.result) c.number.result c.number.ensures
    c.end_for.ensures c.in_ok-end.end (ap sent_of c.in_ok-end.was) c.side.result c.side.ensures
    (Err c.in_err-begin.field-0.0) c.begin.new.table c.in_err-begin.ensures)

pub returns : goal.returns
returns c =
    let a = c.args in
    begun-at a.list.now a.table.now a.task a.l a.argument (sent_of c.end_for.result) c.number.result c.number.ensures
    c.end_for.ensures c.in_ok-end.end (ap sent_of c.in_ok-end.was) c.side.result c.side.ensures
    (Ok c.in_ok-begin.field-0) c.begin.new.table c.in_ok-begin.ensures
