-- `call_begin::begin` meets its contract: two by two the tests are the definition's, and the record is the one begun.
use mathlib.Core.Path.{ap, ◌∙◌}
use lib.Seq.{sets}
use Rattle.std.specs.Prelude.{Ok}
use Rattle.std.proofs.lemmas.Result.{err_from_is_err_and}
use Rattle.machine.specs.Table.{node_count, record_at}
use Rattle.machine.specs.Results.{changed_of}
use Rattle.machine.proofs.Shape.ShapeLaws.{well-linked}
use Rattle.table_record.specs.Coded.{record_of, coded_task}
use Rattle.table_record.specs.declared.Task as Tasks
use Rattle.table_shape.proofs.Laws.PassedTable.{table-passed}
use Rattle.call_begin.proofs.BeginTests.{
  begun-asked,
  by_place,
  by_numbers,
  by_own,
  begin-tested,
  place-passed,
  own-in-place,
}
use Rattle.call_begin.proofs.begin.Goals as goal

pub returns-in_err-place_refusal : goal.returns-in_err-place_refusal
returns-in_err-place_refusal c =
    let a = c.args in
    let f = c.from_residual-in_err-place_refusal in
    let p = err_from_is_err_and f.result f.ensures.1 in
    rw (p.1, p.2)
    (begin-tested a.table.now a.task a.l a.operation a.side a.argument
    (by_place a.table.now a.task a.l a.operation a.side a.argument c.in_ok-table_refusal.ensures
    c.in_err-place_refusal.ensures))

pub returns-in_err-call : goal.returns-in_err-call
returns-in_err-call c =
    let a = c.args in
    let f = c.from_residual-in_err-call in
    let p = err_from_is_err_and f.result f.ensures.1 in
    rw (p.1, p.2)
    (begin-tested a.table.now a.task a.l a.operation a.side a.argument
    (by_numbers a.table.now a.task a.l a.operation a.side a.argument c.in_ok-table_refusal.ensures
    c.in_ok-place_refusal.ensures c.in_err-call.ensures.refusal))

pub invariant_of-lanes : goal.invariant_of-lanes
invariant_of-lanes c =
    let ws = c.args.table.now in record { linked = well-linked ws (table-passed ws c.in_ok-table_refusal.ensures) }

pub returns-in_err-refusal : goal.returns-in_err-refusal
returns-in_err-refusal c =
    let a = c.args in
    let ws = a.table.now in
    let f = c.from_residual-in_err-refusal in
    let p = err_from_is_err_and f.result f.ensures.1 in
    let at = place-passed ws a.task a.l c.in_ok-place_refusal.ensures in
    let W = own-in-place ws a.task c.task-own.result at.is_task c.task-own.ensures in
    rw (p.1, p.2)
    (begin-tested ws a.task a.l a.operation a.side a.argument
    (by_own ws a.task a.l a.operation a.side a.argument c.in_ok-table_refusal.ensures c.in_ok-place_refusal.ensures
    c.in_ok-call.call c.in_ok-call.ensures.refusal c.in_ok-call.ensures.asked (c.in_err-refusal.ensures ws W)))

pub returns : goal.returns
returns c =
    let a = c.args in
    let ws = a.table.now in
    let call = c.in_ok-call in
    let at = place-passed ws a.task a.l c.in_ok-place_refusal.ensures in
    let W = own-in-place ws a.task c.task-own.result at.is_task c.task-own.ensures in
    ap (changed_of (Ok (tt {0})))
    (c.set_task.ensures
    ∙ ap (λ (t : Tasks.Task). sets ws (record_at (node_count ws) a.task) (record_of t))
    (c.begun.ensures ∙ ap coded_task (begun-asked call.call a.operation a.side call.ensures.asked)))
    ∙ begin-tested ws a.task a.l a.operation a.side a.argument
    (by_own ws a.task a.l a.operation a.side a.argument c.in_ok-table_refusal.ensures c.in_ok-place_refusal.ensures
    call.call call.ensures.refusal call.ensures.asked (c.in_ok-refusal.ensures ws W))
