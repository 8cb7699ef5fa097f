-- `call_begin::begin_record` meets its contract: two by two the tests are the definition's, of the table in which the
-- record stands for its task's words, and the record is the one begun.
use mathlib.Core.Path.{◌≡◌, ap, ◌∙◌}
use mathlib.Core.List.{List}
use mathlib.Core.Option.{none}
use Prim.Native.Nat.{ℕ}
use Rattle.std.specs.Prelude.{Ok}
use Rattle.std.proofs.lemmas.Result.{err_from_is_err_and}
use Rattle.machine.specs.Calls.{table_refusal}
use Rattle.machine.specs.Lent.{lent_to}
use Rattle.machine.specs.Results.{changed_of}
use Rattle.machine.specs.Shape.{sizes_of, Sized, WellLinked}
use Rattle.machine.proofs.Shape.ShapeLaws.{well_sized}
use Rattle.machine.proofs.Words.LentLaws.{lent-refused, lent-accepted}
use Rattle.table_record.specs.Coded.{record_of, coded_task}
use Rattle.table_record.specs.declared.Task as Tasks
use Rattle.table_shape.proofs.Laws.PassedTable.{table-passed}
use Rattle.table_shape.proofs.Laws.LentShape.{lent-linked}
use Rattle.call_begin.proofs.BeginTests.{
  begun-asked,
  by_table,
  by_place,
  by_numbers,
  by_own,
  place-passed,
  lent-stands,
  same_place,
}
use Rattle.call_begin.proofs.begin_record.Goals as goal

-- ---- The table with the record in its place has passed.
module _ (ws : List ℕ) (k : ℕ) (own : Tasks.Task)
    (passed : none ≡ table_refusal (lent_to ws k (record_of own)) none) where
  linked : WellLinked ws
  linked = lent-linked ws k (record_of own) (table-passed (lent_to ws k (record_of own)) passed)

  sized : Sized (sizes_of ws)
  sized = (well_sized ws linked.length_passes).sized

pub returns-in_err-lent_refusal : goal.returns-in_err-lent_refusal
returns-in_err-lent_refusal c =
    let a = c.args in
    let vs = lent_to a.table.now a.task (record_of a.own) in
    let p = err_from_is_err_and c.from_residual.result c.from_residual.ensures.1 in
    rw (p.1, p.2)
    (lent-refused a.table.now (record_of a.own) a.task a.l a.operation a.side a.argument _
    (by_table vs a.task a.l a.operation a.side a.argument c.in_err-lent_refusal.ensures))

pub returns-in_err-place_refusal : goal.returns-in_err-place_refusal
returns-in_err-place_refusal c =
    let a = c.args in
    let vs = lent_to a.table.now a.task (record_of a.own) in
    let f = c.from_residual-in_err-place_refusal in
    let p = err_from_is_err_and f.result f.ensures.1 in
    rw (p.1, p.2)
    (lent-refused a.table.now (record_of a.own) a.task a.l a.operation a.side a.argument _
    (by_place vs a.task a.l a.operation a.side a.argument c.in_ok-lent_refusal.ensures
    (c.in_err-place_refusal.ensures ∙ same_place a.table.now a.task a.own a.l)))

pub returns-in_err-call : goal.returns-in_err-call
returns-in_err-call c =
    let a = c.args in
    let vs = lent_to a.table.now a.task (record_of a.own) in
    let f = c.from_residual-in_err-call in
    let p = err_from_is_err_and f.result f.ensures.1 in
    rw (p.1, p.2)
    (lent-refused a.table.now (record_of a.own) a.task a.l a.operation a.side a.argument _
    (by_numbers vs a.task a.l a.operation a.side a.argument c.in_ok-lent_refusal.ensures
    (c.in_ok-place_refusal.ensures ∙ same_place a.table.now a.task a.own a.l) c.in_err-call.ensures.refusal))

pub invariant_of-lanes : goal.invariant_of-lanes
invariant_of-lanes c =
    let a = c.args in record { linked = linked a.table.now a.task a.own c.in_ok-lent_refusal.ensures }

pub returns-in_err-refusal : goal.returns-in_err-refusal
returns-in_err-refusal c =
    let a = c.args in
    let ws = a.table.now in
    let vs = lent_to ws a.task (record_of a.own) in
    let f = c.from_residual-in_err-refusal in
    let p = err_from_is_err_and f.result f.ensures.1 in
    let at = place-passed ws a.task a.l c.in_ok-place_refusal.ensures in
    let W = lent-stands ws a.task a.own at.is_task (sized ws a.task a.own c.in_ok-lent_refusal.ensures) in
    rw (p.1, p.2)
    (lent-refused ws (record_of a.own) a.task a.l a.operation a.side a.argument _
    (by_own vs a.task a.l a.operation a.side a.argument c.in_ok-lent_refusal.ensures
    (c.in_ok-place_refusal.ensures ∙ same_place ws a.task a.own a.l) c.in_ok-call.call c.in_ok-call.ensures.refusal
    c.in_ok-call.ensures.asked (c.in_err-refusal.ensures vs W)))

pub returns : goal.returns
returns c =
    let a = c.args in
    let ws = a.table.now in
    let vs = lent_to ws a.task (record_of a.own) in
    let call = c.in_ok-call in
    let at = place-passed ws a.task a.l c.in_ok-place_refusal.ensures in
    let fits = sized ws a.task a.own c.in_ok-lent_refusal.ensures in
    let W = lent-stands ws a.task a.own at.is_task fits in
    ap (λ (t : Tasks.Task). changed_of (Ok t) (record_of t))
    (c.begun.ensures ∙ ap coded_task (begun-asked call.call a.operation a.side call.ensures.asked))
    ∙ lent-accepted ws (record_of a.own) a.task a.l a.operation a.side a.argument
    (by_own vs a.task a.l a.operation a.side a.argument c.in_ok-lent_refusal.ensures
    (c.in_ok-place_refusal.ensures ∙ same_place ws a.task a.own a.l) call.call call.ensures.refusal call.ensures.asked
    (c.in_ok-refusal.ensures vs W))
    fits at.is_task
