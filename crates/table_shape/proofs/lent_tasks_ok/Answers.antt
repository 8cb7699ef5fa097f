-- The records before the task's own, the one that is lent, and those after it.
use mathlib.Core.Path.{◌≡◌, refl, ap, sym, ◌∙◌}
use mathlib.Core.Bool.{Bool, true}
use Rattle.machine.specs.Shape.{length_ok}
use mathlib.Core.List.{List}
use Prim.Native.Nat.{ℕ, ◌+◌, ◌<◌}
use native.Mathlib.Omega.{arith}
use lib.ListN.{length}
use Rattle.machine.specs.Table.{node_at, node_count, task_count}
use Rattle.machine.specs.Shape.{sizes_of, Sized}
use Rattle.machine.proofs.Shape.ShapeLaws.{well_sized}
use Rattle.table_record.specs.Coded.{record_of}
use Rattle.table_shape.specs.Promised.{nth_ok, task_ok, all_from}
use Rattle.table_shape.proofs.Laws.TableWords.{header-long}
use Rattle.table_shape.proofs.Laws.LentShape.{tasks-placeless, before-fails, own-fails, after-decides}
use Rattle.table_shape.proofs.lent_tasks_ok.Goals as goal

pub tasks-n-requires : goal.tasks-n-requires
tasks-n-requires c = header-long c.args.table.now c.requires

pub returns-then-n-k : goal.returns-then-n-k
returns-then-n-k c =
    let a = c.args in
    c.tasks_ok.ensures
    ∙ tasks-placeless a.table.now a.k (record_of a.own) (omega (arith, c.tasks-n.ensures, c.if-n-k.true))

-- ---- The task has a place.
module _ (ws : List ℕ) (k : ℕ) (own : List ℕ) (passes : length_ok ws ≡ true) where
  sized : Sized (sizes_of ws)
  sized = (well_sized ws passes).sized

  is_task : {n : ℕ} → n ≡ task_count ws → k < n → k < task_count ws
  is_task counted low = omega (arith, counted)

  -- The first record's place.
  after-nodes : {S f : ℕ} → f ≡ node_at S → S ≡ node_count ws → f ≡ node_at (node_count ws)
  after-nodes placed counted = placed ∙ ap node_at counted

  -- What a range of the table's records tells, and one of the lent record's words.
  before-told : {f : ℕ} {r b : Bool} → f ≡ node_at (node_count ws) → r ≡ all_from 0 k (nth_ok ws ws f) → r ≡ b
      → all_from 0 k (task_ok ws) ≡ b
  before-told placed says h = ap (λ (p : ℕ). all_from 0 k (nth_ok ws ws p)) (sym placed) ∙ sym says ∙ h

  own-told : {words : List ℕ} {r b : Bool} → words ≡ own → r ≡ all_from 0 1 (nth_ok ws words 0) → r ≡ b
      → all_from 0 1 (nth_ok ws own 0) ≡ b
  own-told written says h = ap (λ (l : List ℕ). all_from 0 1 (nth_ok ws l 0)) (sym written) ∙ sym says ∙ h

pub slots-requires : goal.slots-requires
slots-requires c = header-long c.args.table.now c.requires

pub range_ok-requires : goal.range_ok-requires
range_ok-requires c =
    let ws = c.args.table.now in
    let k = c.args.k in
    let own = record_of c.args.own in
    let placed = after-nodes ws k own c.requires c.node_at-first.ensures c.slots.ensures in
    let low = is_task ws k own c.requires c.tasks-n.ensures c.if-n-k.false in
    record {
      holds_header = (header-long ws c.requires, c.owners-owners.ensures);
      from_le_to = (omega arith, omega (arith, placed, low, sized ws k own c.requires));
    }

pub returns-then-not-range_ok : goal.returns-then-not-range_ok
returns-then-not-range_ok c =
    let ws = c.args.table.now in
    let k = c.args.k in
    let own = record_of c.args.own in
    let placed = after-nodes ws k own c.requires c.node_at-first.ensures c.slots.ensures in
    let low = is_task ws k own c.requires c.tasks-n.ensures c.if-n-k.false in
    before-fails ws k own low (sized ws k own c.requires) refl
    (before-told ws k own c.requires placed c.range_ok.ensures c.if-not-range_ok.true)

-- ---- The record lent, by its words.
pub range_ok-requires-2 : goal.range_ok-requires-2
range_ok-requires-2 c =
    record {
      holds_header = (header-long c.args.table.now c.requires, c.owners-owners.ensures);
      from_le_to = (omega arith, omega (arith, ap length c.write.ensures));
    }

pub returns-then-not-range_ok-2 : goal.returns-then-not-range_ok-2
returns-then-not-range_ok-2 c =
    let ws = c.args.table.now in
    let k = c.args.k in
    let own = record_of c.args.own in
    let placed = after-nodes ws k own c.requires c.node_at-first.ensures c.slots.ensures in
    let low = is_task ws k own c.requires c.tasks-n.ensures c.if-n-k.false in
    own-fails ws k own low (sized ws k own c.requires) refl
    (before-told ws k own c.requires placed c.range_ok.ensures c.if-not-range_ok.false)
    (own-told ws k own c.requires c.write.ensures c.range_ok-2.ensures c.if-not-range_ok-2.true)

pub range_ok-requires-3 : goal.range_ok-requires-3
range_ok-requires-3 c =
    let ws = c.args.table.now in
    let k = c.args.k in
    let own = record_of c.args.own in
    let placed = after-nodes ws k own c.requires c.node_at-first.ensures c.slots.ensures in
    let low = is_task ws k own c.requires c.tasks-n.ensures c.if-n-k.false in
    record {
      holds_header = (header-long ws c.requires, c.owners-owners.ensures);
      from_le_to = (
        omega (arith, low, c.tasks-n.ensures),
        omega (arith, placed, sized ws k own c.requires, c.tasks-n.ensures),
      );
    }

pub returns : goal.returns
returns c =
    let ws = c.args.table.now in
    let k = c.args.k in
    let own = record_of c.args.own in
    let placed = after-nodes ws k own c.requires c.node_at-first.ensures c.slots.ensures in
    let low = is_task ws k own c.requires c.tasks-n.ensures c.if-n-k.false in
    c.range_ok-3.ensures
    ∙ ap (λ (n : ℕ). all_from (k + 1) n (nth_ok ws ws c.node_at-first.result)) c.tasks-n.ensures
    ∙ ap (λ (p : ℕ). all_from (k + 1) (task_count ws) (nth_ok ws ws p)) placed
    ∙ after-decides ws k own low (sized ws k own c.requires) refl
    (before-told ws k own c.requires placed c.range_ok.ensures c.if-not-range_ok.false)
    (own-told ws k own c.requires c.write.ensures c.range_ok-2.ensures c.if-not-range_ok-2.false)
