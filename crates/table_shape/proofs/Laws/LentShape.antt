-- The shape of a table in which a lent record stands for a task's words.
use mathlib.Core.Path.{◌≡◌, sym, ap, ◌∙◌}
use mathlib.Core.Bool.{Bool, true, false, ◌&&◌}
use mathlib.Core.Logic.{◌≢◌}
use mathlib.Core.List.{List}
use Prim.Native.Nat.{ℕ, ◌+◌, ◌-◌, ◌≤◌, ◌<◌}
use native.Mathlib.Omega.{arith}
use lib.ListN.{length}
use lib.Seq.{take_all}
use Rattle.machine.specs.Tasks.{record_length}
use Rattle.machine.specs.Table.{node_count, task_count, record_words}
use Rattle.machine.specs.Shape.{
  Sizes,
  sizes_of,
  Sized,
  header_ok,
  all_below,
  node_ok,
  record_ok,
  shape_ok,
  WellFormed,
  WellLinked,
}
use Rattle.machine.specs.Lent.{lent_to}
use Rattle.machine.proofs.Words.LentLaws.{
  all_alike,
  no_place,
  lent-sizes,
  same-task-count,
  lent_length,
  lent-header,
  lent-nodes,
  own-words,
  far-words,
}
use Rattle.machine.proofs.Shape.ShapeLaws.{well-linked}
use Rattle.table_shape.specs.Promised.{fits_in, nth_ok, task_ok, all_from}
use Rattle.table_shape.proofs.Laws.Below.{from-none, below-around}

module _ (ws : List ℕ) (k : ℕ) (r : List ℕ) where
  abbrev lent : List ℕ
  lent = lent_to ws k r

  abbrev lent_tasks_ok : Bool
  lent_tasks_ok = all_below (task_count lent) (task_ok lent)

  -- ---- The records, where the task has no place.
  pub tasks-placeless : task_count ws ≤ k → all_below (task_count ws) (task_ok ws) ≡ lent_tasks_ok
  tasks-placeless h = ap (λ (l : List ℕ). all_below (task_count l) (task_ok l)) (sym (no_place ws k r h))

  -- ---- And where it has one: those before it, the one lent and those after it.
  same-fit : (words : List ℕ) → fits_in ws words ≡ fits_in lent words
  same-fit words =
      ap (λ (z : Sizes). record_ok z.node_count z.growth z.lane_count words) (sym (lent-sizes ws k r))

  module _ (is_task : k < task_count ws) (sized : Sized (sizes_of ws)) (long : length r ≡ record_length) where
    own-fits : fits_in ws r ≡ task_ok lent k
    own-fits = same-fit r ∙ ap (fits_in lent) (sym (own-words ws k r is_task sized long))

    other_fits : (j : ℕ) → j ≢ k → task_ok ws j ≡ task_ok lent j
    other_fits j n = same-fit (record_words ws j) ∙ ap (fits_in lent) (sym (far-words ws k r is_task sized long j n))

    before : all_from 0 k (task_ok ws) ≡ all_below k (task_ok lent)
    before =
        from-none (task_ok ws) k
        ∙ all_alike k (task_ok ws) (task_ok lent) (λ j l. other_fits j (λ e. absurd (omega arith)))

    after : all_from (k + 1) (task_count ws) (task_ok ws) ≡ all_from (k + 1) (task_count ws) (task_ok lent)
    after =
        all_alike (task_count ws - (k + 1)) (λ i. task_ok ws (k + 1 + i)) (λ i. task_ok lent (k + 1 + i)) (λ i l.
        other_fits (k + 1 + i) (λ e. absurd (omega arith)))

    in_parts :
        all_from 0 k (task_ok ws) && (fits_in ws r && all_from (k + 1) (task_count ws) (task_ok ws)) ≡ lent_tasks_ok
    in_parts =
        (λ i. before i && (own-fits i && after i))
        ∙ below-around (task_ok lent) (task_count ws) k is_task
        ∙ ap (λ (n : ℕ). all_below n (task_ok lent)) (sym (same-task-count ws k r))

    -- The record lent, as the only one of its words.
    own_alone : all_from 0 1 (nth_ok ws r 0) ≡ fits_in ws r
    unfolding all_below
    own_alone = ap (fits_in ws) (take_all record_length r (omega arith))

    -- Part by part.
    pub before-fails : all_from 0 k (task_ok ws) ≡ false → false ≡ lent_tasks_ok
    before-fails e = (rw e) ∙ in_parts

    module _ (passed : all_from 0 k (task_ok ws) ≡ true) where
      pub own-fails : all_from 0 1 (nth_ok ws r 0) ≡ false → false ≡ lent_tasks_ok
      own-fails e = let own = sym own_alone ∙ e in (rw (passed, own)) ∙ in_parts

      pub after-decides : all_from 0 1 (nth_ok ws r 0) ≡ true → all_from (k + 1) (task_count ws) (task_ok ws) ≡ lent_tasks_ok
      after-decides e = let own = sym own_alone ∙ e in (rw (passed, own)) ∙ in_parts

  -- ---- The whole.
  pub lent-shape : header_ok ws && all_below (node_count ws) (node_ok ws) && lent_tasks_ok ≡ shape_ok lent
  unfolding shape_ok
  lent-shape = λ i. sym (lent-header ws k r) i && sym (lent-nodes ws k r) i && lent_tasks_ok

  -- What a walk relies on does not hang on the record.
  pub lent-linked : WellFormed lent → WellLinked ws
  lent-linked P =
      let L = well-linked lent P in
      record {
        length_passes = sym (lent_length ws k r) ∙ L.length_passes;
        header_passes = sym (lent-header ws k r) ∙ L.header_passes;
        nodes_pass = sym (lent-nodes ws k r) ∙ L.nodes_pass;
      }
