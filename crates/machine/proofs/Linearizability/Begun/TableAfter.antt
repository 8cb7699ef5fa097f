-- The table after a tick that was made: its sizes, its view and its records.
use mathlib.Core.Path.{◌≡◌, sym, ap, ◌∙◌, subst}
use mathlib.Core.Logic.{◌≢◌}
use mathlib.Core.Bool.{true}
use mathlib.Core.List.{List}
use mathlib.Core.Option.{none}
use Prim.Native.Nat.{ℕ}
use Rattle.machine.specs.Sides.{Side, right}
use Rattle.machine.specs.Tasks.{Task}
use Rattle.machine.specs.Table.{node_count, task_count, growth, lane_count, task}
use Rattle.machine.specs.Calls.{is_busy, tick_refusal, effect_of, tick_on}
use Rattle.machine.specs.Row.{Row, Note}
use Rattle.machine.specs.Shape.{sizes_of, WellSized}
use Rattle.machine.proofs.Basics.Updates.{update, update_same, update_other}
use Rattle.machine.proofs.Words.Memories.{View, viewed, written, view, view-view, view-viewed}
use Rattle.machine.proofs.Words.Columns.{columns}
use Rattle.machine.proofs.Shape.ShapeLaws.{WellShaped, well_sized, well-shaped}
use Rattle.machine.proofs.Shape.TickKeeps.{tick-allowed, tick-kept}
use Rattle.machine.proofs.Words.TickLaws.{tick-viewed, tick-task}
use Rattle.machine.proofs.Linearizability.Model.Invariant.{note_of}
use Rattle.machine.proofs.Linearizability.Calls.Agreement.{Agrees}
use Rattle.machine.proofs.Linearizability.Calls.MadeTicks.{effect-made}

module _ {ws : List ℕ} {ρ : Row} (A : Agrees ws ρ) (k h : ℕ) (passes : tick_refusal ws k h ≡ none) where
  abbrev after : List ℕ
  after = (tick_on ws k h).words

  -- The view that the line leaves, from the task's side and from the right.
  abbrev line_leaves : View
  line_leaves =
      written (task ws k).lane (task ws k).side (effect_of ws k h).writes (view (task ws k).side (viewed right ws))

  abbrev tick_leaves : View
  tick_leaves = view (task ws k).side line_leaves

  sizes : WellSized (sizes_of ws)
  sizes = well_sized ws A.accepted.length_passes

  shape : WellShaped (columns ws)
  shape = well-shaped ws A.accepted.length_passes A.accepted.shape_passes

  pub viewed-after : viewed right after ≡ tick_leaves
  viewed-after = tick-viewed ws k h passes sizes shape (effect-made A k h passes)

  -- As the task saw it, so its side sees it now.
  pub own-viewed : viewed (task ws k).side after
      ≡ written (task ws k).lane (task ws k).side (effect_of ws k h).writes (viewed (task ws k).side ws)
  own-viewed =
      let s = (task ws k).side in
      sym (view-viewed s after)
      ∙ ap (view s) viewed-after
      ∙ view-view s line_leaves
      ∙ ap (written (task ws k).lane s (effect_of ws k h).writes) (view-viewed s ws)

  pub tasks-after : task after ≡ update (task ws) k (effect_of ws k h).task
  tasks-after = tick-task ws k h passes sizes shape (effect-made A k h passes)

  pub own-after : task after k ≡ (effect_of ws k h).task
  own-after = ap (λ (f : ℕ → Task). f k) tasks-after ∙ update_same (task ws) k (effect_of ws k h).task

  pub other_after : (j : ℕ) → j ≢ k → task after j ≡ task ws j
  other_after j ne =
      ap (λ (f : ℕ → Task). f j) tasks-after ∙ update_other (task ws) k (effect_of ws k h).task j ne

  pub nodes-after : node_count after ≡ node_count ws
  nodes-after = ap (λ z. z.node_count) (tick-kept ws sizes shape k h).same-sizes

  pub task-count-after : task_count after ≡ task_count ws
  task-count-after = ap (λ z. z.task_count) (tick-kept ws sizes shape k h).same-sizes

  pub lanes-after : lane_count after ≡ lane_count ws
  lanes-after = ap (λ z. z.lane_count) (tick-kept ws sizes shape k h).same-sizes

  pub growth_after : growth after ≡ growth ws
  growth_after = ap (λ z. z.growth) (tick-kept ws sizes shape k h).same-sizes

  -- What is said of the sizes, of the view that the tick leaves and of a record is true of the table afterwards.
  pub in_after : (Fact : (S T gr : ℕ) → View → Task → Type 0) (j : ℕ) {t : Task} → task after j ≡ t
      → Fact (node_count ws) (task_count ws) (growth ws) tick_leaves t
      → Fact (node_count after) (task_count after) (growth after) (viewed right after) (task after j)
  in_after Fact j {t} q b =
      subst (λ (x : Task). Fact (node_count after) (task_count after) (growth after) (viewed right after) x) (sym q)
      (subst (λ (m : View). Fact (node_count after) (task_count after) (growth after) m t) (sym viewed-after)
      (subst (λ (S : ℕ). Fact S (task_count after) (growth after) tick_leaves t) (sym nodes-after)
      (subst (λ (T : ℕ). Fact (node_count ws) T (growth after) tick_leaves t) (sym task-count-after)
      (subst (λ (gr : ℕ). Fact (node_count ws) (task_count ws) gr tick_leaves t) (sym growth_after) b))))

  -- A task that goes on has from its side the view that its line left.
  pub own-side : (Fact : Side → View → Type 0)
      → note_of (effect_of ws k h).task ≡ note_of (task ws k)
      → Fact (task ws k).side line_leaves
      → Fact (effect_of ws k h).task.side (view (effect_of ws k h).task.side tick_leaves)
  own-side Fact same b =
      let s = (task ws k).side in
      let side_same : (effect_of ws k h).task.side ≡ s = ap (λ (n : Note). n.side) same in
      subst (λ (z : Side). Fact z (view z tick_leaves)) (sym side_same)
      (subst (λ (m : View). Fact s m) (sym (view-view s line_leaves)) b)

  -- It is busy as before.
  pub own-busy : note_of (effect_of ws k h).task ≡ note_of (task ws k) → is_busy (task after k).operation ≡ true
  own-busy same =
      ap (λ (t : Task). is_busy t.operation) own-after
      ∙ ap (λ (n : Note). is_busy n.operation) same
      ∙ (tick-allowed ws k h passes).2
