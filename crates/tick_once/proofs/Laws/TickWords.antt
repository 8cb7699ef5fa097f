-- The words that a tick in code leaves are the definition's.
use mathlib.Core.Path.{◌≡◌, refl, sym, ap, ◌∙◌}
use mathlib.Core.List.{List, []}
use Prim.Native.Nat.{ℕ, ◌<◌}
use Rattle.machine.specs.Outcomes.Answer.{Answer, Refused}
use Rattle.machine.specs.Sides.{Side, opposite, side_of}
use Rattle.machine.specs.Steps.{step_of}
use Rattle.machine.specs.Tasks.{Task, goal}
use Rattle.machine.specs.Table.{
  node_count,
  task_count,
  growth,
  most_lanes,
  hat,
  node_part,
  record_words,
  task,
  set_hat,
}
use Rattle.machine.specs.Allocate.{allocate}
use Rattle.machine.specs.Lines.{Memory, Effect, seen, write_all, act}
use Rattle.machine.specs.Answers.{refusal_of}
use Rattle.machine.specs.Calls.{effect_of, applied, Ticked}
use Rattle.machine.specs.Shape.{sizes_of, WellSized}
use Rattle.machine.proofs.Basics.Contradiction.{clash}
use Rattle.machine.proofs.Words.Columns.{columns}
use Rattle.machine.proofs.Words.EffectLaws.{AllInRange}
use Rattle.machine.proofs.Shape.ShapeLaws.{WellShaped}
use Rattle.machine.proofs.Shape.Fits.{answer-made, Fits, turns-back, goes_on, ends}
use Rattle.table_record.specs.declared.Task as Tasks
use Rattle.table_record.specs.Coded.{struct_of, task_meant}
use Rattle.line_parts.specs.Lent.{writes_in, hat_after, effect_in, line_of}
use Rattle.table_layout.specs.Words.{HoldsNodes}
use Rattle.table_layout.proofs.Laws.LaidNodes.{with_nodes, own-nodes, hat-laid}
use Rattle.tick_once.proofs.Laws.Seen.{seen-in}
use Rattle.tick_store.proofs.Laws.Laid.{writes-stored}
use Rattle.tick_once.proofs.Laws.TickReady.{meant-task}

module _ (ws : List ℕ) (Z : WellSized (sizes_of ws)) (W : WellShaped (columns ws)) (k : ℕ) (is_task : k < task_count ws)
  where
    abbrev t : Tasks.Task
    t = struct_of (record_words ws k)

    abbrev s : Side
    s = side_of t.side

    abbrev ℓ : ℕ
    ℓ = t.lane

    -- The line that the code makes, over the lent part, is the effect of the definitions, over the table.
    pub line-is-effect :
        (h g : ℕ)
        → g ≡ goal (growth ws) (task ws k)
        → line_of (step_of t.step) (node_part ws) (hat ws ℓ s) t g (allocate ws h)
        ≡ effect_in s (node_part ws) (hat ws ℓ s) (effect_of ws k h)
    unfolding line_of effect_of
    line-is-effect h g e =
        let τ = task_meant t in
        let f = allocate ws h in
        let st = step_of t.step in
        let meant = meant-task ws Z W k is_task in
        ap (effect_in s (node_part ws) (hat ws ℓ s))
        (ap (λ (m : Memory). act st s (opposite s) m τ g f) (sym (seen-in ws Z.sized ℓ s))
        ∙ ap (λ (n : ℕ). act st s (opposite s) (seen ℓ s ws) τ n f) (e ∙ ap (goal (growth ws)) (sym meant))
        ∙ ap
        (λ (u : Task).
        act u.step u.side (opposite u.side) (seen u.lane u.side ws) u (goal (growth ws) u) f)
        meant)

-- An answer with the words that a tick leaves.
abbrev pub told : Answer → List ℕ → Ticked
told a ws = record { answer = a; words = ws }

-- ---- Refused, the words stay; made, they are the effect's.
none_written : {S g L n : ℕ} {e : Effect} → Fits S g L e → e.answer ≡ Refused n → e.writes ≡ []
none_written turns-back r = refl
none_written (goes_on fit F) r = clash (cc)
none_written (ends {l} {a} fit answers) r = clash (let q = ap refusal_of r in cc (q, answer-made a answers))

module _ (ℓ : ℕ) (s : Side) (ws : List ℕ) (k : ℕ) (e : Effect) where
  -- The part as a refused line leaves it, laid back.
  pub refused-words :
      {g L n : ℕ} {ns : List ℕ}
      → Fits (node_count ws) g L e
      → e.answer ≡ Refused n
      → ns ≡ writes_in s e.writes (node_part ws)
      → told (Refused n) (with_nodes ns ws) ≡ applied ℓ s ws k e
  unfolding applied
  refused-words {n = n} fit r q =
      let w = none_written fit r in rw (r, applied, r, q, w) (ap (told (Refused n)) (own-nodes ws))

  -- The part and the hat as a line that is made leaves them.
  pub made-words :
      ℓ < most_lanes
      → HoldsNodes ws
      → {ns : List ℕ} {h : ℕ}
      → AllInRange (node_count ws) e.writes
      → ns ≡ writes_in s e.writes (node_part ws)
      → h ≡ hat_after e.writes (hat ws ℓ s)
      → set_hat ℓ s h (with_nodes ns ws) ≡ write_all ℓ s e.writes ws
  made-words is_lane room {ns} {h} fit q p =
      hat-laid ns ws room ℓ is_lane s h
      ∙ ap (λ (l : List ℕ). with_nodes l (set_hat ℓ s h ws)) q
      ∙ ap (λ (x : ℕ). with_nodes (writes_in s e.writes (node_part ws)) (set_hat ℓ s x ws)) p
      ∙ writes-stored ℓ is_lane s ws room e.writes fit
