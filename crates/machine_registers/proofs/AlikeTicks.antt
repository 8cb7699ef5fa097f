-- Two tables that differ only in registers that do not hold give the same answers to any schedule of ticks, and differ
-- only there afterwards.
use mathlib.Core.Path.{◌≡◌, refl, sym, ap, ◌∙◌, subst}
use mathlib.Core.List.{List, [], ◌∷◌, ◌++◌}
use mathlib.Core.Option.{Option, some, none}
use Prim.Native.Nat.{ℕ, suc, ◌+◌, ◌%◌, ◌^◌}
use lib.ListN.{drop}
use Rattle.machine.specs.Shape.{WellFormed, sizes_of, WellSized}
use Rattle.machine.specs.Outcomes.Answer.{Answer}
use Rattle.machine.specs.Outcomes.Ran.{Ran}
use Rattle.machine.specs.Choice.{◌≟◌, if?◌then◌else◌}
use Rattle.machine.specs.Sides.{Side, opposite}
use Rattle.machine.specs.Tasks.{Task, goal}
use Rattle.machine.specs.Registers.{holds}
use Rattle.machine.specs.Table.{growth, tick_count, task}
use Rattle.machine.specs.Allocate.{allocate}
use Rattle.machine.specs.Lines.{Memory, Write, seen, Effect, act}
use Rattle.machine.specs.Answers.{answer_length, answer_words, refusal_of}
use Rattle.machine.specs.Calls.{
  tick_refusal,
  effect_of,
  tick_on,
  RunDone,
  stopped,
  after_tick,
  run_on,
}
use Rattle.machine_registers.specs.LinesUse.{AgreeOn, SameEffect}
use Rattle.machine_registers.proofs.LinesUse.{uses-enough}
use Rattle.machine.proofs.Basics.Updates.{update}
use Rattle.machine.proofs.Words.Columns.{Columns, columns, put_tick_count, put_all}
use Rattle.machine.proofs.Shape.ShapeLaws.{WellShaped, well_sized, well-shaped, length-ok, shape-ok}
use Rattle.machine.proofs.Shape.TickKeeps.{tick-kept}
use Rattle.machine.proofs.Words.TickLaws.{tick-stopped, tick-answer, tick-refused, tick-columns, tick-task}
use Rattle.machine_registers.proofs.Agreeing.{plain, agree-plain, agree-uses, agree_after}
use Rattle.machine_registers.proofs.AlikeTables.{
  unrecorded,
  AlikeColumns,
  unrecorded-put-all,
  same_nodes,
  same_count,
  same_growth,
  same_ticks,
  same_seen,
  same_operation,
  allocate-same,
}

module _ {ws vs : List ℕ} (A : AlikeColumns ws vs) (k h : ℕ) where
  abbrev t : Task
  t = task ws k

  abbrev u : Task
  u = task vs k

  same-plain : plain u ≡ plain t
  same-plain = agree-plain (holds t.step) t u u (A.same_tasks k)

  pub refusal-same : tick_refusal vs k h ≡ tick_refusal ws k h
  refusal-same =
      rw (same_count A, same_nodes A, same_operation A k)

  -- The same line acts on both records, with the same side, memory, goal and free node.
  line-of-both : effect_of vs k h
      ≡ act t.step t.side (opposite t.side) (seen t.lane t.side ws)
      u (goal (growth ws) t) (allocate ws h)
  unfolding effect_of
  line-of-both =
      let o = opposite t.side in
      ap
      (λ (y : Task).
      act y.step y.side (opposite y.side) (seen y.lane y.side vs) u (goal (growth vs) y) (allocate vs h))
      same-plain
      ∙ ap (λ (m : Memory). act t.step t.side o m u (goal (growth vs) t) (allocate vs h))
      (same_seen A t.lane t.side)
      ∙ ap (λ (n : ℕ). act t.step t.side o (seen t.lane t.side ws) u (goal n t) (allocate vs h))
      (same_growth A)
      ∙ ap (act t.step t.side o (seen t.lane t.side ws) u (goal (growth ws) t)) (allocate-same A h)

  effects-same : SameEffect t.step t u (effect_of ws k h) (effect_of vs k h)
  unfolding effect_of
  effects-same =
      subst (λ (f : Effect). SameEffect t.step t u (effect_of ws k h) f) (sym line-of-both)
      (uses-enough t.step t.side (opposite t.side) (seen t.lane t.side ws)
      t u (goal (growth ws) t) (allocate ws h) (agree-uses t u (A.same_tasks k)))

  answers-same : (effect_of vs k h).answer ≡ (effect_of ws k h).answer
  answers-same = effects-same.same_answer

  -- The tick is made on both tables, or its line refuses it on both.
  module _ (allowed : tick_refusal ws k h ≡ none) where
    allowed' : tick_refusal vs k h ≡ none
    allowed' = refusal-same ∙ allowed

    sizes : (xs : List ℕ) → WellFormed xs → WellSized (sizes_of xs)
    sizes xs a = well_sized xs a.length_passes

    shape : (xs : List ℕ) → WellFormed xs → WellShaped (columns xs)
    shape xs a = well-shaped xs a.length_passes a.shape_passes

    still-accepted : (xs : List ℕ) → WellFormed xs → WellFormed (tick_on xs k h).words
    still-accepted xs a =
        let K = tick-kept xs (sizes xs a) (shape xs a) k h in
        record {
          length_passes = length-ok (tick_on xs k h).words K.well_sized;
          shape_passes = shape-ok (tick_on xs k h).words K.well-shaped;
        }

    -- All words but the task records, after writes and a record.
    abbrev leaves : (ticks lane : ℕ) → Side → List Write → Columns → Columns
    leaves n j s l c = put_tick_count ((n + 1) % 2 ^ 32) (put_all j s l c)

    module _ (made : refusal_of (effect_of ws k h).answer ≡ none) where
      made' : refusal_of (effect_of vs k h).answer ≡ none
      made' = ap refusal_of answers-same ∙ made

      words-after : (xs : List ℕ) (a : WellFormed xs) (p : tick_refusal xs k h ≡ none)
          → refusal_of (effect_of xs k h).answer ≡ none
          → unrecorded (columns (tick_on xs k h).words)
          ≡ leaves (tick_count xs) (task xs k).lane (task xs k).side (effect_of xs k h).writes
          (unrecorded (columns xs))
      words-after xs a p q =
          ap unrecorded (tick-columns xs k h p (sizes xs a) (shape xs a) q)
          ∙ ap (put_tick_count ((tick_count xs + 1) % 2 ^ 32))
          (unrecorded-put-all (task xs k).lane (task xs k).side (effect_of xs k h).writes (columns xs))

      words_same : unrecorded (columns (tick_on vs k h).words) ≡ unrecorded (columns (tick_on ws k h).words)
      words_same =
          words-after vs A.accepted' allowed' made'
          ∙ ap (leaves (tick_count vs) u.lane u.side (effect_of vs k h).writes) A.same-words
          ∙ ap (λ (l : List Write). leaves (tick_count vs) u.lane u.side l (unrecorded (columns ws)))
          effects-same.same_writes
          ∙ ap (λ (y : Task).
          leaves (tick_count vs) y.lane y.side (effect_of ws k h).writes (unrecorded (columns ws))) same-plain
          ∙ ap (λ (n : ℕ). leaves n t.lane t.side (effect_of ws k h).writes (unrecorded (columns ws)))
          (same_ticks A)
          ∙ sym (words-after ws A.accepted allowed made)

      tasks-same : (j : ℕ) → AgreeOn (holds (task (tick_on ws k h).words j).step) (task (tick_on ws k h).words j)
          (task (tick_on vs k h).words j)
      unfolding update
      tasks-same j =
          rw (
            tick-task ws k h allowed (sizes ws A.accepted) (shape ws A.accepted) made,
            tick-task vs k h allowed' (sizes vs A.accepted') (shape vs A.accepted') made',
          )
          (go (j ≟ k))
        where
          go : (d : Dec (j ≡ k))
              → AgreeOn (holds (if? d then (effect_of ws k h).task else task ws j).step)
              (if? d then (effect_of ws k h).task else task ws j) (if? d then (effect_of vs k h).task else task vs j)
          go (yes e) = agree_after t u (A.same_tasks k) (effect_of ws k h) (effect_of vs k h) effects-same.after
          go (no n) = A.same_tasks j

      made_alike : AlikeColumns (tick_on ws k h).words (tick_on vs k h).words
      made_alike =
          record {
            accepted = still-accepted ws A.accepted;
            accepted' = still-accepted vs A.accepted';
            same-words = words_same;
            same_tasks = tasks-same;
          }

    passed-alike : (r : Option ℕ) → refusal_of (effect_of ws k h).answer ≡ r
        → AlikeColumns (tick_on ws k h).words (tick_on vs k h).words
    passed-alike (some n) e =
        rw (tick-refused ws k h allowed e, tick-refused vs k h allowed' (ap refusal_of answers-same ∙ e)) A
    passed-alike none e = made_alike e

  -- On both tables a tick has the same answer, and they differ only in registers that do not hold afterwards.
  pub tick-alike :
      ((tick_on vs k h).answer ≡ (tick_on ws k h).answer) × AlikeColumns (tick_on ws k h).words (tick_on vs k h).words
  tick-alike = go (tick_refusal ws k h) refl
    where
      go : (r : Option ℕ) → tick_refusal ws k h ≡ r
          → ((tick_on vs k h).answer ≡ (tick_on ws k h).answer) × AlikeColumns (tick_on ws k h).words (tick_on vs k h).words
      go (some n) e = rw (tick-stopped ws k h e, tick-stopped vs k h (refusal-same ∙ e)) (refl, A)
      go none e = (
        tick-answer vs k h (refusal-same ∙ e) ∙ answers-same ∙ sym (tick-answer ws k h e),
        passed-alike e (refusal_of (effect_of ws k h).answer) refl,
      )

-- ---- Any schedule: the (task, hint) pairs of a run.
pub record RunsAlike (r q : RunDone) : Type 0 where
  pub same-ran : q.ran ≡ r.ran
  pub same-answers : q.answers ≡ r.answers
  pub words-alike : AlikeColumns r.words q.words

pub schedule-alike : (list : List ℕ) {ws vs : List ℕ} → AlikeColumns ws vs → (answers : List ℕ)
    → RunsAlike (run_on list ws answers) (run_on list vs answers)
unfolding run_on
schedule-alike [] A answers = record { same-ran = refl; same-answers = refl; words-alike = A }
schedule-alike (k ∷ []) A answers = record { same-ran = refl; same-answers = refl; words-alike = A }
schedule-alike (k ∷ h ∷ list) {ws} {vs} A answers =
    let one = tick-alike A k h in
    subst (λ (a : Answer). RunsAlike (turn ws (tick_on ws k h).answer) (turn vs a)) (sym one.0)
    (go (refusal_of (tick_on ws k h).answer) (schedule-alike list one.1 (drop answer_length answers)))
  where
    others : List ℕ → RunDone
    others xs = run_on list (tick_on xs k h).words (drop answer_length answers)

    turn : List ℕ → Answer → RunDone
    turn xs a =
        elim (refusal_of a) as (λ _. RunDone) [
          | some n ↦ stopped n xs answers
          | none ↦ after_tick a (others xs)
        ]

    first : List ℕ → Option ℕ → RunDone
    first xs r =
        elim r as (λ _. RunDone) [
          | some n ↦ stopped n xs answers
          | none ↦ after_tick (tick_on ws k h).answer (others xs)
        ]

    go : (r : Option ℕ) → RunsAlike (others ws) (others vs) → RunsAlike (first ws r) (first vs r)
    go (some n) R = record { same-ran = refl; same-answers = refl; words-alike = A }
    go none R =
        record {
          same-ran = ap (λ (x : Ran). record { made = suc x.made; refusal = x.refusal }) R.same-ran;
          same-answers =
              ap (λ (l : List ℕ). answer_words (tick_on ws k h).answer ++ l)
              R.same-answers;
          words-alike = R.words-alike;
        }
