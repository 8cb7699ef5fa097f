-- The same of a tick on a table, by the words of its record: of a tick, of a dispatch, and inside a list.
use mathlib.Core.Path.{◌≡◌, refl, sym, ap, ◌∙◌, subst}
use mathlib.Core.Bool.{true}
use mathlib.Core.List.{List, [], ◌∷◌}
use mathlib.Core.Option.{Option, some, none}
use Prim.Native.Nat.{ℕ, zero, suc, ◌*◌, ◌<◌}
use lib.ListN.{drop}
use lib.Dec.{ltb}
use native.Mathlib.Omega.{arith}
use Rattle.machine.specs.Outcomes.Answer.{Answer, Refused}
use Rattle.machine.specs.Outcomes.Dispatch.{Answered}
use Rattle.machine.specs.Choice.{◌<?◌}
use Rattle.machine.specs.Sides.{opposite}
use Rattle.machine.specs.Steps.{step_number}
use Rattle.machine.specs.Tasks.{Task, fresh, goal, words_of, step_word, task_of}
use Rattle.machine.specs.Table.{node_count, task_count, growth, lane_count, dispatched, record_words, task, set_dispatched}
use Rattle.machine.specs.Shape.{length_ok, shape_ok, WellFormed, record_ok, Sizes, sizes_of, WellSized}
use Rattle.machine.specs.Allocate.{allocate}
use Rattle.machine.specs.Lines.{seen}
use Rattle.machine.specs.Answers.{answer_length, refusal_of}
use Rattle.machine.specs.Calls.{
  unless,
  table_refusal,
  tick_refusal,
  run_refusal,
  panel_refusal,
  effect_of,
  Ticked,
  tick_on,
  tick,
  dispatch_refusal,
  Dispatched,
  dispatch,
  RunDone,
  stopped,
  after_tick,
  run_on,
  tested,
  run,
  panel,
}
use Rattle.machine.specs.Demand3.{tick_call, after_ticks}
use Rattle.machine.proofs.Basics.Contradiction.{clash}
use Rattle.machine.proofs.Basics.Choices.{if_yes}
use Rattle.machine.proofs.Basics.Tests.{test-passed, tests_left}
use Rattle.machine.proofs.Basics.Updates.{update_same}
use Rattle.machine.proofs.Words.Columns.{Columns, columns, put_dispatched}
use Rattle.machine.proofs.Words.TableLaws.{columns-set_dispatched}
use Rattle.machine.proofs.Words.RecordLaws.{words-of-task}
use Rattle.machine.proofs.Words.TickLaws.{tick-stopped, tick-answer, tick-columns, tick-task}
use Rattle.machine.proofs.Shape.ShapeLaws.{WellShaped, well_sized, well-shaped}
use Rattle.machine.proofs.Shape.TickKeeps.{tick-allowed, tick-kept}
use Rattle.machine.proofs.Shape.DispatchCases.{by_dispatch}
use Rattle.machine.proofs.Shape.ShapeKept.{tick-passes, call-accepted}
use Rattle.window_contention.specs.LostSwaps.{
  step_at,
  Told,
  ToldInside,
  LostByTick,
  LostByDispatch,
  LostInRun,
  LostInPanel,
}
use Rattle.window_contention.proofs.Lines.{lost-by-line}

-- ---- A tick on a table that has passed 3 and 4.

-- There the word of a task's step is its step's number.
step-word : (ws : List ℕ) (k : ℕ) → WellShaped (columns ws) → k < task_count ws
    → step_at ws k ≡ step_number (task ws k).step
unfolding task
step-word ws k W l =
    let r = record_words ws k in
    let same = if_yes (k <? task_count ws) r (words_of fresh) l in
    let passes : record_ok (node_count ws) (growth ws) (lane_count ws) r ≡ true
    = subst (λ (x : List ℕ). record_ok (node_count ws) (growth ws) (lane_count ws) x ≡ true) same (W.records-ok k) in
    sym (ap step_word (words-of-task (node_count ws) (growth ws) (lane_count ws) r passes))
    ∙ ap (λ (t : Task). step_number t.step) (sym (if_yes (k <? task_count ws) (task_of r) fresh l))

-- A tick that is made has passed its tests.
allowed : (ws : List ℕ) (k h : ℕ) → refusal_of (tick_on ws k h).answer ≡ none → tick_refusal ws k h ≡ none
allowed ws k h made = go (tick_refusal ws k h) refl
  where
    go : (r : Option ℕ) → tick_refusal ws k h ≡ r → tick_refusal ws k h ≡ none
    go none e = e
    go (some n) e =
        let stopped = ap (λ (t : Ticked). refusal_of t.answer) (tick-stopped ws k h e) in
        clash (cc)

module _ (ws : List ℕ) (A : WellFormed ws) (k h : ℕ) (made : refusal_of (tick_on ws k h).answer ≡ none) where
  abbrev vs : List ℕ
  vs = (tick_on ws k h).words

  Z : WellSized (sizes_of ws)
  Z = well_sized ws A.length_passes

  W : WellShaped (columns ws)
  W = well-shaped ws A.length_passes A.shape_passes

  passes : tick_refusal ws k h ≡ none
  passes = allowed ws k h made

  line_made : refusal_of (effect_of ws k h).answer ≡ none
  line_made = ap refusal_of (sym (tick-answer ws k h passes)) ∙ made

  is_task : k < task_count ws
  is_task = (tick-allowed ws k h passes).0

  is-task-after : k < task_count vs
  is-task-after =
      subst (λ (n : ℕ). k < n) (sym (ap (λ (z : Sizes). z.task_count) (tick-kept ws Z W k h).same-sizes)) is_task

  step_after : step_at vs k ≡ step_number (effect_of ws k h).task.step
  step_after =
      let own : task vs k ≡ (effect_of ws k h).task
      = ap (λ (f : ℕ → Task). f k) (tick-task ws k h passes Z W line_made)
      ∙ update_same (task ws) k (effect_of ws k h).task in
      step-word vs k (tick-kept ws Z W k h).well-shaped is-task-after ∙ ap (λ (u : Task). step_number u.step) own

  told-on : Told ws vs k
  unfolding effect_of
  told-on =
      let t = task ws k in
      record {
        lost_told =
            rw (step-word ws k W is_task, step_after)
            (lost-by-line t.step t.side (opposite t.side) (seen t.lane t.side ws) t (goal (growth ws) t)
            (allocate ws h) line_made);
        count_next = ap (λ (c : Columns). c.counts.tick_count) (tick-columns ws k h passes Z W line_made);
      }

  -- The same with the task as the one last dispatched, which the header then names.
  abbrev us : List ℕ
  us = set_dispatched k vs

  same-columns : columns us ≡ put_dispatched k (columns vs)
  same-columns = columns-set_dispatched vs (tick-kept ws Z W k h).well_sized.sized k

  same_step : step_at us k ≡ step_at vs k
  same_step =
      let still = is-task-after in
      let still-there : k < task_count us = subst (λ (c : Columns). k < c.sizes.task_count) (sym same-columns) still in
      ap step_word
      (sym (if_yes (k <? task_count us) (record_words us k) (words_of fresh) still-there)
      ∙ ap (λ (c : Columns). c.records k) same-columns
      ∙ if_yes (k <? task_count vs) (record_words vs k) (words_of fresh) still)

  told-dispatched : Told ws us (dispatched us)
  told-dispatched =
      let own : dispatched us ≡ k = ap (λ (c : Columns). c.counts.dispatched) same-columns in
      record {
        lost_told = rw (own, same_step) told-on.lost_told;
        count_next = ap (λ (c : Columns). c.counts.tick_count) same-columns ∙ told-on.count_next;
      }

-- ---- A tick on any table.
passed-tests : (ws : List ℕ) (others : Option ℕ) → table_refusal ws others ≡ none → WellFormed ws
passed-tests ws others e =
    record {
      length_passes = test-passed (length_ok ws) 3 (unless (shape_ok ws) 4 others) e;
      shape_passes = test-passed (shape_ok ws) 4 others (tests_left (length_ok ws) 3 (unless (shape_ok ws) 4 others) e);
    }

pub lost-by-tick : LostByTick
unfolding tick
lost-by-tick ws k h made = go (table_refusal ws none) refl
  where
    go : (r : Option ℕ) → table_refusal ws none ≡ r → Told ws (tick ws k h).words k
    go (some n) e =
        let refused : tick ws k h ≡ record { answer = Refused n; words = ws } = rw (e, tick) in
        clash (cc (ap (λ (t : Ticked). refusal_of t.answer) refused, made))
    go none e =
        let A = passed-tests ws none e in
        let on = tick-passes ws A k h in
        subst (λ (t : Ticked). Told ws t.words k) (sym on)
        (told-on ws A k h (ap (λ (t : Ticked). refusal_of t.answer) (sym on) ∙ made))

-- ---- A dispatch.
pub lost-by-dispatch : LostByDispatch
unfolding dispatch
lost-by-dispatch ws h = go (dispatch_refusal ws h) refl
  where
    Claim : Dispatched → Type 0
    Claim d = (a : Answer) → d.answer ≡ Answered a → refusal_of a ≡ none → Told ws d.words (dispatched d.words)

    go : (r : Option ℕ) → dispatch_refusal ws h ≡ r → Claim (dispatch ws h)
    go (some n) e = rw (e, dispatch) (λ a is-a made. clash (cc))
    go none e =
        let A = passed-tests ws (unless (ltb h (node_count ws)) 9 none) e in
        by_dispatch ws A h Claim (λ a is-a made. clash (cc)) (λ all-idle a is-a made. clash (cc))
        (λ k n e stopped a is-a made. clash (cc))
        (λ k e passes made a is-a made-a. told-dispatched ws A k h made)

-- ---- Ticks inside a list.
ticked-accepted : (ws : List ℕ) → WellFormed ws → (k h : ℕ) → WellFormed (tick_on ws k h).words
ticked-accepted ws A k h =
    subst (λ (t : Ticked). WellFormed t.words) (tick-passes ws A k h) (call-accepted ws A (tick_call k h))

told-inside : (list ws answers : List ℕ) → WellFormed ws → (i : ℕ) → i < (run_on list ws answers).ran.made
    → ToldInside list ws i
unfolding run_on after_ticks
told-inside [] ws answers A i l = clash (omega arith)
told-inside (k ∷ []) ws answers A i l = clash (omega arith)
told-inside (k ∷ h ∷ list) ws answers A i l =
    go (refusal_of (tick_on ws k h).answer) refl
    (told-inside list (tick_on ws k h).words (drop answer_length answers) (ticked-accepted ws A k h)) i l
  where
    others : RunDone
    others = run_on list (tick_on ws k h).words (drop answer_length answers)

    go : (r : Option ℕ) → refusal_of (tick_on ws k h).answer ≡ r
        → ((i : ℕ) → i < others.ran.made → ToldInside list (tick_on ws k h).words i)
        → (i : ℕ)
        → i < (elim r as (λ _. RunDone) [
          | some n ↦ stopped n ws answers
          | none ↦ after_tick (tick_on ws k h).answer others
        ]).ran.made
        → ToldInside (k ∷ h ∷ list) ws i
    go (some n) e later i l = clash (omega arith)
    go none made later zero l = told-on ws A k h made
    go none made later (suc i) l =
        let place : 2 * suc i ≡ suc (suc (2 * i)) = omega arith in
        rw place (later i (omega arith))

told-tested : (ws list answers : List ℕ) (others r : Option ℕ)
    → (r ≡ none → table_refusal ws others ≡ none)
    → (i : ℕ)
    → i < (tested r ws list answers).ran.made
    → ToldInside list ws i
told-tested ws list answers others (some n) passes i l = clash (omega arith)
told-tested ws list answers others none passes i l =
    told-inside list ws answers (passed-tests ws others (passes refl)) i l

pub lost-in-run : LostInRun
unfolding run
lost-in-run ws list answers = told-tested ws list answers _ (run_refusal ws list answers) (λ e. e)

pub lost-in-panel : LostInPanel
unfolding panel
lost-in-panel ws list answers = told-tested ws list answers _ (panel_refusal ws list answers) (λ e. e)
