-- A call alone does the same on two tables that differ only in registers that do not hold, and leaves two such tables.
use mathlib.Core.Path.{◌≡◌, refl, sym, ap, ◌∙◌, subst, fun_ext}
use mathlib.Core.Bool.{Bool, true, false}
use mathlib.Core.List.{List}
use mathlib.Core.Option.{Option, some, none}
use Prim.Native.Nat.{ℕ, ◌<◌}
use lib.Dec.{ltb}
use borrow.Author.Tests.{ltb-true}
use Rattle.machine.specs.Shape.{WellFormed, sizes_of, Sized, WellSized}
use Rattle.machine.specs.Round.{next_after}
use Rattle.machine.specs.Answers.{refusal_of}
use Rattle.machine.specs.Outcomes.Dispatch.{Answered}
use Rattle.machine.specs.declared.Stored.{Stored}
use Rattle.machine.specs.Choice.{◌≟◌, if?◌then◌else◌}
use Rattle.machine.specs.Sides.{right, left, side_of}
use Rattle.machine.specs.Values.{number}
use Rattle.machine.specs.Operations.{operation_of}
use Rattle.machine.specs.Tasks.{Task}
use Rattle.machine.specs.Registers.{holds}
use Rattle.machine.specs.Table.{node_count, task_count, dispatched, value, task, set_dispatched, set_task}
use Rattle.machine.specs.Calls.{
  start_refusal,
  table_refusal,
  begin_refusal,
  Changed,
  changed,
  start_words,
  start,
  begun_task,
  begin,
  is_busy,
  tick_refusal,
  Ticked,
  tick,
  tick_on,
  Dispatched,
  is_busy_task,
  next_busy,
  dispatch_to,
  dispatch_on,
  dispatch,
  tested,
  run,
  panel,
}
use Rattle.machine.specs.Lines.{Memory}
use Rattle.machine.specs.Demand3.{begin_call}
use Rattle.machine.proofs.Basics.Tests.{test-passed, tests_left}
use Rattle.machine.proofs.Words.ValueLaws.{HasWord, never-has-word}
use Rattle.machine.proofs.Basics.Updates.{update}
use Rattle.machine.proofs.Shape.Looks.{SameLooks, begin-same}
use Rattle.machine.proofs.Words.Columns.{Columns, put_dispatched}
use Rattle.machine.proofs.Words.TableLaws.{columns-set_dispatched, columns-set_task}
use Rattle.machine.proofs.Words.EffectLaws.{task-set-dispatched, task-set-task}
use Rattle.machine.proofs.Words.LaneLaws.{lane-same}
use Rattle.machine.proofs.Shape.ShapeLaws.{well_sized}
use Rattle.machine.proofs.Shape.TickKeeps.{busy-passes}
use Rattle.machine.proofs.Shape.DispatchCases.{chosen-busy}
use Rattle.machine.proofs.Shape.ShapeKept.{
  start-accepted,
  begin-allowed,
  table-passes,
  tick-passes,
  dispatched-accepted,
  call-accepted,
}
use Rattle.machine_registers.specs.LinesUse.{AgreeOn}
use Rattle.machine_registers.proofs.Agreeing.{agree-self}
use Rattle.machine_registers.proofs.AlikeTables.{
  unrecorded,
  AlikeColumns,
  alike_self,
  same_nodes,
  same_count,
  same_growth,
  same_dispatched,
  same-lanes,
  same-hat,
  same_links,
  same_seen,
  same_operation,
  same_argument,
}
use Rattle.machine_registers.proofs.AlikeTicks.{refusal-same, tick-alike, RunsAlike, schedule-alike}

abbrev pub TicksAlike : (r q : Ticked) → Type 0
TicksAlike r q = (q.answer ≡ r.answer) × AlikeColumns r.words q.words

module _ {ws vs : List ℕ} (A : AlikeColumns ws vs) where
  -- ---- start.
  abbrev ChangedAlike : (c d : Changed) → Type 0
  ChangedAlike c d = (d.reply ≡ c.reply) × AlikeColumns c.words d.words

  pub start-alike : (S T g L : ℕ) → ChangedAlike (start ws S T g L) (start vs S T g L)
  unfolding start
  start-alike S T g L =
      subst (λ (r : Option ℕ). ChangedAlike (start ws S T g L) (changed r vs (start_words S T g L))) (sym same)
      (go (start_refusal ws S T g L) refl)
    where
      same : start_refusal vs S T g L ≡ start_refusal ws S T g L
      same = rw (ap (λ (c : Columns). c.sizes.length) A.same-words)

      go : (r : Option ℕ) → start_refusal ws S T g L ≡ r
          → ChangedAlike (changed r ws (start_words S T g L)) (changed r vs (start_words S T g L))
      go (some n) e = (refl, A)
      go none e = (refl, alike_self (start-accepted S T g L (search test-passed) (search (test-passed, tests_left))))

  -- ---- begin.

  -- The same record written to both tables.
  begun-alike : (k : ℕ) (t : Task) → k < task_count ws → HasWord t.value → WellFormed (set_task k t ws)
      → WellFormed (set_task k t vs)
      → AlikeColumns (set_task k t ws) (set_task k t vs)
  unfolding update
  begun-alike k t is_task word a b =
      record {
        accepted = a;
        accepted' = b;
        same-words =
            ap unrecorded (columns-set_task vs sizes'.sized k t is-task')
            ∙ A.same-words
            ∙ sym (ap unrecorded (columns-set_task ws sizes.sized k t is_task));
        same_tasks = λ j.
            rw (
              task-set-task ws sizes.sized k is_task t word,
              task-set-task vs sizes'.sized k is-task' t word,
            )
            (go j (j ≟ k));
      }
    where
      sizes : WellSized (sizes_of ws)
      sizes = well_sized ws A.accepted.length_passes

      sizes' : WellSized (sizes_of vs)
      sizes' = well_sized vs A.accepted'.length_passes

      is-task' : k < task_count vs
      is-task' = rw (same_count A) is_task

      go : (j : ℕ) (d : Dec (j ≡ k))
          → AgreeOn (holds (if? d then t else task ws j).step) (if? d then t else task ws j)
          (if? d then t else task vs j)
      go j (yes e) = agree-self (holds t.step) t
      go j (no n) = A.same_tasks j

  -- ---- The lane, and begin.
  pub same_value : (x : ℕ) → value vs x ≡ value ws x
  same_value x = ap (λ (m : Memory). m.val x) (same_seen A 0 right)

  -- What begins and looks look at.
  pub looks : SameLooks ws vs
  looks =
      record {
        accepted = A.accepted;
        accepted' = A.accepted';
        same_nodes = same_nodes A;
        same_count = same_count A;
        same_growth = same_growth A;
        same-lanes = same-lanes A;
        same_lane = λ l. lane-same ws vs (same_nodes A) (same_links A) (fun_ext same_value) l (same-hat A l left);
        same_operation = same_operation A;
        same_argument = same_argument A;
      }

  pub begin-alike : (k l op side : ℕ) (argument : Stored)
      → ChangedAlike (begin ws k l op side argument) (begin vs k l op side argument)
  unfolding begin
  begin-alike k l op side argument =
      subst (λ (r : Option ℕ). ChangedAlike (begin ws k l op side argument) (changed r vs (set_task k t vs))) (sym same)
      (go (begin_refusal ws k l op side argument) refl
      (call-accepted ws A.accepted (begin_call k l op side argument))
      (subst (λ (r : Option ℕ). WellFormed (changed r vs (set_task k t vs)).words) same
      (call-accepted vs A.accepted' (begin_call k l op side argument))))
    where
      t : Task
      t = begun_task l (operation_of op) (side_of side) (number argument)

      same : begin_refusal vs k l op side argument ≡ begin_refusal ws k l op side argument
      same = begin-same looks k l op side argument

      go : (r : Option ℕ) → begin_refusal ws k l op side argument ≡ r
          → WellFormed (changed r ws (set_task k t ws)).words
          → WellFormed (changed r vs (set_task k t vs)).words
          → ChangedAlike (changed r ws (set_task k t ws)) (changed r vs (set_task k t vs))
      go (some n) e a b = (refl, A)
      go none e a b =
          (refl, begun-alike k t (begin-allowed ws k l op side argument e).fits.is_task never-has-word a b)

  -- ---- run and panel.

  -- Both test the table first, and what they test after it is the list and the answer slice alone.
  module _ (list answers : List ℕ) where
    tested-alike : (r : Option ℕ) → RunsAlike (tested r ws list answers) (tested r vs list answers)
    tested-alike (some n) = record { same-ran = refl; same-answers = refl; words-alike = A }
    tested-alike none = schedule-alike list A answers

    list-alike : (others : Option ℕ)
        → RunsAlike (tested (table_refusal ws others) ws list answers) (tested (table_refusal vs others) vs list answers)
    list-alike others =
        rw (table-passes ws A.accepted others, table-passes vs A.accepted' others) (tested-alike others)

    pub run-alike : RunsAlike (run ws list answers) (run vs list answers)
    unfolding run
    run-alike = list-alike _

    pub panel-alike : RunsAlike (panel ws list answers) (panel vs list answers)
    unfolding panel
    panel-alike = list-alike _

  -- ---- tick.
  pub tick-call-alike : (k h : ℕ) → TicksAlike (tick ws k h) (tick vs k h)
  tick-call-alike k h =
      rw (tick-passes vs A.accepted' k h, tick-passes ws A.accepted k h) (tick-alike A k h)

  -- ---- dispatch.
  next-same : next_busy vs ≡ next_busy ws
  next-same =
      ap (λ (test : ℕ → Bool). next_after (task_count vs) test (dispatched vs))
      (fun_ext (λ k. ap is_busy (same_operation A k)))
      ∙ ap (λ (n : ℕ). next_after n (is_busy_task ws) (dispatched vs)) (same_count A)
      ∙ ap (next_after (task_count ws) (is_busy_task ws)) (same_dispatched A)

  -- Both tables after a tick, with that task as the one last dispatched.
  dispatched-alike : (k h : ℕ) → tick_refusal ws k h ≡ none
      → AlikeColumns (set_dispatched k (tick_on ws k h).words) (set_dispatched k (tick_on vs k h).words)
  dispatched-alike k h passes =
      record {
        accepted = dispatched-accepted ws A.accepted k h passes;
        accepted' = dispatched-accepted vs A.accepted' k h (refusal-same A k h ∙ passes);
        same-words =
            ap unrecorded (columns-set_dispatched (tick_on vs k h).words sized' k)
            ∙ ap (put_dispatched k) after-tick.same-words
            ∙ sym (ap unrecorded (columns-set_dispatched (tick_on ws k h).words sized k));
        same_tasks = λ j.
            rw (
              task-set-dispatched (tick_on ws k h).words sized k,
              task-set-dispatched (tick_on vs k h).words sized' k,
            )
            (after-tick.same_tasks j);
      }
    where
      after-tick : AlikeColumns (tick_on ws k h).words (tick_on vs k h).words
      after-tick = (tick-alike A k h).1

      sized : Sized (sizes_of (tick_on ws k h).words)
      sized = (well_sized (tick_on ws k h).words after-tick.accepted.length_passes).sized

      sized' : Sized (sizes_of (tick_on vs k h).words)
      sized' = (well_sized (tick_on vs k h).words after-tick.accepted'.length_passes).sized

  module _ (h : ℕ) where
    abbrev DispatchAlike : (d e : Dispatched) → Type 0
    DispatchAlike d e = (e.answer ≡ d.answer) × AlikeColumns d.words e.words

    to-alike : (k : ℕ) → tick_refusal ws k h ≡ none → DispatchAlike (dispatch_to ws k h) (dispatch_to vs k h)
    unfolding dispatch_to
    to-alike k passes = go (refusal_of (tick_on ws k h).answer) refl
      where
        same : (tick_on vs k h).answer ≡ (tick_on ws k h).answer
        same = (tick-alike A k h).0

        go : (r : Option ℕ) → refusal_of (tick_on ws k h).answer ≡ r
            → DispatchAlike (dispatch_to ws k h) (dispatch_to vs k h)
        go (some n) q = rw (ap refusal_of same ∙ q, q, dispatch_to) (ap Answered same, A)
        go none q = rw (ap refusal_of same ∙ q, q, dispatch_to) (ap Answered same, dispatched-alike k h passes)

    pub dispatch-alike : DispatchAlike (dispatch ws h) (dispatch vs h)
    unfolding dispatch dispatch_on
    dispatch-alike = tested (ltb h (node_count ws)) refl
      where
        chosen : h < node_count ws → (o : Option ℕ) → next_busy ws ≡ o
            → DispatchAlike (dispatch_on ws h) (dispatch_on vs h)
        chosen low none e = rw (next-same, e, dispatch_on) (refl, A)
        chosen low (some k) e =
            rw (next-same, e, dispatch_on)
            (to-alike k (busy-passes ws k h (chosen-busy ws A.accepted h e) low))

        tested : (b : Bool) → ltb h (node_count ws) ≡ b → DispatchAlike (dispatch ws h) (dispatch vs h)
        tested true q =
            rw (table-passes ws A.accepted, table-passes vs A.accepted', same_nodes A, q, dispatch)
            (chosen (ltb-true h (node_count ws) q) (next_busy ws) refl)
        tested false q =
            rw (table-passes ws A.accepted, table-passes vs A.accepted', same_nodes A, q, dispatch) (refl, A)
