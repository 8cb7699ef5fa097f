-- Start, begin, tick and dispatch: each keeps the agreement of table and row, and gives back what the row gives.
use mathlib.Core.Path.{◌≡◌, refl, sym, ap, ◌∙◌, subst, fun_ext}
use mathlib.Core.Bool.{Bool, true}
use mathlib.Core.List.{List}
use mathlib.Core.Option.{Option, some, none, bind}
use Prim.Native.Nat.{ℕ, ◌<◌}
use borrow.Author.Tests.{lt-ltb, le-leb}
use Rattle.machine.specs.Outcomes.Dispatch.{Idle, Answered}
use Rattle.machine.specs.Round.{next_after}
use Rattle.machine.specs.Values.{number}
use Rattle.machine.specs.declared.Stored.{Stored}
use Rattle.machine.specs.Choice.{◌≟◌}
use Rattle.machine.specs.Sides.{Side, left, right, side_of}
use Rattle.machine.specs.Operations.{Operation, idle, push, pop, add, remove, operation_of}
use Rattle.machine.specs.Tasks.{Task, fresh}
use Rattle.machine.specs.Table.{task_count, lane_count, dispatched, task, set_dispatched, set_task}
use Rattle.machine.specs.Shape.{lanes_ok, sizes_ok, WellFormed}
use Rattle.machine.specs.Answers.{refusal_of}
use Rattle.machine.specs.Calls.{
  is_idle,
  start_refusal,
  begin_refusal,
  tick_refusal,
  Changed,
  changed,
  start_words,
  start,
  begun_task,
  begin,
  Ticked,
  tick_on,
  tick,
  Dispatched,
  next_busy,
}
use Rattle.machine.specs.Row.{
  Note,
  Row,
  empty_row,
  new_note,
  noted,
  with_dispatched,
  next_noted,
  feed_dispatched,
  feed_idle,
  feed_dispatch,
}
use Rattle.machine.specs.Demand3.{
  start_call,
  begin_call,
  tick_call,
  dispatch_call,
  Call,
  given,
  after,
  feed_start,
  is_call,
  feed_begin,
  feed_tick,
  feed,
}
use Rattle.machine.proofs.Basics.Contradiction.{clash}
use Rattle.machine.proofs.Basics.Choices.{by-if}
use Rattle.machine.proofs.Basics.Tests.{test-passed, tests_left}
use Rattle.machine.proofs.Basics.Updates.{update, update_same, update_other}
use Rattle.machine.proofs.Words.ValueLaws.{never-has-word}
use Rattle.machine.proofs.Words.StartLaws.{viewed-start, task-start}
use Rattle.machine.proofs.Words.TableLaws.{columns-set_dispatched, columns-set_task}
use Rattle.machine.proofs.Words.EffectLaws.{
  viewed-set-dispatched,
  task-set-dispatched,
  viewed-set-task,
  task-set-task,
}
use Rattle.machine.proofs.Shape.ShapeLaws.{well_sized, well-shaped}
use Rattle.machine.proofs.Shape.DispatchCases.{by_dispatch}
use Rattle.machine.proofs.Shape.ShapeKept.{
  start-sized,
  start-accepted,
  CallFits,
  begin-allowed,
  begun_kept,
  kept-accepted,
  table-passes,
  dispatched-accepted,
}
use Rattle.machine.proofs.Linearizability.Calls.Start.{start_class, invariant-start}
use Rattle.machine.proofs.Linearizability.Calls.Begin.{class_then, invariant-begun}
use Rattle.machine.proofs.Linearizability.Calls.Agreement.{note_in, Agrees, begun-note, noted-if-busy}
use Rattle.machine.proofs.Linearizability.Calls.MadeTicks.{made-tick}

-- What a call comes to: the row afterwards, which the row's lines give, and the agreement of table and row again.
pub record Explains (ws : List ℕ) (ρ : Row) (c : Call) : Type 0 where
  pub row : Row
  pub given-by-row : feed ρ c (given c ws) ≡ some row
  pub agrees : Agrees (after c ws) row

explains :
    {ws : List ℕ} {ρ : Row} {c : Call}
    → (ρ' : Row) × (feed ρ c (given c ws) ≡ some ρ') × Agrees (after c ws) ρ'
    → Explains ws ρ c
explains x = record { row = x.0; given-by-row = x.1; agrees = x.2 }

-- ---- start.
pub start-agrees : (S T g L : ℕ) → lanes_ok L ≡ true → sizes_ok S T g L ≡ true
    → Agrees (start_words S T g L) (empty_row T L)
unfolding start_words
start-agrees S T g L lanes ok =
    let Z = start-sized S T g L lanes ok in
    record {
      accepted = start-accepted S T g L lanes ok;
      class = start_class L;
      invariant =
          rw (viewed-start S T g L Z.lanes_fit Z.most-lanes)
          (invariant-start Z.one_lane Z.most-lanes (task-start S T g L Z.lanes_fit Z.most-lanes));
      notes = λ k. ap note_in (sym (task-start S T g L Z.lanes_fit Z.most-lanes k));
      same-lanes = refl;
      same_count = refl;
      same_dispatched = refl;
    }

-- The same table and row with another task last dispatched.
dispatched-agrees : {ws : List ℕ} {ρ : Row} → Agrees ws ρ → (k : ℕ) → WellFormed (set_dispatched k ws)
    → Agrees (set_dispatched k ws) (with_dispatched k ρ)
dispatched-agrees {ws} {ρ} A k accepted =
    let sized = (well_sized ws A.accepted.length_passes).sized in
    let same = columns-set_dispatched ws sized k in
    let lanes-after : lane_count (set_dispatched k ws) ≡ lane_count ws = ap (λ c. c.sizes.lane_count) same in
    record {
      accepted = accepted;
      class = A.class;
      invariant =
          rw (lanes-after, viewed-set-dispatched ws sized k right, task-set-dispatched ws sized k) A.invariant;
      notes = λ j. rw (task-set-dispatched ws sized k) (A.notes j);
      same-lanes = A.same-lanes ∙ sym lanes-after;
      same_count = A.same_count ∙ sym (ap (λ c. c.sizes.task_count) same);
      same_dispatched = sym (ap (λ c. c.counts.dispatched) same);
    }

-- An operation that tests as idle is idle.
pub idle-operation : (op : Operation) → is_idle op ≡ true → op ≡ idle
idle-operation idle h = refl
idle-operation push h = clash (cc)
idle-operation pop h = clash (cc)
idle-operation add h = clash (cc)
idle-operation remove h = clash (cc)

module _ {ws : List ℕ} {ρ : Row} (A : Agrees ws ρ) where
  pub start-explained : (S T g L : ℕ) → Explains ws ρ (start_call S T g L)
  unfolding start
  start-explained S T g L = explains (go (start_refusal ws S T g L) refl)
    where
      Result : Changed → Type 0
      Result c = (ρ' : Row) × (feed_start ρ T L c.reply ≡ some ρ') × Agrees c.words ρ'

      go : (r : Option ℕ) → start_refusal ws S T g L ≡ r → Result (changed r ws (start_words S T g L))
      go (some n) e = (ρ, refl, A)
      go none e =
          (empty_row T L, refl, start-agrees S T g L (search test-passed) (search (test-passed, tests_left)))

  -- ---- begin.
  -- A record as begin writes it in a task's place, whatever record stood there: the task has the note of that call.
  module _
      (k : ℕ)
      (is_task : k < task_count ws)
      (l : ℕ)
      (is_lane : l < lane_count ws)
      (op : Operation)
      (s : Side)
      (v : ℕ) where
    abbrev t : Task
    t = begun_task l op s v

    notes-after : (j : ℕ) → (noted ρ k (note_in t)).notes j ≡ note_in (update (task ws) k t j)
    notes-after j =
        by-if (λ (m : Option Note). m ≡ note_in (update (task ws) k t j)) (j ≟ k)
        (λ e. sym (ap note_in (ap (update (task ws) k t) e ∙ update_same (task ws) k t)))
        (λ m. A.notes j ∙ sym (ap note_in (update_other (task ws) k t j m)))

    record-agrees : WellFormed (set_task k t ws) → Agrees (set_task k t ws) (noted ρ k (note_in t))
    record-agrees passes =
        let Z = well_sized ws A.accepted.length_passes in
        let viewed-after = viewed-set-task ws Z.sized k is_task t right in
        let task-after = task-set-task ws Z.sized k is_task t never-has-word in
        let columns-after = columns-set_task ws Z.sized k t is_task in
        let lanes-after : lane_count (set_task k t ws) ≡ lane_count ws = ap (λ c. c.sizes.lane_count) columns-after in
        record {
          accepted = passes;
          class = class_then A.invariant k l is_lane op s v;
          invariant =
              rw (lanes-after, viewed-after, task-after) (invariant-begun A.invariant k l is_lane op s v);
          notes = λ j. rw task-after (notes-after j);
          same-lanes = A.same-lanes ∙ sym lanes-after;
          same_count = A.same_count ∙ sym (ap (λ c. c.sizes.task_count) columns-after);
          same_dispatched = A.same_dispatched ∙ sym (ap (λ c. c.counts.dispatched) columns-after);
        }

  -- A call left off: the task's record is fresh, and it has no note.
  pub left-off-agrees : (k : ℕ) → k < task_count ws → WellFormed (set_task k fresh ws)
      → Agrees (set_task k fresh ws) (noted ρ k none)
  left-off-agrees k is_task passes =
      record-agrees k is_task 0 (well_sized ws A.accepted.length_passes).one_lane idle left 0 passes

  module _ (k l op side : ℕ) (argument : Stored) (F : CallFits ws k l op side argument) where
    pub begun-agrees :
        Agrees (set_task k (begun_task l (operation_of op) (side_of side) (number argument)) ws)
        (noted ρ k (some (new_note l op side argument)))
    begun-agrees =
        let Z = well_sized ws A.accepted.length_passes in
        let W = well-shaped ws A.accepted.length_passes A.accepted.shape_passes in
        let then = set_task k (begun_task l (operation_of op) (side_of side) (number argument)) ws in
        subst (λ (m : Option Note). Agrees then (noted ρ k m))
        (begun-note op F.some-operation (new_note l op side argument))
        (record-agrees k F.is_task l F.is_lane (operation_of op) (side_of side) (number argument)
        (kept-accepted (begun_kept ws k l op side argument Z W F)))

    -- The row takes such numbers for a call.
    pub call_fits : is_call ρ k l op side argument ≡ true
    call_fits =
        let is_lane : l < ρ.lanes = subst (λ (m : ℕ). l < m) (sym A.same-lanes) F.is_lane in
        let is_task : k < ρ.tasks = subst (λ (m : ℕ). k < m) (sym A.same_count) F.is_task in
        rw (
          lt-ltb k ρ.tasks is_task,
          lt-ltb l ρ.lanes is_lane,
          le-leb 1 op F.some-operation,
          le-leb op 4 F.last-operation,
          le-leb side 1 F.last-side,
          F.argument-fits,
        )

  pub begin-explained : (k l op side : ℕ) (argument : Stored) → Explains ws ρ (begin_call k l op side argument)
  unfolding begin
  begin-explained k l op side argument = explains (go (begin_refusal ws k l op side argument) refl)
    where
      Result : Changed → Type 0
      Result c = (ρ' : Row) × (feed_begin ρ k l op side argument c.reply ≡ some ρ') × Agrees c.words ρ'

      go :
          (r : Option ℕ)
          → begin_refusal ws k l op side argument ≡ r
          → Result (changed r ws (set_task k (begun_task l (operation_of op) (side_of side) (number argument)) ws))
      go (some m) e = (ρ, refl, A)
      go none e =
          let F = (begin-allowed ws k l op side argument e).fits in
          let n = new_note l op side argument in
          (noted ρ k (some n), rw (call_fits k l op side argument F), begun-agrees k l op side argument F)

  -- ---- tick.
  pub tick-explained : (k h : ℕ) → Explains ws ρ (tick_call k h)
  unfolding tick tick_on feed_tick
  tick-explained k h = explains (passed (tick_refusal ws k h) refl)
    where
      Result : Ticked → Type 0
      Result r = (ρ' : Row) × (feed_tick ρ k r.answer ≡ some ρ') × Agrees r.words ρ'

      go : (r : Option ℕ) → tick_refusal ws k h ≡ r → Result (tick_on ws k h)
      go (some n) e = rw (e, tick_on) (ρ, refl, A)
      go none e =
          let m = made-tick A k h e in
          (m.row, rw (m.no_number, feed_tick) m.given, m.agrees)

      passed : (r : Option ℕ) → tick_refusal ws k h ≡ r → Result (tick ws k h)
      passed r e = rw (table-passes ws A.accepted none, tick) (go r e)

  -- ---- dispatch.

  -- The tasks with a note are the busy ones, so the row's next one is the table's.
  next-same : next_noted ρ.notes ρ.tasks ρ.dispatched ≡ next_busy ws
  next-same =
      ap (λ (n : ℕ). next_noted ρ.notes n ρ.dispatched) A.same_count
      ∙ ap (λ (d : ℕ). next_noted ρ.notes (task_count ws) d) A.same_dispatched
      ∙ ap (λ (test : ℕ → Bool). next_after (task_count ws) test (dispatched ws)) (fun_ext (noted-if-busy A))

  pub dispatch-explained : (h : ℕ) → Explains ws ρ (dispatch_call h)
  unfolding feed_dispatch feed_idle feed_dispatched bind
  dispatch-explained h = explains (by_dispatch ws A.accepted h Result (ρ, refl, A) idle_now line_refused made)
    where
      Result : Dispatched → Type 0
      Result r = (ρ' : Row) × (feed_dispatch ρ r.answer ≡ some ρ') × Agrees r.words ρ'

      line_refused : (k n : ℕ) → next_busy ws ≡ some k → refusal_of (tick_on ws k h).answer ≡ some n
          → Result (record { answer = Answered (tick_on ws k h).answer; words = ws })
      line_refused k n chosen q = (ρ, rw (q, feed_dispatch), A)

      idle_now : next_busy ws ≡ none → Result (record { answer = Idle; words = ws })
      idle_now e = (ρ, rw (next-same ∙ e, feed_idle), A)

      made : (k : ℕ) → next_busy ws ≡ some k → tick_refusal ws k h ≡ none
          → refusal_of (tick_on ws k h).answer ≡ none
          → Result
          (record { answer = Answered (tick_on ws k h).answer; words = set_dispatched k (tick_on ws k h).words })
      made k chosen passes q =
          let M = made-tick A k h passes in (
            with_dispatched k M.row,
            rw (q, feed_dispatch, next-same ∙ chosen, M.given),
            dispatched-agrees M.agrees k (dispatched-accepted ws A.accepted k h passes),
          )
