-- Every call on a table of the right shape leaves a table of the right shape.
use mathlib.Core.Path.{◌≡◌, refl, ap, sym, ◌∙◌, subst}
use mathlib.Core.Bool.{true, not, ◌&&◌, ◌||◌}
use mathlib.Core.List.{List}
use mathlib.Core.Option.{Option, some, none}
use Prim.Native.Nat.{ℕ, ◌*◌, ◌%◌, ◌≤◌, ◌<◌}
use lib.Dec.{leb, ltb}
use native.Mathlib.Omega.{arith}
use borrow.Author.Tests.{leb-true, le-leb, ltb-true}
use Rattle.machine.specs.declared.Stored.{Stored}
use Rattle.machine.specs.Choice.{◌≟◌, ◌<?◌}
use Rattle.machine.specs.Sides.{Side, left, right, side_of}
use Rattle.machine.specs.Values.{never, stored, number, encode, value_ok}
use Rattle.machine.specs.Operations.{Operation, idle, push, pop, add, remove, operation_of, argument_ok, goal_of}
use Rattle.machine.specs.Steps.{step_number, steps_of, is_step_in, first_step}
use Rattle.machine.specs.Tasks.{Task, words_of}
use Rattle.machine.specs.Table.{node_count, task_count, growth, lane_count, most_lanes, task, set_dispatched, set_task}
use Rattle.machine.specs.Shape.{lanes_ok, sizes_ok, value_read_ok, counted_ok, WellFormed, sizes_of, WellSized}
use Rattle.machine.specs.Calls.{
  is_idle,
  is_busy,
  start_refusal,
  table_refusal,
  is_among,
  is_begun,
  seen_refusal,
  twice_refusal,
  begin_refusal,
  tick_refusal,
  changed,
  start_hat,
  start_words,
  start,
  begun_task,
  begin,
  all_lanes,
  tick_on,
  tick,
  Dispatched,
  dispatch,
}
use Rattle.machine.specs.Demand3.{Call, after, after_ticks}
use Rattle.machine.proofs.Basics.Contradiction.{clash}
use Rattle.machine.proofs.Basics.Tests.{and_left, and_right, test-passed, tests_left}
use Rattle.machine.proofs.Words.ValueLaws.{argument-stored, never-has-word}
use Rattle.machine.proofs.Words.Columns.{columns}
use Rattle.machine.proofs.Words.TableLaws.{columns-set_dispatched, columns-set_task}
use Rattle.machine.proofs.Words.StartLaws.{start_link, start_value, start_columns, columns-start}
use Rattle.machine.proofs.Words.Kinds.{kept-in-list, kept-by-calls}
use Rattle.machine.proofs.Words.Stretches.{side-small}
use Rattle.machine.proofs.Shape.BusyLaws.{NodeOrNone, BusyFacts, record-of-fresh, record-of-busy}
use Rattle.machine.proofs.Shape.ShapeLaws.{
  well_sized,
  length-ok,
  HatFits,
  WellShaped,
  well-shaped,
  shape-ok,
  start-last-words,
}
use Rattle.machine.proofs.Shape.Fits.{none-fits}
use Rattle.machine.proofs.Shape.WritesKeep.{put-record-shaped, put-dispatched-shaped}
use Rattle.machine.proofs.Shape.DispatchCases.{by_dispatch}
use Rattle.machine.proofs.Shape.TickKeeps.{Kept, words-unchanged, tick-allowed, tick-kept}
use Rattle.machine.proofs.Basics.Choices.{by-if}

pub is-accepted : (ws : List ℕ) → table_refusal ws none ≡ none → WellFormed ws
is-accepted ws e =
    record {
      length_passes = search test-passed;
      shape_passes = search (test-passed, tests_left);
    }

-- ---- start.
start-value-ok : (L x : ℕ) → value_ok (encode (start_value L x)) ≡ true
start-value-ok L x =
    by-if (λ v. value_ok (encode v) ≡ true) (x <? 2 * L) (λ _.
    by-if (λ v. value_ok (encode v) ≡ true) (x % 2 ≟ 0) (λ _. refl) (λ _. refl)) (λ _. refl)

start-link-ok : (S L : ℕ) → 2 * L ≤ S → (s : Side) (x : ℕ) → NodeOrNone S (start_link L s x)
start-link-ok S L room left x =
    by-if (NodeOrNone S) (x <? 2 * L) (λ l.
    by-if (NodeOrNone S) (x % 2 ≟ 0) (λ _. none-fits) (λ _ _. omega arith)) (λ _. none-fits)
start-link-ok S L room right x =
    by-if (NodeOrNone S) (x <? 2 * L) (λ l.
    by-if (NodeOrNone S) (x % 2 ≟ 0) (λ even _. omega arith) (λ _. none-fits)) (λ _. none-fits)

start-hat-ok : (S L : ℕ) → 2 * L ≤ S → (l : ℕ) (s : Side) → HatFits S L l (start_hat L l s)
start-hat-ok S L room l s =
    by-if (HatFits S L l) (l <? L)
    (λ h. record { used = λ _. let b = side-small s in omega arith; unused = λ q. absurd (omega arith) })
    (λ h. record { used = λ q. absurd (h q); unused = λ _. refl })

module _ (S T g L : ℕ) (lanes : lanes_ok L ≡ true) (h : sizes_ok S T g L ≡ true) where
  pub start-sized : WellSized (start_columns S T g L).sizes
  start-sized =
      record {
        one_lane = leb-true 1 L (search (and_left, and_right));
        most-lanes = leb-true L most_lanes (search (and_left, and_right));
        lanes_fit = leb-true (2 * L) S (search (and_left, and_right));
        most_nodes = leb-true S 1024 (search (and_left, and_right));
        one_task = leb-true 1 T (search (and_left, and_right));
        most_tasks = leb-true T 16 (search (and_left, and_right));
        most_growth = leb-true g 64 (search (and_left, and_right));
        sized = refl;
      }

  start-shaped : WellShaped (start_columns S T g L)
  start-shaped =
      record {
        counts-ok = start-last-words T start-sized.one_task;
        hats-ok = start-hat-ok S L start-sized.lanes_fit;
        links-ok = start-link-ok S L start-sized.lanes_fit;
        values-ok = start-value-ok L;
        records-ok = λ k. record-of-fresh S g L;
      }

  pub start-accepted : WellFormed (start_words S T g L)
  start-accepted =
      let same = sym (columns-start S T g L start-sized.lanes_fit start-sized.most-lanes) in
      record {
        length_passes = length-ok (start_words S T g L) (subst WellSized (ap (λ c. c.sizes) same) start-sized);
        shape_passes = shape-ok (start_words S T g L) (subst WellShaped same start-shaped);
      }

-- ---- begin.
begun-busy : (n : ℕ) → 1 ≤ n → is_busy (operation_of n) ≡ true
begun-busy n h =
    by-if (λ op. is_busy op ≡ true) (n ≟ 0) (λ e. absurd (omega arith)) (λ _.
    by-if (λ op. is_busy op ≡ true) (n ≟ 1) (λ _. refl) (λ _.
    by-if (λ op. is_busy op ≡ true) (n ≟ 2) (λ _. refl) (λ _.
    by-if (λ op. is_busy op ≡ true) (n ≟ 3) (λ _. refl) (λ _. refl))))

module _ (S g L : ℕ) (l : ℕ) (is_lane : l < L) (s : Side) (n : ℕ) where
  begun-facts : (op : Operation) → is_busy op ≡ true → argument_ok op (stored n) ≡ true
      → BusyFacts S g L (begun_task l op s n)
  unfolding is_step_in
  begun-facts op b h =
      record {
        busy = b;
        step_ok = first-step op;
        argument-ok = h;
        counted-ok = first_counted op;
        value-ok = first-value op;
        has_word = never-has-word;
        A-ok = none-fits;
        B-ok = none-fits;
        C-ok = none-fits;
        D-ok = none-fits;
        lane-ok = is_lane;
      }
    where
      first-step : (op : Operation) → is_step_in (steps_of op) (step_number (first_step op)) ≡ true
      first-step idle = refl
      first-step push = refl
      first-step pop = refl
      first-step add = refl
      first-step remove = refl

      first_counted : (op : Operation) → counted_ok (step_number (first_step op)) (goal_of op g n) 0 ≡ true
      first_counted idle = refl
      first_counted push = le-leb 0 g (omega arith)
      first_counted pop = refl
      first_counted add = le-leb 0 n (omega arith)
      first_counted remove = refl

      first-value : (op : Operation) → value_read_ok s (step_number (first_step op)) (encode never) ≡ true
      first-value idle = refl
      first-value push = refl
      first-value pop = refl
      first-value add = refl
      first-value remove = refl

-- The numbers of a call that a task of the table can be given.
pub record CallFits (ws : List ℕ) (k l op side : ℕ) (argument : Stored) : Type 0 where
  pub is_lane : l < lane_count ws
  pub is_task : k < task_count ws
  pub some-operation : 1 ≤ op
  pub last-operation : op ≤ 4
  pub last-side : side ≤ 1
  pub argument-fits : argument_ok (operation_of op) argument ≡ true

-- A begin that passes its tests.
pub record BeginAllowed (ws : List ℕ) (k l op side : ℕ) (argument : Stored) : Type 0 where
  pub fits : CallFits ws k l op side argument
  pub was-idle : is_idle (task ws k).operation ≡ true

-- Where 11 and 16 are not met, none is met of the tests after them.
not-seen-twice :
    (ws : List ℕ) (op : Operation) (n : ℕ) (others : Option ℕ)
    → twice_refusal ws op n others ≡ none
    → others ≡ none
not-seen-twice ws push n others e = go (all_lanes ws) e
  where
    go : (bags : Option (List ℕ)) → seen_refusal ws n bags others ≡ none → others ≡ none
    go none e = clash (cc)
    go (some bags) e = tests_left (not (is_among n bags || is_begun ws (task_count ws) n)) 16 others e
not-seen-twice ws idle n others e = e
not-seen-twice ws pop n others e = e
not-seen-twice ws add n others e = e
not-seen-twice ws remove n others e = e

module _ (ws : List ℕ) (k l op side : ℕ) (argument : Stored) where
  pub begin-allowed : begin_refusal ws k l op side argument ≡ none → BeginAllowed ws k l op side argument
  begin-allowed e =
      let lane_test : ltb l (lane_count ws) ≡ true = search (test-passed, tests_left) in
      let a : ltb k (task_count ws) ≡ true = search (test-passed, tests_left) in
      let numbers : leb 1 op && leb op 4 && leb side 1 ≡ true = search (test-passed, tests_left) in
      let b : leb 1 op ≡ true = search (and_left, and_right) in
      let c : leb op 4 ≡ true = search (and_left, and_right) in
      let d : leb side 1 ≡ true = search (and_left, and_right) in
      record {
        fits =
            record {
              is_lane = ltb-true l (lane_count ws) lane_test;
              is_task = ltb-true k (task_count ws) a;
              some-operation = leb-true 1 op b;
              last-operation = leb-true op 4 c;
              last-side = leb-true side 1 d;
              argument-fits = search (test-passed, tests_left) depth 8;
            };
        was-idle = search (test-passed, tests_left, not-seen-twice) depth 9;
      }

  module _ (Z : WellSized (sizes_of ws)) (W : WellShaped (columns ws)) where
    abbrev begun : Task
    begun = begun_task l (operation_of op) (side_of side) (number argument)

    pub begun_kept : CallFits ws k l op side argument → Kept ws (set_task k begun ws)
    begun_kept A =
        let S = node_count ws in
        let g = growth ws in
        let busy = begun-busy op A.some-operation in
        let same_argument = argument-stored (operation_of op) argument A.argument-fits in
        let fits =
        subst (λ (u : Stored). argument_ok (operation_of op) u ≡ true) (sym same_argument) A.argument-fits in
        let L = lane_count ws in
        let F = begun-facts S g L l A.is_lane (side_of side) (number argument) (operation_of op) busy fits in
        let recorded = put-record-shaped (columns ws) W k (words_of begun) (record-of-busy S g L begun F) in
        let same = sym (columns-set_task ws Z.sized k begun A.is_task) in
        record {
          same-sizes = ap (λ c. c.sizes) (sym same);
          same_dispatched = ap (λ c. c.counts.dispatched) (sym same);
          well_sized = subst WellSized (ap (λ c. c.sizes) same) Z;
          well-shaped = subst WellShaped same recorded;
        }

    pub begin-kept : Kept ws (begin ws k l op side argument).words
    unfolding begin
    begin-kept = go (begin_refusal ws k l op side argument) refl
      where
        go :
            (r : Option ℕ)
            → begin_refusal ws k l op side argument ≡ r
            → Kept ws (changed r ws (set_task k begun ws)).words
        go (some n) e = words-unchanged ws Z W
        go none e = begun_kept (begin-allowed e).fits

-- ---- tick and run.
kept_then : {ws vs us : List ℕ} → Kept ws vs → Kept vs us → Kept ws us
kept_then K L =
    record {
      same-sizes = L.same-sizes ∙ K.same-sizes;
      same_dispatched = L.same_dispatched ∙ K.same_dispatched;
      well_sized = L.well_sized;
      well-shaped = L.well-shaped;
    }

pub list-kept : (i : ℕ) (list ws : List ℕ) → WellSized (sizes_of ws) → WellShaped (columns ws)
    → Kept ws (after_ticks i list ws)
list-kept i list ws Z W =
    kept-in-list (Kept ws)
    (λ vs K k h. kept_then K (tick-kept vs K.well_sized K.well-shaped k h))
    i list ws (words-unchanged ws Z W)

-- ---- Every call.
pub kept-accepted : {ws vs : List ℕ} → Kept ws vs → WellFormed vs
kept-accepted {ws} {vs} K =
    record { length_passes = length-ok vs K.well_sized; shape_passes = shape-ok vs K.well-shaped }

module _ (ws : List ℕ) (A : WellFormed ws) where
  -- A table that passes both tests is not refused by them.
  pub table-passes : (others : Option ℕ) → table_refusal ws others ≡ others
  table-passes others = rw (A.length_passes, A.shape_passes)

  pub tick-passes : (k h : ℕ) → tick ws k h ≡ tick_on ws k h
  unfolding tick
  tick-passes k h = rw (table-passes none, tick)

  Z : WellSized (sizes_of ws)
  Z = well_sized ws A.length_passes

  W : WellShaped (columns ws)
  W = well-shaped ws A.length_passes A.shape_passes

  pub tick-call-kept : (k h : ℕ) → Kept ws (tick ws k h).words
  tick-call-kept k h = rw (tick-passes k h) (tick-kept ws Z W k h)

  -- The table of a tick that passes its tests, with that task as the one last dispatched.
  pub dispatched-accepted : (k h : ℕ) → tick_refusal ws k h ≡ none
      → WellFormed (set_dispatched k (tick_on ws k h).words)
  dispatched-accepted k h passes =
      let vs = (tick_on ws k h).words in
      let K = tick-kept ws Z W k h in
      let same = sym (columns-set_dispatched vs K.well_sized.sized k) in
      let is_task = subst (λ z. k < z.task_count) (sym K.same-sizes) (tick-allowed ws k h passes).0 in
      record {
        length_passes = length-ok (set_dispatched k vs) (subst WellSized (ap (λ c. c.sizes) same) K.well_sized);
        shape_passes =
            shape-ok (set_dispatched k vs)
            (subst WellShaped same (put-dispatched-shaped (columns vs) K.well-shaped k is_task));
      }

  start-call-accepted : (S T g L : ℕ) → WellFormed (start ws S T g L).words
  unfolding start
  start-call-accepted S T g L = go (start_refusal ws S T g L) refl
    where
      go : (r : Option ℕ) → start_refusal ws S T g L ≡ r → WellFormed (changed r ws (start_words S T g L)).words
      go (some n) e = A
      go none e = start-accepted S T g L (search test-passed) (search (test-passed, tests_left))

  -- A dispatch leaves the table as it was, or as a tick leaves it, with that task as the one last dispatched.
  dispatch-call-accepted : (h : ℕ) → WellFormed (dispatch ws h).words
  dispatch-call-accepted h =
      by_dispatch ws A h (λ (r : Dispatched). WellFormed r.words) A (λ e. A) (λ k n e q. A)
      (λ k e passes made. dispatched-accepted k h passes)

  pub dispatch-same-sizes : (h : ℕ) → sizes_of (dispatch ws h).words ≡ sizes_of ws
  dispatch-same-sizes h =
      by_dispatch ws A h (λ (r : Dispatched). sizes_of r.words ≡ sizes_of ws) refl (λ e. refl) (λ k n e q. refl)
      (λ k e passes made.
      let K = tick-kept ws Z W k h in
      ap (λ c. c.sizes) (columns-set_dispatched (tick_on ws k h).words K.well_sized.sized k) ∙ K.same-sizes)

pub call-accepted : (ws : List ℕ) → WellFormed ws → (c : Call) → WellFormed (after c ws)
call-accepted ws A c =
    kept-by-calls WellFormed
    (record {
      by_start = λ ws A S T g L. start-call-accepted ws A S T g L;
      by-begin = λ ws A k l op side argument. kept-accepted (begin-kept ws k l op side argument (Z ws A) (W ws A));
      by_tick = λ ws A k h. kept-accepted (tick-kept ws (Z ws A) (W ws A) k h);
      by_dispatch = λ ws A h. dispatch-call-accepted ws A h;
    })
    c ws A
