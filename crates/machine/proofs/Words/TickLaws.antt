-- What a tick that is made does to the view and to the tasks.
use mathlib.Core.Path.{◌≡◌, refl, sym, ap, ◌∙◌, subst}
use mathlib.Core.Bool.{Bool, true, false}
use mathlib.Core.List.{List}
use mathlib.Core.Option.{Option, some, none}
use Prim.Native.Nat.{ℕ, ◌+◌, ◌%◌, ◌^◌, ◌≤◌, zero-le, ◌<◌}
use native.Mathlib.Omega.{arith}
use lib.Dec.{ltb}
use Rattle.tag.specs.Tags.{largest_tag}
use Rattle.machine.specs.Outcomes.Answer.{Refused}
use Rattle.machine.specs.Sides.{Side, right}
use Rattle.machine.specs.Tasks.{words_of}
use Rattle.machine.specs.Table.{node_count, task_count, growth, lane_count, most_lanes, tick_count, task}
use Rattle.machine.specs.Shape.{length_ok, shape_ok, sizes_of, WellSized}
use Rattle.machine.specs.Lines.{Effect}
use Rattle.machine.specs.Answers.{payload_of, dispatch_payload_of, refusal_of}
use Rattle.machine.specs.Calls.{
  unless,
  is_busy,
  table_refusal,
  tick_refusal,
  effect_of,
  Ticked,
  applied,
  tick_on,
  tick,
  dispatch_refusal,
  next_busy,
  dispatch_to,
  dispatch_on,
  dispatch,
}
use Rattle.machine.proofs.Basics.Contradiction.{clash}
use Rattle.machine.proofs.Basics.Tests.{test-passed, tests_left}
use Rattle.machine.proofs.Basics.Updates.{update}
use Rattle.machine.proofs.Words.Memories.{viewed, view_after}
use Rattle.machine.proofs.Words.ValueLaws.{HasWord, never-has-word}
use Rattle.machine.proofs.Words.Columns.{columns, put_tick_count, put_record, put_all}
use Rattle.machine.proofs.Words.EffectLaws.{AllInRange, effect_words, columns-effect, viewed-effect, task-effect}
use Rattle.machine.proofs.Shape.ShapeLaws.{WellShaped, well-shaped}
use Rattle.machine.proofs.Shape.Fits.{AnswerFits, answer-tag, Fits, turns-back, goes_on, ends}
use Rattle.machine.proofs.Shape.WritesKeep.{all-in-range}
use Rattle.machine.proofs.Shape.TickKeeps.{tick-allowed, busy-facts, effect-fits}

-- An effect that fits and is no refusal stays in range.
pub fit_effect :
    (S g L : ℕ) {e : Effect}
    → Fits S g L e
    → refusal_of e.answer ≡ none
    → AllInRange S e.writes × HasWord e.task.value
fit_effect S g L turns-back made = clash (cc)
fit_effect S g L (goes_on {l} fit F) made = (all-in-range S l fit, F.has_word)
fit_effect S g L (ends {l} fit answers) made = (all-in-range S l fit, never-has-word)

applied-answer : (j : ℕ) (s : Side) (ws : List ℕ) (k : ℕ) (e : Effect) → (applied j s ws k e).answer ≡ e.answer
unfolding applied
applied-answer j s ws k e = go (refusal_of e.answer)
  where
    go :
        (r : Option ℕ)
        → (elim r as (λ _. Ticked) [
          | some n ↦ record { answer = e.answer; words = ws }
          | none ↦ record { answer = e.answer; words = effect_words j s e.writes k e.task ws }
        ]).answer
        ≡ e.answer
    go (some n) = refl
    go none = refl

applied-refused : (j : ℕ) (s : Side) (ws : List ℕ) (k : ℕ) (e : Effect) {n : ℕ} → refusal_of e.answer ≡ some n
    → (applied j s ws k e).words ≡ ws
unfolding applied
applied-refused j s ws k e r = rw (r, applied)

-- A tick that does not pass its tests changes nothing.
pub tick-stopped : (ws : List ℕ) (k h : ℕ) {n : ℕ} → tick_refusal ws k h ≡ some n
    → tick_on ws k h ≡ record { answer = Refused n; words = ws }
unfolding tick_on
tick-stopped ws k h e = rw (e, tick_on)

-- A tick that passes its tests: k is a busy task, h a node.
module _ (ws : List ℕ) (k h : ℕ) (allowed : tick_refusal ws k h ≡ none) where
  pub tick-answer : (tick_on ws k h).answer ≡ (effect_of ws k h).answer
  unfolding tick_on
  tick-answer = rw (allowed, tick_on) (applied-answer (task ws k).lane (task ws k).side ws k (effect_of ws k h))

  -- Where its line refuses it, it leaves the table as it was.
  pub tick-refused : {n : ℕ} → refusal_of (effect_of ws k h).answer ≡ some n → (tick_on ws k h).words ≡ ws
  unfolding tick_on
  tick-refused r = rw (allowed, tick_on) (applied-refused (task ws k).lane (task ws k).side ws k (effect_of ws k h) r)

  -- It is made where its line does not refuse it.
  module _
      (Z : WellSized (sizes_of ws))
      (W : WellShaped (columns ws))
      (made : refusal_of (effect_of ws k h).answer ≡ none) where
    own_lane : (task ws k).lane < most_lanes
    own_lane =
        let F = busy-facts ws W k (tick-allowed ws k h allowed).2 in
        omega (arith, F.lane-ok, Z.most-lanes)

    tick-words :
        (tick_on ws k h).words
        ≡ effect_words (task ws k).lane (task ws k).side (effect_of ws k h).writes k (effect_of ws k h).task ws
    unfolding tick_on applied
    tick-words = rw (allowed, tick_on, made, applied)

    tick-in-range :
        AllInRange (node_count ws) (effect_of ws k h).writes × HasWord (effect_of ws k h).task.value
    tick-in-range =
        let a = tick-allowed ws k h allowed in
        fit_effect (node_count ws) (growth ws) (lane_count ws) (effect-fits ws W k h a.1 a.2) made

    -- Every word of the table after it.
    pub tick-columns :
        columns (tick_on ws k h).words
        ≡ put_tick_count ((tick_count ws + 1) % 2 ^ 32)
        (put_record k (words_of (effect_of ws k h).task)
        (put_all (task ws k).lane (task ws k).side (effect_of ws k h).writes (columns ws)))
    tick-columns =
        let e = effect_of ws k h in
        let is_task = (tick-allowed ws k h allowed).0 in
        ap columns tick-words
        ∙ columns-effect ws Z.sized (task ws k).lane own_lane (task ws k).side
        e.writes tick-in-range.0 k is_task e.task

    pub tick-viewed :
        viewed right (tick_on ws k h).words
        ≡ view_after (task ws k).lane (task ws k).side (effect_of ws k h).writes (viewed right ws)
    tick-viewed =
        let e = effect_of ws k h in
        let is_task = (tick-allowed ws k h allowed).0 in
        ap (viewed right) tick-words
        ∙ viewed-effect ws Z.sized (task ws k).lane own_lane (task ws k).side
        e.writes tick-in-range.0 k is_task e.task

    pub tick-task : task (tick_on ws k h).words ≡ update (task ws) k (effect_of ws k h).task
    tick-task =
        let e = effect_of ws k h in
        let s = (task ws k).side in
        let r = tick-in-range in
        let is_task = (tick-allowed ws k h allowed).0 in
        ap task tick-words
        ∙ task-effect ws Z.sized (task ws k).lane own_lane s e.writes r.0 k is_task e.task r.1

-- ---- A refused tick, by its answer.

-- It leaves the table as it was.
pub refused-unchanged : (ws : List ℕ) (k h : ℕ) {n : ℕ} → refusal_of (tick_on ws k h).answer ≡ some n
    → (tick_on ws k h).words ≡ ws
refused-unchanged ws k h e = go (tick_refusal ws k h) refl
  where
    go : (r : Option ℕ) → tick_refusal ws k h ≡ r → (tick_on ws k h).words ≡ ws
    go (some m) q = ap (λ (t : Ticked). t.words) (tick-stopped ws k h q)
    go none q = tick-refused ws k h q (ap refusal_of (sym (tick-answer ws k h q)) ∙ e)

-- ---- The number that a tick answers with, of a bag or of a refusal, is at most the largest tag.
fit-number : (S g L : ℕ) {e : Effect} → Fits S g L e → payload_of e.answer ≤ largest_tag
fit-number S g L turns-back = omega arith
fit-number S g L (goes_on fit F) = zero-le
fit-number S g L (ends {l} {a} fit answers) = answer-tag a answers

-- The numbers of a list of refusals are small where each is.
small-number :
    (b : Bool) (n : ℕ) (others : Option ℕ)
    → n ≤ largest_tag
    → ((m : ℕ) → others ≡ some m → m ≤ largest_tag)
    → (m : ℕ)
    → unless b n others ≡ some m
    → m ≤ largest_tag
small-number true n others h rest m e = rest m e
small-number false n others h rest m e = let q : n ≡ m = cc in omega arith

no_number : (m : ℕ) → none ≡ some m → m ≤ largest_tag
no_number m e = clash (cc)

-- A tick that is made ends with an answer that fits.
fit-answer : (S g L : ℕ) {e : Effect} → Fits S g L e → refusal_of e.answer ≡ none → AnswerFits e.answer
fit-answer S g L turns-back made = clash (cc)
fit-answer S g L (goes_on fit F) made = tt
fit-answer S g L (ends fit answers) made = answers

pub made-answer-fits :
    (ws : List ℕ) (k h : ℕ)
    → WellShaped (columns ws)
    → tick_refusal ws k h ≡ none
    → refusal_of (tick_on ws k h).answer ≡ none
    → AnswerFits (tick_on ws k h).answer
made-answer-fits ws k h W e made =
    let a = tick-allowed ws k h e in
    let is = tick-answer ws k h e in
    subst AnswerFits (sym is)
    (fit-answer (node_count ws) (growth ws) (lane_count ws) (effect-fits ws W k h a.1 a.2)
    (ap refusal_of (sym is) ∙ made))

pub tick-on-number : (ws : List ℕ) (k h : ℕ) → WellShaped (columns ws) → payload_of (tick_on ws k h).answer ≤ largest_tag
tick-on-number ws k h W = go (tick_refusal ws k h) refl
  where
    small : (m : ℕ) → tick_refusal ws k h ≡ some m → m ≤ largest_tag
    small =
        small-number (ltb k (task_count ws)) 5 _ (omega arith)
        (small-number (ltb h (node_count ws)) 9 _ (omega arith)
        (small-number (is_busy (task ws k).operation) 10 _ (omega arith) no_number))

    go : (r : Option ℕ) → tick_refusal ws k h ≡ r → payload_of (tick_on ws k h).answer ≤ largest_tag
    go (some n) e = rw (tick-stopped ws k h e) (small n e)
    go none e =
        let a = tick-allowed ws k h e in
        rw (tick-answer ws k h e)
        (fit-number (node_count ws) (growth ws) (lane_count ws) (effect-fits ws W k h a.1 a.2))

pub tick-number : (ws : List ℕ) (k h : ℕ) → payload_of (tick ws k h).answer ≤ largest_tag
unfolding tick
tick-number ws k h = go (table_refusal ws none) refl
  where
    small : (m : ℕ) → table_refusal ws none ≡ some m → m ≤ largest_tag
    small = small-number (length_ok ws) 3 _ (omega arith) (small-number (shape_ok ws) 4 _ (omega arith) no_number)

    go :
        (r : Option ℕ)
        → table_refusal ws none ≡ r
        → payload_of (elim r as (λ _. Ticked) [
          | some n ↦ record { answer = Refused n; words = ws }
          | none ↦ tick_on ws k h
        ]).answer
        ≤ largest_tag
    go (some n) e = small n e
    go none e =
        let length-test : length_ok ws ≡ true = search test-passed in
        let shape-test : shape_ok ws ≡ true = search (test-passed, tests_left) in
        tick-on-number ws k h (well-shaped ws length-test shape-test)

-- The same of a dispatch.
pub dispatch-number : (ws : List ℕ) (h : ℕ) → dispatch_payload_of (dispatch ws h).answer ≤ largest_tag
unfolding dispatch dispatch_on dispatch_to
dispatch-number ws h = tested (dispatch_refusal ws h) refl
  where
    small : (m : ℕ) → dispatch_refusal ws h ≡ some m → m ≤ largest_tag
    small =
        small-number (length_ok ws) 3 _ (omega arith)
        (small-number (shape_ok ws) 4 _ (omega arith)
        (small-number (ltb h (node_count ws)) 9 _ (omega arith) no_number))

    ticked : (k : ℕ) → payload_of (tick_on ws k h).answer ≤ largest_tag → (r : Option ℕ)
        → refusal_of (tick_on ws k h).answer ≡ r
        → dispatch_payload_of (dispatch_to ws k h).answer ≤ largest_tag
    ticked k low (some n) e = rw (e, dispatch_to) low
    ticked k low none e = rw (e, dispatch_to) low

    chosen : WellShaped (columns ws) → (o : Option ℕ) → next_busy ws ≡ o
        → dispatch_payload_of (dispatch_on ws h).answer ≤ largest_tag
    chosen W none e = rw (e, dispatch_on) (omega arith)
    chosen W (some k) e =
        rw (e, dispatch_on) (ticked k (tick-on-number ws k h W) (refusal_of (tick_on ws k h).answer) refl)

    tested : (r : Option ℕ) → dispatch_refusal ws h ≡ r → dispatch_payload_of (dispatch ws h).answer ≤ largest_tag
    tested (some n) e = rw (e, dispatch) (small n e)
    tested none e =
        let length-test : length_ok ws ≡ true = search test-passed in
        let shape-test : shape_ok ws ≡ true = search (test-passed, tests_left) in
        rw (e, dispatch) (chosen (well-shaped ws length-test shape-test) (next_busy ws) refl)
