-- A tick on a table of the right shape leaves a table of the right shape, with the same sizes.
use mathlib.Core.Path.{◌≡◌, refl, ap, sym, ◌∙◌, subst}
use mathlib.Core.Bool.{Bool, true, false}
use mathlib.Core.List.{List}
use mathlib.Core.Option.{Option, some, none}
use Prim.Native.Nat.{ℕ, zero, suc, ◌<◌}
use native.Mathlib.Omega.{arith}
use lib.Dec.{ltb, eqb}
use lib.ListN.{get_or}
use borrow.Author.Tests.{ltb-true, lt-ltb}
use Rattle.machine.specs.Outcomes.Answer.{Refused}
use Rattle.machine.specs.Choice.{◌<?◌, if?◌then◌else◌}
use Rattle.machine.specs.Sides.{Side, opposite}
use Rattle.machine.specs.Operations.{idle}
use Rattle.machine.specs.Tasks.{Task, fresh, words_of, value_read_words, task_of}
use Rattle.machine.specs.Table.{
  node_count,
  task_count,
  growth,
  lane_count,
  most_lanes,
  dispatched,
  value,
  record_words,
  task,
}
use Rattle.machine.specs.Shape.{record_ok, sizes_of, WellSized}
use Rattle.machine.specs.Round.{following}
use Rattle.machine.specs.Allocate.{first_unmarked, marked, allocate}
use Rattle.machine.specs.Lines.{seen, Write, Effect}
use Rattle.machine.specs.Calls.{is_busy, tick_refusal, effect_of, Ticked, applied, tick_on}
use Rattle.machine.proofs.Basics.Contradiction.{clash}
use Rattle.machine.proofs.Basics.Rounds.{following-below}
use Rattle.machine.proofs.Basics.Tests.{test-passed, tests_left}
use Rattle.machine.proofs.Words.ValueLaws.{HasWord, never-has-word, decoded-has-word, decoded-value-ok}
use Rattle.machine.proofs.Words.RecordLaws.{task-of-words, fresh-of-words, words-of-task, read-passes}
use Rattle.machine.proofs.Words.Columns.{columns, put_all}
use Rattle.machine.proofs.Words.EffectLaws.{
  put-all-rest,
  effect_words,
  columns-effect,
  effect-sizes,
  effect-dispatched,
}
use Rattle.machine.proofs.Shape.BusyLaws.{
  NodeOrNone,
  BusyFacts,
  record-of-fresh,
  record-of-busy,
  busy-of-record,
  idle-of-record,
}
use Rattle.machine.proofs.Shape.ShapeLaws.{WellShaped}
use Rattle.machine.proofs.Shape.Fits.{
  WritesFit,
  answer-made,
  Fits,
  turns-back,
  goes_on,
  ends,
  MemoryFits,
  none-fits,
}
use Rattle.machine.proofs.Shape.LinesFit.{line-fits}
use Rattle.machine.proofs.Shape.WritesKeep.{
  all-in-range,
  put-record-shaped,
  put-ticks-shaped,
  put-all-shaped,
}
use Rattle.machine.proofs.Basics.Choices.{by-if, if_yes}

-- ---- The node that a search finds.
first-unmarked-node : (S : ℕ) (marks : List ℕ) (n i : ℕ) → i < S → NodeOrNone S (first_unmarked S marks n i)
unfolding first_unmarked
first-unmarked-node S marks zero i h = none-fits
first-unmarked-node S marks (suc n) i h =
    go (eqb (get_or marks i 0) 0) (first-unmarked-node S marks n (following S i) (following-below S i h))
  where
    go :
        (b : Bool)
        → NodeOrNone S (first_unmarked S marks n (following S i))
        → NodeOrNone S (elim b as (λ _. ℕ) [ true ↦ i | false ↦ first_unmarked S marks n (following S i) ])
    go true rest = λ _. h
    go false rest = rest

pub allocated-node : (ws : List ℕ) (h : ℕ) → h < node_count ws → NodeOrNone (node_count ws) (allocate ws h)
unfolding allocate
allocated-node ws h l = first-unmarked-node (node_count ws) (marked ws).marks (node_count ws) h l

-- ---- What a task finds in a table of the right shape.
module _ (ws : List ℕ) (W : WellShaped (columns ws)) where
  memory-fits : (l : ℕ) → l < lane_count ws → (s : Side) → MemoryFits (node_count ws) (seen l s ws)
  unfolding value
  memory-fits l is_lane s =
      record {
        out-ok = W.links-ok s;
        inn-ok = W.links-ok (opposite s);
        val-ok = λ x. (decoded-has-word ((columns ws).values x), decoded-value-ok ((columns ws).values x));
        hat-ok = (W.hats-ok l s).used is_lane;
      }

  record-ok : (k : ℕ) → record_ok (node_count ws) (growth ws) (lane_count ws) (words_of (task ws k)) ≡ true
  unfolding task
  record-ok k = go (k <? task_count ws)
    where
      S : ℕ
      S = node_count ws

      g : ℕ
      g = growth ws

      L : ℕ
      L = lane_count ws

      r : List ℕ
      r = record_words ws k

      go : (d : Dec (k < task_count ws)) → record_ok S g L (words_of (if? d then task_of r else fresh)) ≡ true
      go (no n) = record-of-fresh S g L
      go (yes l) =
          let ok : record_ok S g L r ≡ true = rw (if_yes (k <? task_count ws) r (words_of fresh) l) at (W.records-ok k) in
          rw (words-of-task S g L r ok) (read-passes S g L r ok)

  pub task-has-word : (k : ℕ) → HasWord (task ws k).value
  unfolding task
  task-has-word k =
      by-if (λ (t : Task). HasWord t.value) (k <? task_count ws)
      (λ _. decoded-has-word (value_read_words (record_words ws k))) (λ _. never-has-word)

  pub busy-facts :
      (k : ℕ) → is_busy (task ws k).operation ≡ true → BusyFacts (node_count ws) (growth ws) (lane_count ws) (task ws k)
  busy-facts k = busy-of-record (node_count ws) (growth ws) (lane_count ws) (task ws k) (task-has-word k) (record-ok k)

  pub idle-fresh : (k : ℕ) → (task ws k).operation ≡ idle → task ws k ≡ fresh
  idle-fresh k e =
      let t = task ws k in
      let same = idle-of-record (node_count ws) (growth ws) (lane_count ws) t (record-ok k) e in
      sym (task-of-words t (task-has-word k)) ∙ ap task_of same ∙ fresh-of-words

  pub effect-fits :
      (k h : ℕ)
      → h < node_count ws
      → is_busy (task ws k).operation ≡ true
      → Fits (node_count ws) (growth ws) (lane_count ws) (effect_of ws k h)
  unfolding effect_of
  effect-fits k h l b =
      let t = task ws k in
      let F = busy-facts k b in
      line-fits (node_count ws) (growth ws) (lane_count ws) (seen t.lane t.side ws)
      (memory-fits t.lane F.lane-ok t.side) t (allocate ws h) (allocated-node ws h l) t.step F

-- ---- The table after it.

-- A tick that passes its tests is one of a busy task, with a node as its hint.
pub tick-allowed :
    (ws : List ℕ) (k h : ℕ)
    → tick_refusal ws k h ≡ none
    → (k < task_count ws) × (h < node_count ws) × (is_busy (task ws k).operation ≡ true)
tick-allowed ws k h e =
    let task-test : ltb k (task_count ws) ≡ true = search test-passed in
    let hint-test : ltb h (node_count ws) ≡ true = search (test-passed, tests_left) in
    let busy-test : is_busy (task ws k).operation ≡ true = search (test-passed, tests_left) in
    (ltb-true k (task_count ws) task-test, ltb-true h (node_count ws) hint-test, busy-test)

-- And the other way: a number that is no task has a fresh record, which is idle.
pub busy-is-task : (ws : List ℕ) (k : ℕ) → is_busy (task ws k).operation ≡ true → k < task_count ws
unfolding task
busy-is-task ws k = go (k <? task_count ws)
  where
    go :
        (d : Dec (k < task_count ws))
        → is_busy (if? d then task_of (record_words ws k) else fresh).operation ≡ true
        → k < task_count ws
    go (yes l) b = l
    go (no l) b = clash (cc)

pub busy-passes : (ws : List ℕ) (k h : ℕ) → is_busy (task ws k).operation ≡ true → h < node_count ws
    → tick_refusal ws k h ≡ none
busy-passes ws k h b l = rw (lt-ltb k (task_count ws) (busy-is-task ws k b), lt-ltb h (node_count ws) l, b)

-- The words vs have the sizes of ws and the right shape; and 02: "A plain tick does not touch" the task last
-- dispatched.
pub record Kept (ws vs : List ℕ) : Type 0 where
  pub same-sizes : sizes_of vs ≡ sizes_of ws
  pub same_dispatched : dispatched vs ≡ dispatched ws
  pub well_sized : WellSized (sizes_of vs)
  pub well-shaped : WellShaped (columns vs)

module _ (ws : List ℕ) (Z : WellSized (sizes_of ws)) (W : WellShaped (columns ws)) where
  pub words-unchanged : Kept ws ws
  words-unchanged = record { same-sizes = refl; same_dispatched = refl; well_sized = Z; well-shaped = W }

  module _ (k : ℕ) (is_task : k < task_count ws) (j : ℕ) (is_lane : j < lane_count ws) (s : Side) where
    has-hats : j < most_lanes
    has-hats = omega (arith, Z.most-lanes)

    effect-kept :
        (l : List Write) (t : Task)
        → WritesFit (node_count ws) l
        → record_ok (node_count ws) (growth ws) (lane_count ws) (words_of t) ≡ true
        → Kept ws (effect_words j s l k t ws)
    effect-kept l t fit ok =
        let c = put_all j s l (columns ws) in
        let z = (put-all-rest j s l (columns ws)).sizes in
        let in-range = all-in-range (node_count ws) l fit in
        let sizes = effect-sizes ws Z.sized j has-hats s l in-range k is_task t in
        let ok-after =
        subst (λ z. record_ok z.node_count z.growth z.lane_count (words_of t) ≡ true) (sym z) ok in
        let recorded = put-record-shaped c (put-all-shaped j s l (columns ws) is_lane W fit) k (words_of t) ok-after in
        let same = sym (columns-effect ws Z.sized j has-hats s l in-range k is_task t) in
        record {
          same-sizes = sizes;
          same_dispatched = effect-dispatched ws Z.sized j has-hats s l in-range k is_task t;
          well_sized = subst WellSized (sym sizes) Z;
          well-shaped = subst WellShaped same (put-ticks-shaped _ recorded _);
        }

    applied-kept : {e : Effect} → Fits (node_count ws) (growth ws) (lane_count ws) e → Kept ws (applied j s ws k e).words
    unfolding applied
    applied-kept turns-back = words-unchanged
    applied-kept (goes_on {l} {t} fit F) =
        effect-kept l t fit (record-of-busy (node_count ws) (growth ws) (lane_count ws) t F)
    applied-kept (ends {l} {a} fit answers) =
        rw (answer-made a answers, applied)
        (effect-kept l fresh fit (record-of-fresh (node_count ws) (growth ws) (lane_count ws)))

  pub tick-kept : (k h : ℕ) → Kept ws (tick_on ws k h).words
  unfolding tick_on
  tick-kept k h = go (tick_refusal ws k h) refl
    where
      go :
          (r : Option ℕ)
          → tick_refusal ws k h ≡ r
          → Kept ws
          (elim r as (λ _. Ticked) [
            | some n ↦ record { answer = Refused n; words = ws }
            | none ↦ applied (task ws k).lane (task ws k).side ws k (effect_of ws k h)
          ]).words
      go (some n) e = words-unchanged
      go none e =
          let allowed = tick-allowed ws k h e in
          let F = busy-facts ws W k allowed.2 in
          applied-kept k allowed.0 (task ws k).lane F.lane-ok (task ws k).side
          (effect-fits ws W k h allowed.1 allowed.2)
