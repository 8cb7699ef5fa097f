-- The potential of a table: how often the tasks and the hats may still disturb, and within that how many ticks the
-- tasks have left. Every tick that goes on lowers it.
use mathlib.Core.Path.{◌≡◌, refl, sym, ap, ◌∙◌, subst}
use mathlib.Core.Logic.{◌≢◌, inl, inr}
use mathlib.Core.Bool.{true, false}
use mathlib.Core.List.{List}
use mathlib.Core.Option.{none}
use Prim.Native.Nat.{ℕ, suc, ◌+◌, ◌*◌, ◌-◌, ◌≤◌, ◌<◌}
use native.Mathlib.Omega.{arith}
use Rattle.machine.specs.Outcomes.Answer.{Going}
use Rattle.machine.specs.Sides.{Side, right, opposite}
use Rattle.machine.specs.Values.{Y}
use Rattle.machine.specs.Tasks.{Task}
use Rattle.machine.specs.Table.{node_count, task_count, growth, lane_count, task}
use Rattle.machine.specs.Lines.{Effect}
use Rattle.machine.specs.Calls.{is_busy, tick_refusal, effect_of, tick_on}
use Rattle.machine.proofs.Basics.Contradiction.{equal?, clash}
use Rattle.machine.proofs.Basics.Updates.{update, update_same, update_other, update_hat}
use Rattle.machine.proofs.Words.Memories.{View, viewed, written, view}
use Rattle.machine.proofs.SlotRule.Reached.{keeps}
use Rattle.machine.proofs.Shape.TickKeeps.{tick-allowed}
use Rattle.machine.proofs.Linearizability.Model.Invariant.{note_of, Kept, goes_on, has_answered}
use Rattle.machine.proofs.Linearizability.Calls.Agreement.{Agrees}
use Rattle.machine.proofs.Linearizability.Calls.MadeTicks.{keeps-invariant}
use Rattle.machine.proofs.Linearizability.Begun.TableAfter.{
  own-after,
  other_after,
  nodes-after,
  task-count-after,
  lanes-after,
  in_after,
  own-side,
  own-busy,
}
use Rattle.machine_progress.proofs.SoloBound.Led.{Led, led-ticked}
use Rattle.machine_progress.proofs.SoloBound.Budget.{late}
use Rattle.machine_progress.proofs.SoloBound.AtFirst.{most}
use Rattle.machine_progress.proofs.SoloBound.SoloTick.{left-in-first, continues}
use Rattle.machine_progress.proofs.LockFree.Change.{Calm, BothSteady, BothNoCut, steady-view, no-cut-view}
use Rattle.machine_progress.proofs.LockFree.Disturbances.{Disturbs, HatDisturbs, disturbs-at-first, hat-stays}
use Rattle.machine_progress.proofs.LockFree.TickProgress.{TickProgress, ends, is-calm, cuts, disturbs, moves}
use Rattle.machine_progress.proofs.LockFree.Sums.{sum, sum-suc, sum-const, sum-update}
use Rattle.machine_progress.proofs.LockFree.TableTick.{
  DisturbsIn,
  CalmlyLeft,
  outcome,
  steady-others,
  calm-others,
  patient-others,
  calm-hats,
}
use Rattle.machine_progress.proofs.LockFree.HatMoves.{both_hats, hat-moved, fewer-hats, hat-had}

pub record Potential (ws : List ℕ) (D P : ℕ) : Type 0 where
  pub d : ℕ → ℕ
  pub hats : (lane : ℕ) → Side → ℕ
  pub p : ℕ → ℕ
  pub may-disturb : (j : ℕ) → is_busy (task ws j).operation ≡ true
      → DisturbsIn (task_count ws) (viewed right ws) (task ws j) (d j)
  pub hats-move : (l : ℕ) → l < lane_count ws → (z : Side) → HatDisturbs l z (view z (viewed right ws)) (hats l z)
  pub patience : (j : ℕ) → is_busy (task ws j).operation ≡ true
      → CalmlyLeft (node_count ws) (growth ws) (viewed right ws) (task ws j) (p j)
  -- A task that is idle may begin a call.
  pub idle-yet : (j : ℕ) → is_busy (task ws j).operation ≡ false
      → (suc (task_count ws) ≤ d j) × (p j ≡ most 2 (node_count ws))
  pub few-disturbances : sum (task_count ws) d + sum (lane_count ws) (both_hats hats) ≤ D
  pub few-ticks : sum (task_count ws) p ≤ P

-- ---- At first.
module _ {ws : List ℕ} (led : Led ws) where
  pub patient-first : (j : ℕ) → is_busy (task ws j).operation ≡ true
      → CalmlyLeft (node_count ws) (growth ws) (viewed right ws) (task ws j) (most 2 (node_count ws))
  patient-first j busy = (left-in-first 2 led j busy (omega arith)).left

  few-first : sum (task_count ws) (λ _. most 2 (node_count ws))
      ≤ task_count ws * most 2 (node_count ws)
  few-first =
      sum-const (task_count ws) (most 2 (node_count ws)) (λ _. most 2 (node_count ws))
      (λ j l. omega arith)

  pub potential-first : 1 ≤ task_count ws
      → Potential ws (task_count ws * suc (task_count ws) + lane_count ws * 2) (task_count ws * most 2 (node_count ws))
  potential-first some =
      let T = task_count ws in
      record {
        d = λ _. suc T;
        hats = λ _ _. 1;
        p = λ _. most 2 (node_count ws);
        may-disturb =
            λ j _. let t = task ws j in
            disturbs-at-first t.step T t.side (view t.side (viewed right ws)) t (suc T) some (omega arith);
        hats-move = λ l h z. late (omega arith);
        patience = patient-first;
        idle-yet = λ j _. (omega arith, refl);
        few-disturbances =
            omega (
              arith,
              sum-const T (suc T) (λ _. suc T) (λ j l. omega arith),
              sum-const (lane_count ws) 2 (both_hats (λ _ _. 1)) (λ j l. omega arith),
            );
        few-ticks = few-first;
      }

-- ---- A tick that goes on.
pub data Falls (after : List ℕ) (D P : ℕ) : Type 0 where
  ticks-fall : {P' : ℕ} → suc P' ≤ P → Potential after D P' → Falls after D P
  disturbances-fall : {D' : ℕ} → suc D' ≤ D
      → Potential after D' (task_count after * most 2 (node_count after))
      → Falls after D P

module _ {ws : List ℕ} (led : Led ws) (k h : ℕ) (passes : tick_refusal ws k h ≡ none) {D P : ℕ}
    (Φ : Potential ws D P) (going : (effect_of ws k h).answer ≡ Going)
    (same : note_of (effect_of ws k h).task ≡ note_of (task ws k)) where
  abbrev T : ℕ
  T = task_count ws

  abbrev after : List ℕ
  after = (tick_on ws k h).words

  abbrev e : Effect
  e = effect_of ws k h

  abbrev m : View
  m = view (task ws k).side (viewed right ws)

  abbrev m' : View
  m' = written (task ws k).lane (task ws k).side (effect_of ws k h).writes m

  abbrev M' : View
  M' = view (task ws k).side m'

  agrees : Agrees ws led.row
  agrees = led.agrees

  is_task : k < T
  is_task = (tick-allowed ws k h passes).0

  busy-now : is_busy (task ws k).operation ≡ true
  busy-now = (tick-allowed ws k h passes).2

  -- What holds of each task afterwards.
  each_after : (F : (S T gr : ℕ) → View → Task → ℕ → Type 0) (f : ℕ → ℕ)
      → ((j : ℕ) → j ≢ k → is_busy (task ws j).operation ≡ true
      → F (node_count ws) T (growth ws) M' (task ws j) (f j))
      → F (node_count after) (task_count after) (growth after) (viewed right after) (task after k) (f k)
      → (j : ℕ)
      → is_busy (task after j).operation ≡ true
      → F (node_count after) (task_count after) (growth after) (viewed right after) (task after j) (f j)
  each_after F f others own j busy =
      elim (equal? j k) [
        | inl q ↦
            subst
            (λ (i : ℕ).
            F (node_count after) (task_count after) (growth after) (viewed right after) (task after i) (f i))
            (sym q) own
        | inr ne ↦
            let same-task = other_after agrees k h passes j ne in
            in_after agrees k h passes (λ S T gr m t. F S T gr m t (f j)) j same-task
            (others j ne (sym (ap (λ (t : Task). is_busy t.operation) same-task) ∙ busy))
      ]

  disturb-after : (f : ℕ → ℕ)
      → ((j : ℕ) → j ≢ k → is_busy (task ws j).operation ≡ true → DisturbsIn T M' (task ws j) (f j))
      → Disturbs e.task.step T (task ws k).side m' e.task (f k)
      → (j : ℕ)
      → is_busy (task after j).operation ≡ true
      → DisturbsIn (task_count after) (viewed right after) (task after j) (f j)
  disturb-after f others own =
      each_after (λ S T gr m t n. DisturbsIn T m t n) f others
      (in_after agrees k h passes (λ S T gr m t. DisturbsIn T m t (f k)) k (own-after agrees k h passes)
      (own-side agrees k h passes (λ z m. Disturbs e.task.step T z m e.task (f k)) same own))

  hats-after : (f : ℕ → Side → ℕ) → ((l : ℕ) → l < lane_count ws → (z : Side) → HatDisturbs l z (view z M') (f l z))
      → (l : ℕ)
      → l < lane_count after
      → (z : Side)
      → HatDisturbs l z (view z (viewed right after)) (f l z)
  hats-after f b l is_lane z =
      in_after agrees k h passes (λ S T gr m t. HatDisturbs l z (view z m) (f l z)) k (own-after agrees k h passes)
      (b l (subst (λ (n : ℕ). l < n) (lanes-after agrees k h passes) is_lane) z)

  -- The tasks that are idle were idle, and are others.
  idle-after : (f g : ℕ → ℕ) (c : ℕ)
      → ((j : ℕ) → j ≢ k → is_busy (task ws j).operation ≡ false → (suc T ≤ f j) × (g j ≡ c))
      → (j : ℕ)
      → is_busy (task after j).operation ≡ false
      → (suc (task_count after) ≤ f j) × (g j ≡ c)
  idle-after f g c others j idle_now =
      let same_count = task-count-after agrees k h passes in
      elim (equal? j k) [
        | inl q ↦
            let busy = own-busy agrees k h passes same in
            let e : is_busy (task after k).operation ≡ false =
            subst (λ (i : ℕ). is_busy (task after i).operation ≡ false) q idle_now in
            clash (cc)
        | inr ne ↦
            let b = others j ne
            (sym (ap (λ (t : Task). is_busy t.operation) (other_after agrees k h passes j ne)) ∙ idle_now) in
            (omega (arith, b.0), b.1)
      ]

  -- The sums are over the same tasks, and the same lanes.
  over-after : (F : ℕ → Type 0) → F T → F (task_count after)
  over-after F b = subst F (sym (task-count-after agrees k h passes)) b

  over-lanes : (F : ℕ → Type 0) → F (lane_count ws) → F (lane_count after)
  over-lanes F b = subst F (sym (lanes-after agrees k h passes)) b

  -- ---- Disturbances: the ticks are counted anew.
  afresh : {D' : ℕ} → suc D' ≤ D → (f : ℕ → ℕ) (hats : ℕ → Side → ℕ)
      → ((j : ℕ) → j ≢ k → Φ.d j ≤ f j)
      → ((j : ℕ) → j ≢ k → is_busy (task ws j).operation ≡ true → DisturbsIn T M' (task ws j) (f j))
      → Disturbs e.task.step T (task ws k).side m' e.task (f k)
      → ((l : ℕ) → l < lane_count ws → (z : Side) → HatDisturbs l z (view z M') (hats l z))
      → sum T f + sum (lane_count ws) (both_hats hats) ≤ D'
      → Falls after D P
  afresh {D'} less f hats as_many others own hats-then few =
      disturbances-fall less
      (record {
        d = f;
        hats = hats;
        p = λ _. most 2 (node_count after);
        may-disturb = disturb-after f others own;
        hats-move = hats-after hats hats-then;
        patience = patient-first (led-ticked led k h);
        idle-yet =
            idle-after f (λ _. most 2 (node_count after)) (most 2 (node_count after))
            (λ j ne i. (omega (arith, (Φ.idle-yet j i).0, as_many j ne), refl));
        few-disturbances =
            over-after (λ (n : ℕ). sum n f + sum (lane_count after) (both_hats hats) ≤ D')
            (over-lanes (λ (n : ℕ). sum T f + sum n (both_hats hats) ≤ D') few);
        few-ticks = few-first (led-ticked led k h);
      })

  module _ (W : BothSteady (lane_count ws) (task ws k).side (opposite (task ws k).side) m m') where
    hats-steady : (l : ℕ) → l < lane_count ws → (z : Side) → HatDisturbs l z (view z M') (Φ.hats l z)
    hats-steady l q z =
        hat-stays (steady-view (task ws k).side z (viewed right ws) m' W l q) (Φ.hats-move l q z)

    -- A cut.
    cut-falls : suc T ≤ Φ.d k → Disturbs e.task.step T (task ws k).side m' e.task 1 → Falls after D P
    cut-falls paid own =
        let f : ℕ → ℕ = update (λ j. suc (Φ.d j)) k 1 in
        let fewer = sum-update T (λ j. suc (Φ.d j)) k 1 (suc T) is_task (omega arith) in
        let all = sum-suc T Φ.d in
        let had = Φ.few-disturbances in
        afresh {D' = D - 1} (omega arith) f Φ.hats
        (λ j ne.
        let same-d : update (λ i. suc (Φ.d i)) k 1 j ≡ suc (Φ.d j) = update_other (λ i. suc (Φ.d i)) k 1 j ne in
        omega arith)
        (λ j ne busy.
        let same-d : update (λ i. suc (Φ.d i)) k 1 j ≡ suc (Φ.d j) = update_other (λ i. suc (Φ.d i)) k 1 j ne in
        steady-others led k h passes j T (Φ.d j) (f j) (omega arith)
        (steady-view (task ws k).side (task ws j).side (viewed right ws) m' W (task ws j).lane
        (agrees.invariant.own_lane j))
        (inr (omega arith))
        (Φ.may-disturb j busy))
        (subst (λ (n : ℕ). Disturbs e.task.step T (task ws k).side m' e.task n)
        (sym (update_same (λ j. suc (Φ.d j)) k 1)) own)
        hats-steady (omega arith)

    module _ (U : BothNoCut (lane_count ws) (keeps ws) led.agrees.class
        (task ws k).side (opposite (task ws k).side) m m') where
      others-steady : (d' : ℕ) (j : ℕ) → Φ.d j ≤ d' → is_busy (task ws j).operation ≡ true
          → DisturbsIn T M' (task ws j) d'
      others-steady d' j le busy =
          steady-others led k h passes j T (Φ.d j) d' le
          (steady-view (task ws k).side (task ws j).side (viewed right ws) m' W (task ws j).lane
          (agrees.invariant.own_lane j))
          (inl (no-cut-view (task ws k).side (task ws j).side (viewed right ws) m' U (task ws j).lane
          (agrees.invariant.own_lane j)))
          (Φ.may-disturb j busy)

      -- Another disturbance of the task.
      disturb-falls : {i : ℕ} → suc i ≡ Φ.d k → Disturbs e.task.step T (task ws k).side m' e.task i
          → Falls after D P
      disturb-falls {i} paid own =
          let f : ℕ → ℕ = update Φ.d k i in
          let fewer = sum-update T Φ.d k i 1 is_task (omega arith) in
          let had = Φ.few-disturbances in
          afresh {D' = D - 1} (omega arith) f Φ.hats
          (λ j ne. let same-d : update Φ.d k i j ≡ Φ.d j = update_other Φ.d k i j ne in omega arith)
          (λ j ne busy.
          let same-d : update Φ.d k i j ≡ Φ.d j = update_other Φ.d k i j ne in
          others-steady (f j) j (omega arith) busy)
          (subst (λ (n : ℕ). Disturbs e.task.step T (task ws k).side m' e.task n)
          (sym (update_same Φ.d k i)) own)
          hats-steady (omega arith)

      -- The hat moves off Y.
      move-falls : m.val (m.hats (task ws k).lane (task ws k).side) ≡ Y (task ws k).side
          → m'.val (m'.hats (task ws k).lane (task ws k).side) ≢ Y (task ws k).side
          → Disturbs e.task.step T (task ws k).side m' e.task (Φ.d k)
          → Falls after D P
      move-falls on-Y off own =
          let s = (task ws k).side in
          let ℓ = (task ws k).lane in
          let is_lane = agrees.invariant.own_lane k in
          let fewer =
          fewer-hats (lane_count ws) ℓ s Φ.hats is_lane
          (hat-had ℓ s (view s (viewed right ws)) on-Y (Φ.hats-move ℓ is_lane s)) in
          let had = Φ.few-disturbances in
          afresh {D' = D - 1} (omega arith) Φ.d (update_hat Φ.hats ℓ s 0) (λ j ne. omega arith)
          (λ j ne busy. others-steady (Φ.d j) j (omega arith) busy) own
          (hat-moved (lane_count ws) ℓ s m' Φ.hats off hats-steady) (omega arith)

  -- ---- Calm ticks: the task has one tick less, and the others have as many.
  calm-falls : Calm (keeps ws) led.agrees.class m m'
      → Disturbs e.task.step T (task ws k).side m' e.task (Φ.d k)
      → Falls after D P
  calm-falls C own-d =
      let then = continues 2 led k h (Φ.p k) passes (record { left = Φ.patience k busy-now }) going in
      let some = then.some in
      let v : ℕ = Φ.p k - 1 in
      let p' : ℕ → ℕ = update Φ.p k v in
      let fewer = sum-update T Φ.p k v 1 is_task (omega arith) in
      let few = Φ.few-ticks in
      let Calmly : (j n : ℕ) → Type 0 =
      λ j n. CalmlyLeft (node_count after) (growth after) (viewed right after) (task after j) n in
      ticks-fall {P' = P - 1} (omega arith)
      (record {
        d = Φ.d;
        hats = Φ.hats;
        p = p';
        may-disturb =
            disturb-after Φ.d
            (λ j ne busy. calm-others led k h passes j C T (Φ.d j) (Φ.may-disturb j busy)) own-d;
        hats-move =
            hats-after Φ.hats
            (λ l q z. calm-hats led k h passes C l q z (Φ.hats l z) (Φ.hats-move l q z));
        patience =
            each_after (λ S T gr m t n. CalmlyLeft S gr m t n) p'
            (λ j ne busy.
            subst (λ (n : ℕ). CalmlyLeft (node_count ws) (growth ws) M' (task ws j) n)
            (sym (update_other Φ.p k v j ne))
            (patient-others led k h passes j C (Φ.p j) (Φ.patience j busy)))
            (subst (Calmly k) (sym (update_same Φ.p k v)) then.left_after.left);
        idle-yet =
            idle-after Φ.d p' (most 2 (node_count after))
            (λ j ne i.
            let b = Φ.idle-yet j i in
            let same_nodes = nodes-after agrees k h passes in
            (b.0, update_other Φ.p k v j ne ∙ b.1 ∙ ap (most 2) (sym same_nodes)));
        few-disturbances =
            over-after (λ (n : ℕ). sum n Φ.d + sum (lane_count after) (both_hats Φ.hats) ≤ D)
            (over-lanes (λ (n : ℕ). sum T Φ.d + sum n (both_hats Φ.hats) ≤ D) Φ.few-disturbances);
        few-ticks = over-after (λ (n : ℕ). sum n p' ≤ P - 1) (omega arith);
      })

  by-outcome : TickProgress T (lane_count ws) (keeps ws) led.agrees.class (task ws k).lane (task ws k).side
      (opposite (task ws k).side) m (Φ.d k) (effect_of ws k h)
      → Falls after D P
  by-outcome (ends ne) = absurd (ne going)
  by-outcome (is-calm C b) = calm-falls C b
  by-outcome (cuts W l b) = cut-falls W l b
  by-outcome (disturbs W U q b) = disturb-falls W U q b
  by-outcome (moves W U y off b) = move-falls W U y off b

  falls : Falls after D P
  falls = by-outcome (outcome led k h passes T (Φ.d k) (Φ.may-disturb k busy-now))

-- Every tick that goes on lowers the potential.
pub potential-falls : {ws : List ℕ} (led : Led ws) (k h : ℕ) (passes : tick_refusal ws k h ≡ none) {D P : ℕ}
    → Potential ws D P
    → (effect_of ws k h).answer ≡ Going
    → Falls (tick_on ws k h).words D P
potential-falls {ws} led k h passes {D} {P} Φ going = go (keeps-invariant led.agrees k h passes).kept
  where
    go : Kept (task ws k) (effect_of ws k h) → Falls (tick_on ws k h).words D P
    go (goes_on a same) = falls led k h passes Φ going same
    go (has_answered ne fresh-now) = absurd (ne going)
