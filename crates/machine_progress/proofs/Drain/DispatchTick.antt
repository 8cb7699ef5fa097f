-- One dispatch with a hint below S: "idle", or the tick of a busy task, and what it leaves of the potential.
use mathlib.Core.Path.{◌≡◌, refl, sym, ap, ◌∙◌, subst}
use mathlib.Core.Logic.{◌≢◌, inl, inr}
use mathlib.Core.Bool.{Bool, true, false}
use mathlib.Core.List.{List}
use mathlib.Core.Option.{Option, some, none}
use Prim.Native.Nat.{ℕ, zero, suc, ◌+◌, ◌*◌, ◌-◌, ◌≤◌, ◌<◌}
use native.Mathlib.Omega.{arith}
use borrow.Author.Tests.{lt-ltb}
use Rattle.machine.specs.Outcomes.Answer.{Going}
use Rattle.machine.specs.Outcomes.Dispatch.{Idle, Answered}
use Rattle.machine.specs.Sides.{right}
use Rattle.machine.specs.Tasks.{Task}
use Rattle.machine.specs.Table.{node_count, task_count, lane_count, dispatched, task, set_dispatched}
use Rattle.machine.specs.Answers.{refusal_of}
use Rattle.machine.specs.Calls.{
  is_busy,
  is_busy_task,
  tick_refusal,
  dispatch_refusal,
  effect_of,
  tick_on,
  next_busy,
  Dispatched,
  dispatch_to,
  dispatch_on,
  dispatch,
}
use Rattle.machine_progress.specs.Drain.{busy_below, busy_tasks}
use Rattle.machine.proofs.Basics.Contradiction.{clash, equal?}
use Rattle.machine.proofs.Basics.Rounds.{finds-next}
use Rattle.machine.proofs.Words.EffectLaws.{viewed-set-dispatched, task-set-dispatched}
use Rattle.machine.proofs.Words.TickLaws.{tick-answer}
use Rattle.machine.proofs.Shape.ShapeLaws.{well-shaped}
use Rattle.machine.proofs.Shape.TickKeeps.{tick-allowed, busy-is-task, busy-passes}
use Rattle.machine.proofs.Shape.DispatchCases.{chosen-busy}
use Rattle.machine.proofs.Linearizability.Model.Invariant.{Kept, goes_on, has_answered}
use Rattle.machine.proofs.Linearizability.Calls.Agreement.{Agrees}
use Rattle.machine.proofs.Linearizability.Calls.MadeTicks.{effect-made, keeps-invariant}
use Rattle.machine.proofs.Linearizability.Corollaries.{ticked-sized}
use Rattle.machine.proofs.Linearizability.Begun.TableAfter.{
  own-after,
  other_after,
  nodes-after,
  task-count-after,
  lanes-after,
  own-busy,
}
use Rattle.machine_progress.proofs.SoloBound.Led.{Led}
use Rattle.machine_progress.proofs.SoloBound.AtFirst.{most}
use Rattle.machine_progress.proofs.LockFree.Potential.{
  Potential,
  Falls,
  ticks-fall,
  disturbances-fall,
  potential-falls,
}
use Rattle.machine_progress.proofs.LockFree.DispatchKeeps.{
  dispatched-nodes,
  dispatched-tasks,
  dispatched-lanes,
  dispatched-growth,
  dispatched-keeps,
}
use Rattle.machine_progress.proofs.LockFree.Theorem.{times-less}
use Rattle.machine_progress.proofs.SoloBound.SoloTick.{LeftIn, continues}
use Rattle.machine_progress.proofs.Drain.BusyTasks.{busy-same, busy-fewer, idle-sum}

-- ---- What a potential allows where some tasks are idle: their shares, which nobody uses, are taken away.
idle-shares : (ws : List ℕ) {D P : ℕ} → Potential ws D P → (i : ℕ) → busy_tasks ws + i ≡ task_count ws
    → (i * suc (task_count ws) ≤ D) × (i * most 2 (node_count ws) ≤ P)
idle-shares ws Φ i count =
    let d = idle-sum ws (task_count ws) (suc (task_count ws)) Φ.d (λ j b. (Φ.idle-yet j b).0) i count in
    let p =
    idle-sum ws (task_count ws) (most 2 (node_count ws)) Φ.p
    (λ j b. let e = (Φ.idle-yet j b).1 in omega arith) i count in
    (omega (arith, d, Φ.few-disturbances), omega (arith, p, Φ.few-ticks))

pub times-add : (b i T c : ℕ) → b + i ≡ T → T * c ≡ b * c + i * c
times-add zero i T c e = let q : i ≡ T = omega arith in rw q (omega arith)
times-add (suc b) i zero c e = absurd (omega arith)
times-add (suc b) i (suc T) c e = let rest = times-add b i T c (omega arith) in omega arith

-- The ticks that a potential allows to b tasks, where i are idle.
abbrev pub allows_of : (S T b i D P : ℕ) → ℕ
allows_of S T b i D P = (D - i * suc T) * suc (b * most 2 S) + (P - i * most 2 S)

-- ---- A dispatch with a hint below S.
module _ {ws : List ℕ} (X : Led ws) (h : ℕ) (low : h < node_count ws) where
  A : Agrees ws X.row
  A = X.agrees

  hint-passes : dispatch_refusal ws h ≡ none
  hint-passes = rw (A.accepted.length_passes, A.accepted.shape_passes, lt-ltb h (node_count ws) low) refl

  -- It is idle with no task in a call, or the tick of a busy task.
  pub data Does (r : Dispatched) : Type 0 where
    is-idle : r.answer ≡ Idle → ((k : ℕ) → is_busy_task ws k ≡ false) → Does r
    is_tick :
        (k : ℕ)
        → next_busy ws ≡ some k
        → tick_refusal ws k h ≡ none
        → r.answer ≡ Answered (tick_on ws k h).answer
        → r.words ≡ set_dispatched k (tick_on ws k h).words
        → Does r

  -- No task is busy where none is found.
  none-busy : next_busy ws ≡ none → (k : ℕ) → is_busy_task ws k ≡ false
  none-busy e k = go (is_busy_task ws k) refl
    where
      go : (b : Bool) → is_busy_task ws k ≡ b → is_busy_task ws k ≡ false
      go false q = q
      go true q =
          let W = well-shaped ws A.accepted.length_passes A.accepted.shape_passes in
          (finds-next (task_count ws) (is_busy_task ws) (dispatched ws) W.counts-ok.is_task).1 e k
          (busy-is-task ws k q)

  pub dispatch-does : Does (dispatch ws h)
  unfolding dispatch dispatch_on dispatch_to
  dispatch-does = rw (hint-passes, dispatch) (chosen (next_busy ws) refl)
    where
      ticked : (k : ℕ) → next_busy ws ≡ some k → tick_refusal ws k h ≡ none → (r : Option ℕ)
          → refusal_of (tick_on ws k h).answer ≡ r
          → Does (dispatch_to ws k h)
      ticked k e p none q = rw (q, dispatch_to) (is_tick k e p refl refl)
      ticked k e p (some n) q = clash (cc (effect-made A k h p, ap refusal_of (tick-answer ws k h p)))

      chosen : (o : Option ℕ) → next_busy ws ≡ o → Does (dispatch_on ws h)
      chosen none e = rw (e, dispatch_on) (is-idle refl (none-busy e))
      chosen (some k) e =
          rw (e, dispatch_on)
          (ticked k e (busy-passes ws k h (chosen-busy ws A.accepted h e) low) (refusal_of (tick_on ws k h).answer)
          refl)

-- ---- The table after the tick of a dispatch.
module _ {ws : List ℕ} (X : Led ws) (k h : ℕ) (p : tick_refusal ws k h ≡ none) where
  abbrev us : List ℕ
  us = (tick_on ws k h).words

  abbrev vs : List ℕ
  vs = set_dispatched k (tick_on ws k h).words

  agrees : Agrees ws X.row
  agrees = X.agrees

  pub nodes-then : node_count vs ≡ node_count ws
  nodes-then = dispatched-nodes us (ticked-sized agrees k h) k ∙ nodes-after agrees k h p

  pub tasks-then : task_count vs ≡ task_count ws
  tasks-then = dispatched-tasks us (ticked-sized agrees k h) k ∙ task-count-after agrees k h p

  pub lanes-then : lane_count vs ≡ lane_count ws
  lanes-then = dispatched-lanes us (ticked-sized agrees k h) k ∙ lanes-after agrees k h p

  busy-then : (j : ℕ) → is_busy_task vs j ≡ is_busy_task us j
  busy-then j = ap (λ (f : ℕ → Task). is_busy (f j).operation) (task-set-dispatched us (ticked-sized agrees k h) k)

  others-then : (j : ℕ) → j ≢ k → is_busy_task vs j ≡ is_busy_task ws j
  others-then j ne = busy-then j ∙ ap (λ (t : Task). is_busy t.operation) (other_after agrees k h p j ne)

  busy-now : is_busy_task ws k ≡ true
  busy-now = (tick-allowed ws k h p).2

  -- A tick that goes on.
  module _ (goes : (effect_of ws k h).answer ≡ Going) where
    pub own-then : is_busy_task vs k ≡ true
    own-then = busy-then k ∙ go (keeps-invariant agrees k h p).kept
      where
        go : Kept (task ws k) (effect_of ws k h) → is_busy_task us k ≡ true
        go (has_answered ne fresh-now) = absurd (ne goes)
        go (goes_on a same) = own-busy agrees k h p same

    pub as_many : busy_tasks vs ≡ busy_tasks ws
    as_many =
        ap (busy_below vs) tasks-then
        ∙ busy-same vs ws (task_count ws) (λ j _.
        elim (equal? j k) [
          | inl e ↦ ap (is_busy_task vs) e ∙ own-then ∙ sym busy-now ∙ ap (is_busy_task ws) (sym e)
          | inr ne ↦ others-then j ne
        ])

    -- The potential afterwards allows fewer ticks, where c tasks are in a call and i are not.
    pub record Fewer (c i D P : ℕ) : Type 0 where
      pub D' : ℕ
      pub P' : ℕ
      pub potential : Potential vs D' P'
      pub less : suc (allows_of (node_count ws) (task_count ws) c i D' P') ≤ allows_of (node_count ws) (task_count ws) c i D P

    pub dispatch-fewer : {c i D P : ℕ} → busy_tasks ws ≡ c → c + i ≡ task_count ws → Potential ws D P → Fewer c i D P
    dispatch-fewer {c} {i} {D} {P} many count Φ = go (potential-falls X k h p Φ goes)
      where
        keep : {D' P' : ℕ} → Potential us D' P' → Potential vs D' P'
        keep Ψ = dispatched-keeps us (ticked-sized agrees k h) k Ψ

        -- The shares of the idle tasks stay.
        shares : {D' P' : ℕ} → Potential vs D' P'
            → (i * suc (task_count ws) ≤ D') × (i * most 2 (node_count ws) ≤ P')
        shares {D'} {P'} Ψ =
            let b = idle-shares vs Ψ i (ap (λ (n : ℕ). n + i) (as_many ∙ many) ∙ count ∙ sym tasks-then) in (
              subst (λ (n : ℕ). i * suc n ≤ D') tasks-then b.0,
              subst (λ (n : ℕ). i * most 2 n ≤ P') nodes-then b.1,
            )

        go : Falls us D P → Fewer c i D P
        go (ticks-fall {P'} less Ψ) =
            let b = shares (keep Ψ) in
            let low = b.1 in
            record { D' = D; P' = P'; potential = keep Ψ; less = omega arith }
        go (disturbances-fall {D'} less Ψ) =
            let same_nodes = nodes-after agrees k h p in
            let same_tasks = task-count-after agrees k h p in
            let same : task_count us * most 2 (node_count us) ≡ task_count ws * most 2 (node_count ws) = cc in
            let b = shares (keep Ψ) in
            let low = b.0 in
            let split = times-add c i (task_count ws) (most 2 (node_count ws)) count in
            let D₁ : ℕ = D' - i * suc (task_count ws) in
            let D₂ : ℕ = D - i * suc (task_count ws) in
            let q = times-less D₁ D₂ (suc (c * most 2 (node_count ws))) (omega arith) in
            record {
              D' = D';
              P' = task_count us * most 2 (node_count us);
              potential = keep Ψ;
              less = omega arith;
            }

    -- A task alone has one tick less.
    pub left-then : {n : ℕ} → LeftIn 0 ws k n → (1 ≤ n) × LeftIn 0 vs k (n - 1)
    left-then {n} l =
        let C = continues 0 X k h n p l goes in
        let sized = ticked-sized agrees k h in (
          C.some,
          record {
            left =
                rw (
                  dispatched-nodes us sized k,
                  dispatched-growth us sized k,
                  viewed-set-dispatched us sized k right,
                  task-set-dispatched us sized k,
                )
                C.left_after.left;
          },
        )

  -- A tick that answers.
  module _ (ends : (effect_of ws k h).answer ≢ Going) where
    own-ended : is_busy_task vs k ≡ false
    own-ended = busy-then k ∙ go (keeps-invariant agrees k h p).kept
      where
        go : Kept (task ws k) (effect_of ws k h) → is_busy_task us k ≡ false
        go (has_answered ne fresh-now) =
            ap (λ (t : Task). is_busy t.operation) (own-after agrees k h p ∙ fresh-now)
        go (goes_on a same) = absurd (ends a)

    pub one_less : busy_tasks ws ≡ suc (busy_tasks vs)
    one_less =
        busy-fewer vs ws k (task_count ws) (tick-allowed ws k h p).0 busy-now own-ended others-then
        ∙ ap (λ (n : ℕ). suc (busy_below vs n)) (sym tasks-then)
