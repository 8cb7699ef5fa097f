-- Some call answers: as long as no tick answers, each tick that is made lowers the potential of the table.
use mathlib.Core.Path.{◌≡◌, refl, sym, ap, ◌∙◌, subst}
use mathlib.Core.List.{List}
use mathlib.Core.Option.{Option, some, none}
use Prim.Native.Nat.{ℕ, zero, suc, ◌+◌, ◌*◌, ◌≤◌, ◌<◌}
use native.Mathlib.Omega.{arith}
use Rattle.machine.specs.Outcomes.Answer.{Going, Refused}
use Rattle.machine.specs.Outcomes.Dispatch.{Answered}
use Rattle.machine.specs.Table.{node_count, task_count, lane_count, set_dispatched}
use Rattle.machine.specs.Answers.{refusal_of, dispatch_refusal_of}
use Rattle.machine.specs.Calls.{
  tick_refusal,
  begin,
  effect_of,
  Ticked,
  tick_on,
  tick,
  next_busy,
  Dispatched,
  dispatch,
}
use Rattle.machine.specs.Demand3.{begin_call, tick_call, dispatch_call}
use Rattle.machine_progress.specs.LockFree.{
  Move,
  AnswerFree,
  no_more,
  going,
  refused,
  dispatched,
  dispatch-refused,
  idle,
  begun,
  too_many_ticks,
  LockFree,
  LockFreeWhereKnown,
}
use Rattle.machine.proofs.Basics.Contradiction.{clash}
use Rattle.machine.proofs.Shape.ShapeLaws.{well_sized}
use Rattle.machine.proofs.Shape.DispatchCases.{by_dispatch}
use Rattle.machine.proofs.Words.TickLaws.{tick-stopped, tick-answer}
use Rattle.machine.proofs.Linearizability.Corollaries.{tick-passes, ticked-sized}
use Rattle.machine.proofs.Linearizability.Calls.MadeTicks.{effect-made}
use Rattle.machine.proofs.Linearizability.Begun.TableAfter.{nodes-after, task-count-after}
use Rattle.machine_progress.proofs.SoloBound.Led.{Led, begun-led, led-call, where-led}
use Rattle.machine_progress.proofs.SoloBound.Budget.{walk_ticks}
use Rattle.machine_progress.proofs.SoloBound.AtFirst.{most}
use Rattle.machine_progress.proofs.LockFree.Potential.{
  Potential,
  potential-first,
  Falls,
  ticks-fall,
  disturbances-fall,
  potential-falls,
}
use Rattle.machine_progress.proofs.LockFree.DispatchKeeps.{
  dispatched-nodes,
  dispatched-tasks,
  dispatched-keeps,
  refused-stays,
  idle-stays,
}
use Rattle.machine_progress.proofs.LockFree.BeginKeeps.{begin-nodes, begin-tasks, begin-keeps}

-- The ticks that the potential allows for each disturbance, and one for the disturbance.
abbrev each : (S T : ℕ) → ℕ
each S T = suc (T * most 2 S)

-- The ticks that a potential allows.
abbrev allows : (S T D P : ℕ) → ℕ
allows S T D P = D * each S T + P

pub times-less : (D' D c : ℕ) → suc D' ≤ D → D' * c + c ≤ D * c
times-less D' zero c h = absurd (omega arith)
times-less zero (suc D) c h = omega arith
times-less (suc D') (suc D) c h = omega (arith, times-less D' D c (omega arith))

-- ---- A tick: made, or refused before its line.
module _ {ws : List ℕ} (X : Led ws) (k h : ℕ) where
  abbrev after : List ℕ
  after = (tick_on ws k h).words

  -- The potential afterwards allows fewer ticks.
  fewer : tick_refusal ws k h ≡ none → {D P n : ℕ} → Falls after D P
      → ((D' P' : ℕ) → Potential after D' P' → n ≤ allows (node_count after) (task_count after) D' P')
      → suc n ≤ allows (node_count ws) (task_count ws) D P
  fewer p {D} {P} {n} (ticks-fall {P'} less Φ) others =
      let same_nodes = nodes-after X.agrees k h p in
      let same_tasks = task-count-after X.agrees k h p in
      let same-each : each (node_count after) (task_count after) ≡ each (node_count ws) (task_count ws) = cc in
      let l = subst (λ (c : ℕ). n ≤ D * c + P') same-each (others D P' Φ) in
      omega arith
  fewer p {D} {P} {n} (disturbances-fall {D'} less Φ) others =
      let same_nodes = nodes-after X.agrees k h p in
      let same_tasks = task-count-after X.agrees k h p in
      let same-each : each (node_count after) (task_count after) ≡ each (node_count ws) (task_count ws) = cc in
      let l = others D' (task_count after * most 2 (node_count after)) Φ in
      let q = times-less D' D (each (node_count after) (task_count after)) less in
      let r : D * each (node_count after) (task_count after) ≡ D * each (node_count ws) (task_count ws) =
      ap (λ (c : ℕ). D * c) same-each in
      omega arith

  is_tick : tick ws k h ≡ tick_on ws k h
  is_tick = tick-passes X.agrees k h

  -- A tick that says "going" was made.
  made-goes : {D P n : ℕ} → Potential ws D P → (tick_on ws k h).answer ≡ Going
      → ((D' P' : ℕ) → Potential after D' P' → n ≤ allows (node_count after) (task_count after) D' P')
      → suc n ≤ allows (node_count ws) (task_count ws) D P
  made-goes {D} {P} {n} Φ goes others = go (tick_refusal ws k h) refl
    where
      go : (r : Option ℕ) → tick_refusal ws k h ≡ r → suc n ≤ allows (node_count ws) (task_count ws) D P
      go (some r) e = clash (cc (ap (λ (x : Ticked). x.answer) (tick-stopped ws k h e)))
      go none p = fewer p (potential-falls X k h p Φ (sym (tick-answer ws k h p) ∙ goes)) others

  -- A tick that is refused was refused before its line, so the table is as it was.
  none_made : {r : ℕ} → (tick_on ws k h).answer ≡ Refused r → (tick_on ws k h).words ≡ ws
  none_made {r} is-no = go (tick_refusal ws k h) refl
    where
      go : (x : Option ℕ) → tick_refusal ws k h ≡ x → (tick_on ws k h).words ≡ ws
      go (some x) e = ap (λ (y : Ticked). y.words) (tick-stopped ws k h e)
      go none p =
          let made = effect-made X.agrees k h p in
          let q : (effect_of ws k h).answer ≡ Refused r = sym (tick-answer ws k h p) ∙ is-no in
          let u : refusal_of (effect_of ws k h).answer ≡ some r = ap refusal_of q in
          clash (cc)

-- ---- A dispatch that says "going" is such a tick.
module _ {ws : List ℕ} (X : Led ws) (h : ℕ) where
  dispatch-goes : {D P n : ℕ} → Potential ws D P → (dispatch ws h).answer ≡ Answered Going
      → ((D' P' : ℕ)
      → Potential (dispatch ws h).words D' P'
      → n ≤ allows (node_count (dispatch ws h).words) (task_count (dispatch ws h).words) D' P')
      → suc n ≤ allows (node_count ws) (task_count ws) D P
  dispatch-goes {D} {P} {n} Φ =
      by_dispatch ws X.agrees.accepted h Goes (λ e. clash (cc)) (λ _ e. clash (cc))
      (λ k m _ q e. clash (cc (ap dispatch_refusal_of e))) made
    where
      Goes : Dispatched → Type 0
      Goes r =
          r.answer ≡ Answered Going
          → ((D' P' : ℕ) → Potential r.words D' P' → n ≤ allows (node_count r.words) (task_count r.words) D' P')
          → suc n ≤ allows (node_count ws) (task_count ws) D P

      made : (k : ℕ) → next_busy ws ≡ some k → tick_refusal ws k h ≡ none
          → refusal_of (tick_on ws k h).answer ≡ none
          → Goes (record { answer = Answered (tick_on ws k h).answer; words = set_dispatched k (tick_on ws k h).words })
      made k _ _ _ e others =
          let vs = (tick_on ws k h).words in
          let sized = ticked-sized X.agrees k h in
          let goes : (tick_on ws k h).answer ≡ Going = cc in
          made-goes X k h Φ goes (λ D' P' Φ'.
          rw (dispatched-nodes vs sized k, dispatched-tasks vs sized k) at
          (others D' P' (dispatched-keeps vs sized k Φ')))

-- ---- The stretch.
allowed : (n : ℕ) (moves : List Move) (ws : List ℕ) (D P : ℕ) → Led ws → Potential ws D P → AnswerFree n moves ws
    → n ≤ allows (node_count ws) (task_count ws) D P
allowed n moves ws D P X Φ no_more = omega arith
allowed n moves ws D P X Φ (going {n = i} {k = k} {h = h} {moves = l} e rest) =
    let t = is_tick X k h in
    made-goes X k h Φ (sym (ap (λ (r : Ticked). r.answer) t) ∙ e) (λ D' P'.
    subst (λ (r : Ticked). Potential r.words D' P' → i ≤ allows (node_count r.words) (task_count r.words) D' P')
    t
    (λ Φ'. allowed i l (tick ws k h).words D' P' (led-call X (tick_call k h)) Φ' rest))
allowed n moves ws D P X Φ (refused {n = i} {k = k} {h = h} {moves = l} e rest) =
    let t = is_tick X k h in
    let same : (tick ws k h).words ≡ ws =
    ap (λ (r : Ticked). r.words) t ∙ none_made X k h (sym (ap (λ (r : Ticked). r.answer) t) ∙ e) in
    subst (λ (x : List ℕ). Potential x D P → i ≤ allows (node_count x) (task_count x) D P) same
    (λ Φ'. allowed i l (tick ws k h).words D P (led-call X (tick_call k h)) Φ' rest) Φ
allowed n moves ws D P X Φ (dispatched {n = i} {h = h} {moves = l} e rest) =
    dispatch-goes X h Φ e (λ D' P' Φ'. allowed i l (dispatch ws h).words D' P' (led-call X (dispatch_call h)) Φ' rest)
allowed n moves ws D P X Φ (dispatch-refused {n = i} {h = h} {moves = l} e rest) =
    subst (λ (x : List ℕ). Potential x D P → i ≤ allows (node_count x) (task_count x) D P) (refused-stays X h e)
    (λ Φ'. allowed i l (dispatch ws h).words D P (led-call X (dispatch_call h)) Φ' rest) Φ
allowed n moves ws D P X Φ (idle {n = i} {h = h} {moves = l} e rest) =
    subst (λ (x : List ℕ). Potential x D P → i ≤ allows (node_count x) (task_count x) D P) (idle-stays X h e)
    (λ Φ'. allowed i l (dispatch ws h).words D P (led-call X (dispatch_call h)) Φ' rest) Φ
allowed n moves ws D P X Φ
    (begun {n = i} {k = k} {l = j} {op = op} {side = side} {argument = argument} {moves = l} rest) =
    let c = begin_call k j op side argument in
    let same_nodes = begin-nodes X k j op side argument in
    let same_tasks = begin-tasks X k j op side argument in
    subst (λ (S : ℕ). i ≤ allows S (task_count ws) D P) same_nodes
    (subst (λ (T : ℕ). i ≤ allows (node_count (begin ws k j op side argument).words) T D P) same_tasks
    (allowed i l (begin ws k j op side argument).words D P (led-call X c) (begin-keeps X k j op side argument Φ) rest))

pub walk-calm : (S : ℕ) → walk_ticks 2 S ≡ 6 * S
walk-calm zero = refl
walk-calm (suc S) = omega (arith, walk-calm S)

-- Some call answers.
lock-free-led : (ws : List ℕ) → Led ws → (n : ℕ) (moves : List Move) → AnswerFree n moves ws
    → n < too_many_ticks (node_count ws) (task_count ws) (lane_count ws)
lock-free-led ws X n moves quiet =
    let T = task_count ws in
    let L = lane_count ws in
    let some-task : 1 ≤ T = (well_sized ws X.agrees.accepted.length_passes).one_task in
    let l = allowed n moves ws (T * suc T + L * 2) (T * most 2 (node_count ws)) X (potential-first X some-task) quiet in
    let few =
    subst (λ (w : ℕ). n ≤ (T * suc T + L * 2) * suc (T * (w + 153)) + T * (w + 153)) (walk-calm (node_count ws)) l in
    omega arith

pub lock-free : LockFree
lock-free ws B = lock-free-led ws (begun-led B)

-- 2026-10, 2026-14: where a row is known.
pub lock-free-where-known : LockFreeWhereKnown
lock-free-where-known = where-led lock-free-led
