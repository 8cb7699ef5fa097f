-- The cabinet drains: a dispatch that goes on lowers the potential, and one that answers leaves a task less in a call.
use mathlib.Core.Path.{◌≡◌, refl, sym, ap, ◌∙◌, subst}
use mathlib.Core.Logic.{◌≢◌}
use mathlib.Core.Bool.{true}
use mathlib.Core.List.{List, [], ◌∷◌}
use mathlib.Core.Option.{none}
use Prim.Native.Nat.{ℕ, zero, suc, ◌+◌, ◌*◌, ◌-◌, ◌≤◌, ◌<◌}
use native.Mathlib.Omega.{arith}
use lib.ListN.{length}
use Rattle.machine.specs.Outcomes.Answer.{Going}
use Rattle.machine.specs.Outcomes.Dispatch.{Answered}
use Rattle.machine.specs.Table.{node_count, task_count, lane_count, set_dispatched}
use Rattle.machine.specs.Answers.{ends_call}
use Rattle.machine.specs.Calls.{is_busy_task, tick_refusal, effect_of, tick_on, dispatch}
use Rattle.machine.specs.Demand3.{dispatch_call}
use Rattle.machine_progress.specs.Solo.{HintsBelow}
use Rattle.machine_progress.specs.LockFree.{too_many_ticks}
use Rattle.machine_progress.specs.Drain.{
  busy_tasks,
  Drained,
  idle_now,
  goes_on,
  answers,
  Drains,
  busy_ticks,
  drain_ticks,
  DrainsByAt,
  DrainsCloser,
  DrainsWhereKnown,
}
use Rattle.machine.proofs.Basics.Contradiction.{refute}
use Rattle.machine.proofs.Words.TickLaws.{tick-answer}
use Rattle.machine.proofs.Shape.ShapeLaws.{well_sized}
use Rattle.machine.proofs.Shape.TickKeeps.{tick-allowed, busy-is-task}
use Rattle.machine.proofs.Linearizability.Calls.MadeTicks.{effect-made}
use Rattle.machine_progress.proofs.SoloBound.Led.{Led, begun-led, led-call, where-led}
use Rattle.machine_progress.proofs.SoloBound.AtFirst.{most}
use Rattle.machine_progress.proofs.SoloBound.EndsOrGoes.{by_answer}
use Rattle.machine_progress.proofs.LockFree.Potential.{Potential, potential-first}
use Rattle.machine_progress.proofs.LockFree.Theorem.{walk-calm}
use Rattle.machine_progress.proofs.SoloBound.SoloTick.{LeftIn, left-in-first}
use Rattle.machine_progress.proofs.SoloBound.Theorem.{walk-alone}
use Rattle.machine_progress.proofs.Drain.BusyTasks.{busy-most, none_below, some_below, only_one, find-one}
use Rattle.machine_progress.proofs.Drain.DispatchTick.{
  allows_of,
  times-add,
  Does,
  is-idle,
  is_tick,
  dispatch-does,
  nodes-then,
  tasks-then,
  lanes-then,
  own-then,
  as_many,
  dispatch-fewer,
  left-then,
  one_less,
}

-- ---- The dispatches.

-- What a potential at first allows.
allowed-first : (S T L b i : ℕ) → b + i ≡ T
    → suc (allows_of S T b i (T * suc T + L * 2) (T * most 2 S)) ≡ busy_ticks S T L b
allowed-first S T L b i count =
    let d = times-add b i T (suc T) count in
    let p = times-add b i T (most 2 S) count in
    let x : T * suc T + L * 2 - i * suc T ≡ b * suc T + L * 2 = omega arith in
    let y : T * most 2 S - i * most 2 S ≡ b * most 2 S = omega arith in
    let w = walk-calm S in
    rw (x, y, w) (omega arith)

-- With n tasks in a call, enough dispatches are left for all of them and one more.
data Ready (ws : List ℕ) (left : ℕ) : (n : ℕ) → Type 0 where
  all-idle : 1 ≤ left → Ready ws left 0
  one-alone : (k m : ℕ) → is_busy_task ws k ≡ true → LeftIn 0 ws k m → suc m < left → Ready ws left 1
  several :
      (c i D P : ℕ)
      → suc (suc c) + i ≡ task_count ws
      → Potential ws D P
      → suc (allows_of (node_count ws) (task_count ws) (suc (suc c)) i D P)
      + drain_ticks (node_count ws) (task_count ws) (lane_count ws) (suc c)
      < left
      → Ready ws left (suc (suc c))

-- At first, and after each answer.
ready-first : {ws : List ℕ} → Led ws → (n left : ℕ) → busy_tasks ws ≡ n
    → drain_ticks (node_count ws) (task_count ws) (lane_count ws) n < left
    → Ready ws left n
ready-first {ws} X zero left many enough = all-idle (omega arith)
ready-first {ws} X (suc zero) left many enough =
    let k = find-one ws (task_count ws) (omega arith) in
    let w = walk-alone (node_count ws) in
    one-alone k.0 (most 0 (node_count ws)) k.2 (left-in-first 0 X k.0 k.2 (omega arith)) (omega arith)
ready-first {ws} X (suc (suc c)) left many enough =
    let T = task_count ws in
    let L = lane_count ws in
    let S = node_count ws in
    let few = busy-most ws T in
    let i : ℕ = T - suc (suc c) in
    let count : suc (suc c) + i ≡ T = omega arith in
    let some-task = (well_sized ws X.agrees.accepted.length_passes).one_task in
    let first = allowed-first S T L (suc (suc c)) i count in
    several c i (T * suc T + L * 2) (T * most 2 S) count (potential-first X some-task) (omega arith)

-- What the dispatches after the first one come to.
abbrev Others : (hints ws : List ℕ) → Type 0
Others hints ws =
    (n : ℕ)
    → HintsBelow (node_count ws) hints
    → busy_tasks ws ≡ n
    → Ready ws (length hints) n
    → Drained n hints ws

module _ {ws : List ℕ} (X : Led ws) (h : ℕ) (hints : List ℕ) (low : h < node_count ws)
    (lows : HintsBelow (node_count ws) hints) (others : Others hints (dispatch ws h).words) where
  -- The tick of a busy task.
  module _ (k : ℕ) (p : tick_refusal ws k h ≡ none)
      (says : (dispatch ws h).answer ≡ Answered (tick_on ws k h).answer)
      (leaves : (dispatch ws h).words ≡ set_dispatched k (tick_on ws k h).words) where
    abbrev then : List ℕ
    then = set_dispatched k (tick_on ws k h).words

    led-then : Led then
    led-then = subst Led leaves (led-call X (dispatch_call h))

    drained-then : (n : ℕ) → busy_tasks then ≡ n → Ready then (length hints) n → Drained n hints (dispatch ws h).words
    drained-then n many ready =
        subst (Drained n hints) (sym leaves)
        (subst (Others hints) leaves others n (subst (λ (i : ℕ). HintsBelow i hints) (sym (nodes-then X k h p)) lows)
        many
        ready)

    answer-is : (dispatch ws h).answer ≡ Answered (effect_of ws k h).answer
    answer-is = says ∙ ap Answered (tick-answer ws k h p)

    -- The sizes are the same.
    drain-same : (n : ℕ)
        → drain_ticks (node_count then) (task_count then) (lane_count then) n
        ≡ drain_ticks (node_count ws) (task_count ws) (lane_count ws) n
    drain-same n =
        ap (λ (S : ℕ). drain_ticks S (task_count then) (lane_count then) n) (nodes-then X k h p)
        ∙ ap (λ (T : ℕ). drain_ticks (node_count ws) T (lane_count then) n) (tasks-then X k h p)
        ∙ ap (λ (L : ℕ). drain_ticks (node_count ws) (task_count ws) L n) (lanes-then X k h p)

    allows-same : (b i D P : ℕ)
        → allows_of (node_count then) (task_count then) b i D P ≡ allows_of (node_count ws) (task_count ws) b i D P
    allows-same b i D P =
        ap (λ (S : ℕ). allows_of S (task_count then) b i D P) (nodes-then X k h p)
        ∙ ap (λ (T : ℕ). allows_of (node_count ws) T b i D P) (tasks-then X k h p)

    by-going : (effect_of ws k h).answer ≡ Going → (n : ℕ) → busy_tasks ws ≡ n → Ready ws (suc (length hints)) n
        → Drained n (h ∷ hints) ws
    by-going goes n many ready =
        goes_on (answer-is ∙ ap Answered goes) (drained-then n (as_many X k h p goes ∙ many) (still n many ready))
      where
        some-busy : 1 ≤ busy_tasks ws
        some-busy = some_below ws k (task_count ws) (tick-allowed ws k h p).0 (tick-allowed ws k h p).2

        still : (n : ℕ) → busy_tasks ws ≡ n → Ready ws (suc (length hints)) n → Ready then (length hints) n
        still n many (all-idle l) = absurd (omega (arith, some-busy))
        still n many (one-alone j m busy left enough) =
            let same : j ≡ k =
            only_one ws (task_count ws) j k many (busy-is-task ws j busy) (tick-allowed ws k h p).0 busy
            (tick-allowed ws k h p).2 in
            let l = left-then X k h p goes (subst (λ (i : ℕ). LeftIn 0 ws i m) same left) in
            let one = l.0 in
            one-alone k (m - 1) (own-then X k h p goes) l.1 (omega arith)
        still n many (several c i D P count Φ enough) =
            let F = dispatch-fewer X k h p goes {c = suc (suc c)} {i = i} many count Φ in
            let less = F.less in
            let same = allows-same (suc (suc c)) i F.D' F.P' in
            let same-drain = drain-same (suc c) in
            several c i F.D' F.P' (count ∙ sym (tasks-then X k h p)) F.potential (omega arith)

    by_end : ends_call (effect_of ws k h).answer ≡ true → (effect_of ws k h).answer ≢ Going
        → (n : ℕ)
        → busy_tasks ws ≡ n
        → Ready ws (suc (length hints)) n
        → Drained n (h ∷ hints) ws
    by_end ends not-Going n many ready = next n many ready
      where
        one : busy_tasks ws ≡ suc (busy_tasks then)
        one = one_less X k h p not-Going

        next : (n : ℕ) → busy_tasks ws ≡ n → Ready ws (suc (length hints)) n → Drained n (h ∷ hints) ws
        next n many (all-idle l) = absurd (omega (arith, one))
        next n many (one-alone j m busy left enough) =
            answers (effect_of ws k h).answer ends answer-is
            (drained-then 0 (omega (arith, one)) (all-idle (omega arith)))
        next n many (several c i D P count Φ enough) =
            let same-drain = drain-same (suc c) in
            let count-then : busy_tasks then ≡ suc c = omega (arith, one) in
            answers (effect_of ws k h).answer ends answer-is
            (drained-then (suc c) count-then (ready-first led-then (suc c) (length hints) count-then (omega arith)))

  one-dispatch : (n : ℕ) → busy_tasks ws ≡ n → Ready ws (suc (length hints)) n → Drained n (h ∷ hints) ws
  one-dispatch n many ready = go (dispatch-does X h low)
    where
      go : Does X h low (dispatch ws h) → Drained n (h ∷ hints) ws
      go (is-idle says idle) =
          subst (λ (i : ℕ). Drained i (h ∷ hints) ws) (sym (none_below ws (task_count ws) idle) ∙ many)
          (idle_now says idle)
      go (is_tick k e p says leaves) =
          by_answer (effect_of ws k h).answer (effect-made X.agrees k h p) (Drained n (h ∷ hints) ws)
          (λ ends. by_end k p says leaves ends (λ e. refute (cc)) n many ready)
          (λ goes. by-going k p says leaves goes n many ready)

none_left : (ws : List ℕ) (n : ℕ) → Ready ws 0 n → ⊥
none_left ws n (all-idle l) = omega arith
none_left ws n (one-alone k m b left l) = omega arith
none_left ws n (several c i D P count Φ l) = omega arith

drains-from : (hints ws : List ℕ) → Led ws → Others hints ws
drains-from [] ws X n lows many ready = absurd (none_left ws n ready)
drains-from (h ∷ hints) ws X n lows many ready =
    one-dispatch X h hints lows.0 lows.1
    (drains-from hints (dispatch ws h).words (led-call X (dispatch_call h))) n many ready

-- The cabinet drains.
abbrev Closer : List ℕ → ℕ → Type 0
Closer ws n = drain_ticks (node_count ws) (task_count ws) (lane_count ws) (busy_tasks ws) < n

drains-led : (ws : List ℕ) → Led ws → DrainsByAt Closer ws
drains-led ws X hints lows long =
    drains-from hints ws X (busy_tasks ws) lows refl (ready-first X (busy_tasks ws) (length hints) refl long)

pub drains-closer : DrainsCloser
drains-closer ws B = drains-led ws (begun-led B)

-- 2026-10, 2026-14: where a row is known.
pub drains-where-known : DrainsWhereKnown
drains-where-known = where-led drains-led

-- ---- The simpler bound.
times_more : (a b c d : ℕ) → a ≤ b → c ≤ d → a * c ≤ b * d
times_more zero b c d h l = omega arith
times_more (suc a) zero c d h l = absurd (omega arith)
times_more (suc a) (suc b) c d h l = let rest = times_more a b c d (omega arith) l in omega arith

busy-few : (S T L b : ℕ) → b ≤ T → busy_ticks S T L b ≤ too_many_ticks S T L
busy-few S T L b h =
    let x = times_more b T (T + 1) (T + 1) h (omega arith) in
    let y = times_more b T (6 * S + 153) (6 * S + 153) h (omega arith) in
    times_more (b * (T + 1) + 2 * L + 1) (T * (T + 1) + 2 * L + 1) (b * (6 * S + 153) + 1) (T * (6 * S + 153) + 1)
    (omega arith) (omega arith)

-- The last answer, and one dispatch more, take fewer.
solo-few : (S T L : ℕ) → 1 ≤ T → 4 * S + 155 ≤ too_many_ticks S T L
solo-few S T L h =
    let y = times_more 1 T (6 * S + 153) (6 * S + 153) h (omega arith) in
    let x = times_more 1 (T * (T + 1) + 2 * L + 1) (T * (6 * S + 153) + 1) (T * (6 * S + 153) + 1) (omega arith)
    (omega arith) in
    omega arith

drain-few : (S T L b : ℕ) → 1 ≤ T → b ≤ T → drain_ticks S T L b < T * too_many_ticks S T L
drain-few S T L b one h = by_count b h
  where
    each-few : (c : ℕ) → suc c ≤ T → suc (drain_ticks S T L (suc c)) ≤ suc c * too_many_ticks S T L
    each-few zero l = let s = solo-few S T L one in omega arith
    each-few (suc c) l =
        let rest = each-few c (omega arith) in
        let own = busy-few S T L (suc (suc c)) l in
        omega arith

    by_count : (b : ℕ) → b ≤ T → drain_ticks S T L b < T * too_many_ticks S T L
    by_count zero l =
        let s = solo-few S T L one in
        let x = times_more 1 T (too_many_ticks S T L) (too_many_ticks S T L) one (omega arith) in
        omega arith
    by_count (suc c) l =
        let e = each-few c l in
        let x = times_more (suc c) T (too_many_ticks S T L) (too_many_ticks S T L) l (omega arith) in
        omega arith

pub drains : Drains
drains ws B hints lows long =
    let S = node_count ws in
    let T = task_count ws in
    let L = lane_count ws in
    let some-task = (well_sized ws (begun-led B).agrees.accepted.length_passes).one_task in
    let few = drain-few S T L (busy_tasks ws) some-task (busy-most ws T) in
    drains-closer ws B hints lows (omega arith)
