-- A tick of a busy task in a table that calls and copies lead to: its outcome, and what the other tasks keep.
use mathlib.Core.Path.{◌≡◌, subst}
use mathlib.Core.Logic.{◌≢◌, ◌⊎◌, inl}
use mathlib.Core.Bool.{true}
use mathlib.Core.List.{List}
use mathlib.Core.Option.{none}
use Prim.Native.Nat.{ℕ, suc, ◌≤◌, ◌<◌}
use native.Mathlib.Omega.{arith}
use Rattle.machine.specs.Sides.{Side, right, opposite}
use Rattle.machine.specs.Tasks.{Task, no_node, goal}
use Rattle.machine.specs.Table.{node_count, growth, lane_count, task}
use Rattle.machine.specs.Allocate.{allocate}
use Rattle.machine.specs.Lines.{Memory, Effect, act}
use Rattle.machine.specs.Calls.{is_busy, tick_refusal, effect_of}
use Rattle.machine.proofs.Words.Memories.{View, viewed, written, view, seen-viewed}
use Rattle.machine.proofs.Linearizability.Model.Held.{ClosedSet, closed-view}
use Rattle.machine.proofs.Shape.TickKeeps.{tick-allowed}
use Rattle.machine.proofs.SlotRule.Reached.{keeps}
use Rattle.machine.proofs.SlotRule.FirstFree.{allocate-not-kept}
use Rattle.machine.proofs.Linearizability.Model.Classes.{Class}
use Rattle.machine.proofs.Linearizability.Model.Guarantee.{GuaranteesIn}
use Rattle.machine.proofs.Linearizability.Model.Invariant.{Lanes, every-lane, Roots, TickOk}
use Rattle.machine.proofs.Linearizability.Model.Structure.{Structure}
use Rattle.machine.proofs.Linearizability.Lines.InvariantTick.{guarantees-view}
use Rattle.machine.proofs.Linearizability.Model.LaneViews.{lanes-view}
use Rattle.machine.proofs.Linearizability.Model.RowViews.{row_from}
use Rattle.machine.proofs.Linearizability.Writes.FreeNode.{take-ok}
use Rattle.machine.proofs.Linearizability.Writes.Take.{TakeOk}
use Rattle.machine.proofs.Linearizability.Lines.Tick.{tick-ok}
use Rattle.machine.proofs.Linearizability.Calls.Agreement.{Agrees}
use Rattle.machine.proofs.Linearizability.Calls.MadeTicks.{well-linked, kept-roots, not-idle}
use Rattle.machine_progress.proofs.SoloBound.Led.{Led}
use Rattle.machine_progress.proofs.SoloBound.SoloTick.{LeftWith}
use Rattle.machine_progress.proofs.LockFree.Change.{
  Calm,
  Steady,
  NoCut,
  calm-view,
}
use Rattle.machine_progress.proofs.LockFree.Calmness.{calm-steady, calm-no-cut}
use Rattle.machine_progress.proofs.LockFree.LeftStays.{left-stays}
use Rattle.machine_progress.proofs.LockFree.Disturbances.{Disturbs, HatDisturbs, disturbs-stay, hat-stays}
use Rattle.machine_progress.proofs.LockFree.TickProgress.{TickProgress}
use Rattle.machine_progress.proofs.LockFree.LineOutcomes.{line-outcome}

-- How often a task may disturb, by the view from the right.
abbrev pub DisturbsIn : (T : ℕ) → View → Task → (d : ℕ) → Type 0
DisturbsIn T M t d = Disturbs t.step T t.side (view t.side M) t d

-- The ticks that a task has left while the others tick and are calm.
abbrev pub CalmlyLeft : (S gr : ℕ) → View → Task → (n : ℕ) → Type 0
CalmlyLeft S gr M t n = LeftWith 2 S gr M t n

module _ {ws : List ℕ} (led : Led ws) (k h : ℕ) (passes : tick_refusal ws k h ≡ none) where
  abbrev A : Agrees ws led.row
  A = led.agrees

  abbrev s : Side
  s = (task ws k).side

  abbrev M : View
  M = viewed right ws

  abbrev e : Effect
  e = effect_of ws k h

  -- The view after the tick, from the task's side and from the right.
  abbrev m' : View
  m' = written (task ws k).lane (task ws k).side (effect_of ws k h).writes (view (task ws k).side (viewed right ws))

  abbrev M' : View
  M' = view s m'

  abbrev L : ℕ
  L = lane_count ws

  abbrev ℓ : ℕ
  ℓ = (task ws k).lane

  lanes-from : (z : Side)
      → Lanes L z (opposite z) (view z M) A.class (λ l. row_from z (led.row.bags l))
  lanes-from z = lanes-view z A.invariant.lanes

  R : Roots L (keeps ws) M (task ws)
  R = kept-roots A.accepted

  closed-from : (z : Side) → ClosedSet L (keeps ws) (view z M)
  closed-from z = closed-view z R.closed

  busy-now : is_busy (task ws k).operation ≡ true
  busy-now = (tick-allowed ws k h passes).2

  free-f : allocate ws h ≢ no_node → TakeOk L (keeps ws) (view s M) A.class (allocate ws h)
  free-f ne =
      take-ok A.invariant R s (allocate ws h)
      (allocate-not-kept (well-linked A.accepted) (tick-allowed ws k h passes).1 ne)

  tick-is-ok :
      TickOk (keeps ws) L k s (opposite s) (view s M) A.class (λ l. row_from s (led.row.bags l))
      (task ws k) e
  unfolding effect_of
  tick-is-ok =
      let t = task ws k in
      subst
      (λ (y : Memory).
      TickOk (keeps ws) L k s (opposite s) (view s M) A.class (λ l. row_from s (led.row.bags l)) t
      (act t.step s (opposite s) y t (goal (growth ws) t) (allocate ws h)))
      (seen-viewed ℓ s ws)
      (tick-ok (keeps ws) k (lanes-from s) t (A.invariant.own_lane k) (goal (growth ws) t) (allocate ws h) free-f
      (not-idle t.operation busy-now) t.step (A.invariant.task-ok k))

  abbrev class' : ℕ → Class
  class' = tick-is-ok.class'

  pub outcome : (T n : ℕ) → DisturbsIn T M (task ws k) n
      → TickProgress T L (keeps ws) A.class ℓ s (opposite s) (view s M) n e
  unfolding effect_of
  outcome T n b =
      let t = task ws k in
      subst
      (λ (y : Memory).
      TickProgress T L (keeps ws) A.class ℓ s (opposite s) (view s M) n
      (act t.step s (opposite s) y t (goal (growth ws) t) (allocate ws h)))
      (seen-viewed ℓ s ws)
      (line-outcome T k (lanes-from s) (closed-from s) t (A.invariant.own_lane k) (goal (growth ws) t) (allocate ws h)
      n free-f (not-idle t.operation busy-now) t.step (A.invariant.task-ok k) b)

  guarantees : (z : Side) → GuaranteesIn (keeps ws) k z (opposite z) (view z M) A.class (view z M') class'
  guarantees z = guarantees-view s z M m' tick-is-ok.guarantees

  -- ---- The other tasks.
  module _ (j : ℕ) where
    abbrev t : Task
    t = task ws j

    abbrev z : Side
    z = (task ws j).side

    own-structure : Structure t.lane z (opposite z) (view z M) A.class
        ((lanes-from z).lane t.lane (A.invariant.own_lane j)).frame
    own-structure = ((lanes-from z).lane t.lane (A.invariant.own_lane j)).structure

    pub steady-others : (T d d' : ℕ) → d ≤ d' → Steady t.lane z (view z M) (view z M')
        → NoCut (keeps ws) A.class t.lane z (view z M) (view z M') ⊎ (suc d ≤ d')
        → DisturbsIn T M t d
        → DisturbsIn T M' t d'
    steady-others T d d' le W U b =
        disturbs-stay t own-structure (every-lane (lanes-from z)) W (guarantees z).near d d' le U j T t.step
        (R.registers j) (A.invariant.task-ok j) b

    pub calm-others : Calm (keeps ws) A.class (view s M) m' → (T d : ℕ) → DisturbsIn T M t d → DisturbsIn T M' t d
    calm-others C T d b =
        let c = calm-view s z M m' C in
        let Z = own-structure in
        let all = every-lane (lanes-from z) in
        let own = A.invariant.own_lane j in
        steady-others T d d (omega arith) (calm-steady Z all (closed-from z) own c (guarantees z).near)
        (inl (calm-no-cut Z all (closed-from z) own c (guarantees z).near)) b

    pub patient-others : Calm (keeps ws) A.class (view s M) m' → (n : ℕ)
        → CalmlyLeft (node_count ws) (growth ws) M t n
        → CalmlyLeft (node_count ws) (growth ws) M' t n
    patient-others C n b =
        left-stays t own-structure (every-lane (lanes-from z)) (closed-from z) (A.invariant.own_lane j)
        (calm-view s z M m' C) (guarantees z).near 2 n
        (node_count ws) (goal (growth ws) t) j (omega arith) t.step (R.registers j) (A.invariant.task-ok j) b

  -- ---- The hats.
  pub calm-hats : Calm (keeps ws) A.class (view s M) m' → (l : ℕ) → l < L → (z : Side) (n : ℕ)
      → HatDisturbs l z (view z M) n
      → HatDisturbs l z (view z M') n
  calm-hats C l is_lane z n b =
      hat-stays
      (calm-steady ((lanes-from z).lane l is_lane).structure (every-lane (lanes-from z)) (closed-from z) is_lane
      (calm-view s z M m' C) (guarantees z).near) b
