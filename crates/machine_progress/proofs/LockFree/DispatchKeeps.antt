-- The task last dispatched is no part of the potential; a dispatch that makes no tick leaves the table as it was.
use mathlib.Core.Path.{◌≡◌, refl, ap, subst}
use mathlib.Core.List.{List}
use Prim.Native.Nat.{ℕ, ◌<◌}
use Rattle.machine.specs.Outcomes.Answer.{Refused}
use Rattle.machine.specs.Outcomes.Dispatch.{Idle, Answered}
use Rattle.machine.specs.Sides.{right}
use Rattle.machine.specs.Table.{node_count, task_count, growth, lane_count, set_dispatched}
use Rattle.machine.specs.Answers.{dispatch_refusal_of}
use Rattle.machine.specs.Calls.{Dispatched, dispatch}
use Rattle.machine.specs.Shape.{sizes_of, Sized}
use Rattle.machine.proofs.Basics.Contradiction.{clash}
use Rattle.machine.proofs.Words.Columns.{Columns}
use Rattle.machine.proofs.Words.TableLaws.{columns-set_dispatched}
use Rattle.machine.proofs.Words.EffectLaws.{viewed-set-dispatched, task-set-dispatched}
use Rattle.machine.proofs.Shape.DispatchCases.{by_dispatch}
use Rattle.machine_progress.proofs.SoloBound.Led.{Led}
use Rattle.machine_progress.proofs.LockFree.Potential.{Potential}

module _ (ws : List ℕ) (sized : Sized (sizes_of ws)) (k : ℕ) where
  pub dispatched-nodes : node_count (set_dispatched k ws) ≡ node_count ws
  dispatched-nodes = ap (λ (c : Columns). c.sizes.node_count) (columns-set_dispatched ws sized k)

  pub dispatched-tasks : task_count (set_dispatched k ws) ≡ task_count ws
  dispatched-tasks = ap (λ (c : Columns). c.sizes.task_count) (columns-set_dispatched ws sized k)

  pub dispatched-lanes : lane_count (set_dispatched k ws) ≡ lane_count ws
  dispatched-lanes = ap (λ (c : Columns). c.sizes.lane_count) (columns-set_dispatched ws sized k)

  pub dispatched-growth : growth (set_dispatched k ws) ≡ growth ws
  dispatched-growth = ap (λ (c : Columns). c.sizes.growth) (columns-set_dispatched ws sized k)

  pub dispatched-keeps : {D P : ℕ} → Potential ws D P → Potential (set_dispatched k ws) D P
  dispatched-keeps Φ =
      record {
        d = Φ.d;
        hats = Φ.hats;
        p = Φ.p;
        may-disturb = λ j.
            rw (dispatched-tasks, viewed-set-dispatched ws sized k right, task-set-dispatched ws sized k)
            (Φ.may-disturb j);
        hats-move = λ l q z.
            rw (viewed-set-dispatched ws sized k right)
            (Φ.hats-move l (subst (λ (n : ℕ). l < n) dispatched-lanes q) z);
        patience = λ j.
            rw (
              dispatched-nodes,
              dispatched-growth,
              viewed-set-dispatched ws sized k right,
              task-set-dispatched ws sized k,
            )
            (Φ.patience j);
        idle-yet = λ j.
            rw (dispatched-tasks, dispatched-nodes, task-set-dispatched ws sized k) (Φ.idle-yet j);
        few-disturbances = rw (dispatched-tasks, dispatched-lanes) Φ.few-disturbances;
        few-ticks = rw dispatched-tasks Φ.few-ticks;
      }

module _ {ws : List ℕ} (X : Led ws) (h : ℕ) where
  -- What is refused or idle has changed nothing.
  pub refused-stays : {r : ℕ} → (dispatch ws h).answer ≡ Answered (Refused r) → (dispatch ws h).words ≡ ws
  refused-stays {r} =
      by_dispatch ws X.agrees.accepted h
      (λ (d : Dispatched). d.answer ≡ Answered (Refused r) → d.words ≡ ws) (λ _. refl) (λ _ _. refl)
      (λ k n _ _ _. refl) (λ k _ _ made e. clash (cc (ap dispatch_refusal_of e)))

  pub idle-stays : (dispatch ws h).answer ≡ Idle → (dispatch ws h).words ≡ ws
  idle-stays =
      by_dispatch ws X.agrees.accepted h (λ (d : Dispatched). d.answer ≡ Idle → d.words ≡ ws)
      (λ _. refl) (λ _ _. refl) (λ k n _ _ _. refl) (λ k _ _ _ e. clash (cc))
