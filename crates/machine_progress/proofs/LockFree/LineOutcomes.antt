-- Every line, seen from the side of the task that ticks.
use mathlib.Core.Logic.{◌≢◌, inl, inr}
use mathlib.Core.Bool.{Bool}
use mathlib.Core.List.{List}
use Prim.Native.Nat.{ℕ, ◌-◌, ◌<◌}
use native.Mathlib.Omega.{arith}
use Rattle.machine.specs.Outcomes.Answer.{Going}
use Rattle.machine.specs.Sides.{Side}
use Rattle.machine.specs.Operations.{idle}
use Rattle.machine.specs.Steps.{Step}
use Rattle.machine.specs.Tasks.{Task, no_node}
use Rattle.machine.specs.Lines.{Write, Effect, act}
use Rattle.machine.proofs.Basics.Contradiction.{refute}
use Rattle.machine.proofs.Words.Memories.{View, seen_in}
use Rattle.machine.proofs.Lines.Branches as B
use Rattle.machine.proofs.Linearizability.Model.Classes.{Class}
use Rattle.machine.proofs.Linearizability.Model.Held.{ClosedSet}
use Rattle.machine.proofs.Linearizability.Model.Invariant.{Lanes}
use Rattle.machine.proofs.Linearizability.Model.Phases.{TaskOk}
use Rattle.machine.proofs.Linearizability.Writes.Take.{TakeOk}
use Rattle.machine_progress.proofs.LockFree.Calmness.{calm-refl}
use Rattle.machine_progress.proofs.LockFree.Disturbances.{Disturbs}
use Rattle.machine_progress.proofs.LockFree.TickProgress.{TickProgress, ends, is-calm, cuts, disturbs}
use Rattle.machine_progress.proofs.LockFree.QuietOutcomes.{moved}
use Rattle.machine_progress.proofs.LockFree.CalmOutcomes.{calm-24, past-24, calm-28, calm-31, calm-78, calm-79}
use Rattle.machine_progress.proofs.LockFree.DisturbingOutcomes.{splice-steady, splice-no-cut, room_after}
use Rattle.machine_progress.proofs.LockFree.DisturbingOutcomes.{cut-steady, unlink-steady, unlink-no-cut}
use Rattle.machine_progress.proofs.LockFree.HatOutcome.{done-72}
use Rattle.machine_progress.proofs.SoloBound.Budget.{soon, late}

module _ (T : ℕ) {held : ℕ → Bool} (k : ℕ) {L : ℕ} {s o : Side} {m : View} {class : ℕ → Class} {r : ℕ → List ℕ}
    (D : Lanes L s o m class r) (H : ClosedSet L held m) (t : Task) (own : t.lane < L) (g f n : ℕ)
    (free-f : f ≢ no_node → TakeOk L held m class f) (busy : t.operation ≢ idle) where
  abbrev Ok : Effect → Type 0
  Ok e = TickProgress T L held class t.lane s o m n e

  wrote : {st st' : Step} {l : List Write} {u : Task} → B.Writes s o (seen_in t.lane s m) t g f st l u st'
      → TaskOk k s o m class st t → Disturbs st T s m t n
      → Ok (record { writes = l; task = B.onward t u st'; answer = Going })
  wrote (B.done-72 _ e c) h w = done-72 T held k D t own g f n h e w c
  wrote (B.reached-28 some _) h b = is-calm (calm-28 k D H t own f (free-f some)) b
  wrote (B.taken-28 some _) h b = is-calm (calm-28 k D H t own f (free-f some)) b
  wrote (B.reached-31 _ some _) h b = is-calm (calm-31 k D H t own f (free-f some) h) b
  wrote (B.taken-31 _ some _) h b = is-calm (calm-31 k D H t own f (free-f some) h) b
  wrote (B.link-24 _ _) h (soon (inl v) l) =
      is-calm (calm-24 k D H t own f h) (soon (inl (cc (past-24 k D H t own f h))) l)
  wrote (B.link-24 _ _) h (soon (inr e) l) =
      is-calm (calm-24 k D H t own f h) (soon (inr (cc (past-24 k D H t own f h))) l)
  wrote (B.link-24 _ _) h (late l) = is-calm (calm-24 k D H t own f h) (late l)
  wrote (B.push-25 _ _ v _) h (soon p l) =
      disturbs {i = n - 1} (splice-steady held k D t own v) (splice-no-cut held k D t own v) (omega arith)
      (soon (room_after held k D t own v p) (omega arith))
  wrote (B.push-25 _ _ v _) h (late l) =
      disturbs {i = n - 1} (splice-steady held k D t own v) (splice-no-cut held k D t own v) (omega arith)
      (late (omega arith))
  wrote (B.done-62 _ _ v w) h b = cuts (cut-steady held k D t own h v w) b (omega arith)
  wrote (B.done-64 _ e) h b =
      disturbs {i = n - 1} (unlink-steady held k D t own h e) (unlink-no-cut held k D t own h e) (omega arith) tt
  wrote (B.done-78 _ _) h b = is-calm (calm-78 k D H t own f h) tt
  wrote (B.done-79 _) h b = is-calm (calm-79 k D H t own f h) tt

  branch_outcome : {st : Step} {e : Effect} → B.Branch s o (seen_in t.lane s m) t g f st e
      → TaskOk k s o m class st t → Disturbs st T s m t n → Ok e
  branch_outcome (B.stuck _) h b = ends (λ q. refute (cc))
  branch_outcome (B.moves c) h b = is-calm calm-refl (moved T k D t own g f n busy c h b)
  branch_outcome (B.writes c) h b = wrote c h b
  branch_outcome (B.ends c) h b = ends (B.ends_it c)

  pub line-outcome : (st : Step) → TaskOk k s o m class st t → Disturbs st T s m t n
      → Ok (act st s o (seen_in t.lane s m) t g f)
  line-outcome st = branch_outcome (B.branch s o (seen_in t.lane s m) t g f st)
