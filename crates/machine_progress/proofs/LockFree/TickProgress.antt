-- What a tick comes to for the disturbances left: it answers, it is calm, or it is one of the few that disturb.
use mathlib.Core.Path.{◌≡◌}
use mathlib.Core.Logic.{◌≢◌}
use mathlib.Core.Bool.{Bool}
use Prim.Native.Nat.{ℕ, suc, ◌≤◌}
use Rattle.machine.specs.Outcomes.Answer.{Going}
use Rattle.machine.specs.Sides.{Side}
use Rattle.machine.specs.Values.{Y}
use Rattle.machine.specs.Lines.{Effect}
use Rattle.machine.proofs.Words.Memories.{View, written}
use Rattle.machine.proofs.Linearizability.Model.Classes.{Class}
use Rattle.machine_progress.proofs.LockFree.Change.{Calm, BothSteady, BothNoCut}
use Rattle.machine_progress.proofs.LockFree.Disturbances.{Disturbs}

-- A tick with effect e, of a task on side s of lane ℓ, of L lanes, that may disturb n times.
pub data TickProgress (T L : ℕ) (held : ℕ → Bool) (class : ℕ → Class) (ℓ : ℕ) (s o : Side) (m : View) (n : ℕ)
    (e : Effect) : Type 0 where
  ends : e.answer ≢ Going → TickProgress T L held class ℓ s o m n e
  is-calm : Calm held class m (written ℓ s e.writes m)
      → Disturbs e.task.step T s (written ℓ s e.writes m) e.task n
      → TickProgress T L held class ℓ s o m n e
  -- A cut: one disturbance and one for each task.
  cuts : BothSteady L s o m (written ℓ s e.writes m) → suc T ≤ n
      → Disturbs e.task.step T s (written ℓ s e.writes m) e.task 1
      → TickProgress T L held class ℓ s o m n e
  disturbs : {i : ℕ} → BothSteady L s o m (written ℓ s e.writes m)
      → BothNoCut L held class s o m (written ℓ s e.writes m)
      → suc i ≡ n
      → Disturbs e.task.step T s (written ℓ s e.writes m) e.task i
      → TickProgress T L held class ℓ s o m n e
  -- The hat moves off Y.
  moves : BothSteady L s o m (written ℓ s e.writes m) → BothNoCut L held class s o m (written ℓ s e.writes m)
      → m.val (m.hats ℓ s) ≡ Y s
      → (written ℓ s e.writes m).val ((written ℓ s e.writes m).hats ℓ s) ≢ Y s
      → Disturbs e.task.step T s (written ℓ s e.writes m) e.task n
      → TickProgress T L held class ℓ s o m n e
