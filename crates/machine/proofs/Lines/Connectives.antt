-- Taking a line's tests apart: one lemma for each way in which the definition of a line branches, for any property of
-- what is chosen.
use mathlib.Core.Path.{◌≡◌}
use mathlib.Core.Logic.{◌≢◌}
use Prim.Native.Nat.{ℕ}
use Rattle.machine.specs.Choice.{◌≟◌, if?◌then◌else◌}
use Rattle.machine.specs.Tasks.{Task, no_node}
use Rattle.machine.specs.Lines.{Effect, refused, through, dcas}

module _ (P : Effect → Type 0) where
  pub ok-if : {A T : Type 0} (F : T → Effect) {x y : T} (d : Dec A)
      → (A → P (F x))
      → (¬ A → P (F y))
      → P (F (if?◌then◌else◌ d x y))
  ok-if F (yes h) f g = f h
  ok-if F (no h) f g = g h

  pub ok-through : {t : Task} {x : ℕ} {e : Effect}
      → (x ≡ no_node → P (refused t))
      → (x ≢ no_node → P e)
      → P (through x t e)
  ok-through f g = ok-if (λ e. e) (_ ≟ _) f g

  -- A swap, with what its failing says.
  pub ok-swap : {A B : Type 0} {done failed : Effect} (d : Dec A) (e : Dec B)
      → (A → B → P done)
      → (¬ (A × B) → P failed)
      → P (dcas d e done failed)
  unfolding dcas
  ok-swap (yes p) (yes q) f g = f p q
  ok-swap (yes p) (no q) f g = g (λ b. q b.1)
  ok-swap (no p) e f g = g (λ b. p b.0)

  pub ok-dcas : {A B : Type 0} {done failed : Effect} (d : Dec A) (e : Dec B)
      → (A → B → P done)
      → P failed
      → P (dcas d e done failed)
  ok-dcas d e f g = ok-swap d e f (λ _. g)
