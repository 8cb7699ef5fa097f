-- Sums over the tasks.
use mathlib.Core.Path.{◌≡◌, refl}
use mathlib.Core.Logic.{inl, inr}
use Prim.Native.Nat.{ℕ, zero, suc, ◌+◌, ◌*◌, ◌≤◌, ◌<◌}
use native.Mathlib.Omega.{arith}
use Rattle.machine.proofs.Basics.Contradiction.{equal?}
use Rattle.machine.proofs.Basics.Updates.{update, update_same, update_other}

-- f 0 + .. + f (T - 1).
unfoldable pub sum : (T : ℕ) → (ℕ → ℕ) → ℕ
sum zero f = 0
sum (suc T) f = f T + sum T f

pub sum-le : (T : ℕ) (f g : ℕ → ℕ) → ((j : ℕ) → j < T → f j ≤ g j) → sum T f ≤ sum T g
unfolding sum
sum-le zero f g h = omega arith
sum-le (suc T) f g h = omega (arith, h T (omega arith), sum-le T f g (λ j l. h j (omega arith)))

-- One more for each task.
pub sum-suc : (T : ℕ) (f : ℕ → ℕ) → sum T (λ j. suc (f j)) ≡ sum T f + T
unfolding sum
sum-suc zero f = refl
sum-suc (suc T) f = omega (arith, sum-suc T f)

-- At most c for each task.
pub sum-const : (T c : ℕ) (f : ℕ → ℕ) → ((j : ℕ) → j < T → f j ≤ c) → sum T f ≤ T * c
unfolding sum
sum-const zero c f h = omega arith
sum-const (suc T) c f h = omega (arith, h T (omega arith), sum-const T c f (λ j l. h j (omega arith)))

-- One task has less by a.
pub sum-update : (T : ℕ) (g : ℕ → ℕ) (k v a : ℕ) → k < T → v + a ≤ g k → sum T (update g k v) + a ≤ sum T g
unfolding sum
sum-update zero g k v a l h = absurd (omega arith)
sum-update (suc T) g k v a l h =
    elim (equal? T k) [
      | inl e ↦
          let here : update g k v T ≡ v = cc (update_same g k v) in
          let others = sum-le T (update g k v) g (λ j q.
          let same : update g k v j ≡ g j = update_other g k v j (λ u. omega arith) in omega arith) in
          let at-k : g T ≡ g k = cc in
          omega arith
      | inr ne ↦
          let here : update g k v T ≡ g T = update_other g k v T ne in
          let rest = sum-update T g k v a (omega arith) h in
          omega arith
    ]
