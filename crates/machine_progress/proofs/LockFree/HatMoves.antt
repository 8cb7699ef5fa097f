-- How often the hats may still disturb, where one of them moves.
use mathlib.Core.Path.{◌≡◌, sym, ap, ◌∙◌, subst}
use mathlib.Core.Logic.{◌≢◌, inl, inr}
use Prim.Native.Nat.{ℕ, suc, ◌+◌, ◌≤◌, ◌<◌}
use native.Mathlib.Omega.{arith}
use Rattle.machine.specs.Sides.{Side, left, right}
use Rattle.machine.specs.Values.{Y}
use Rattle.machine.proofs.Basics.Contradiction.{equal?}
use Rattle.machine.proofs.Basics.Updates.{
  update,
  update_same,
  update_other,
  update_side,
  update_hat,
  update_hat-own,
  update_hat-elsewhere,
}
use Rattle.machine.proofs.Words.Memories.{View, view}
use Rattle.machine_progress.proofs.SoloBound.Budget.{soon, late}
use Rattle.machine_progress.proofs.LockFree.Disturbances.{HatDisturbs}
use Rattle.machine_progress.proofs.LockFree.Sums.{sum, sum-le, sum-update}

-- What the two hats of a lane have.
abbrev pub both_hats : (hats : (lane : ℕ) → Side → ℕ) → (l : ℕ) → ℕ
both_hats hats l = hats l left + hats l right

side-moved : (ℓ : ℕ) (s z : Side) (m' : View) (hats : Side → ℕ) → m'.val (m'.hats ℓ s) ≢ Y s
    → ((z : Side) → HatDisturbs ℓ z (view z (view s m')) (hats z))
    → HatDisturbs ℓ z (view z (view s m')) (update_side hats s 0 z)
side-moved ℓ left left m' hats off b = soon off (omega arith)
side-moved ℓ left right m' hats off b = b right
side-moved ℓ right left m' hats off b = b left
side-moved ℓ right right m' hats off b = soon off (omega arith)

pub hat-moved : (L ℓ : ℕ) (s : Side) (m' : View) (hats : ℕ → Side → ℕ) → m'.val (m'.hats ℓ s) ≢ Y s
    → ((l : ℕ) → l < L → (z : Side) → HatDisturbs l z (view z (view s m')) (hats l z))
    → (l : ℕ)
    → l < L
    → (z : Side)
    → HatDisturbs l z (view z (view s m')) (update_hat hats ℓ s 0 l z)
hat-moved L ℓ s m' hats off b l h z =
    elim (equal? l ℓ) [
      | inl e ↦
          subst (λ (j : ℕ). HatDisturbs j z (view z (view s m')) (update_hat hats ℓ s 0 j z)) (sym e)
          (subst (λ (f : Side → ℕ). HatDisturbs ℓ z (view z (view s m')) (f z)) (sym (update_hat-own hats ℓ s 0))
          (side-moved ℓ s z m' (hats ℓ) off
          (subst (λ (j : ℕ). (z : Side) → HatDisturbs j z (view z (view s m')) (hats j z)) e (b l h))))
      | inr ne ↦
          subst (λ (f : Side → ℕ). HatDisturbs l z (view z (view s m')) (f z))
          (sym (update_hat-elsewhere hats ℓ s 0 l ne)) (b l h z)
    ]

fewer-sides : (s : Side) (hats : Side → ℕ) → 1 ≤ hats s
    → suc (update_side hats s 0 left + update_side hats s 0 right) ≤ hats left + hats right
fewer-sides left hats h = omega arith
fewer-sides right hats h = omega arith

pub fewer-hats : (L ℓ : ℕ) (s : Side) (hats : ℕ → Side → ℕ) → ℓ < L → 1 ≤ hats ℓ s
    → suc (sum L (both_hats (update_hat hats ℓ s 0))) ≤ sum L (both_hats hats)
fewer-hats L ℓ s hats is_lane h =
    let v : ℕ = update_side (hats ℓ) s 0 left + update_side (hats ℓ) s 0 right in
    let one = fewer-sides s (hats ℓ) h in
    let all = sum-le L (both_hats (update_hat hats ℓ s 0)) (update (both_hats hats) ℓ v) (λ j _. at j) in
    let less = sum-update L (both_hats hats) ℓ v 1 is_lane (omega arith) in
    omega arith
  where
    both : (f : Side → ℕ) → ℕ
    both f = f left + f right

    at : (j : ℕ)
        → both_hats (update_hat hats ℓ s 0) j
        ≤ update (both_hats hats) ℓ (update_side (hats ℓ) s 0 left + update_side (hats ℓ) s 0 right) j
    at j =
        let v : ℕ = update_side (hats ℓ) s 0 left + update_side (hats ℓ) s 0 right in
        elim (equal? j ℓ) [
          | inl e ↦
              let p : both_hats (update_hat hats ℓ s 0) j ≡ v =
              ap (λ (i : ℕ). both_hats (update_hat hats ℓ s 0) i) e ∙ ap both (update_hat-own hats ℓ s 0) in
              let q : update (both_hats hats) ℓ v j ≡ v =
              ap (update (both_hats hats) ℓ v) e ∙ update_same (both_hats hats) ℓ v in
              omega arith
          | inr ne ↦
              let p : both_hats (update_hat hats ℓ s 0) j ≡ both_hats hats j =
              ap both (update_hat-elsewhere hats ℓ s 0 j ne) in
              let q : update (both_hats hats) ℓ v j ≡ both_hats hats j = update_other (both_hats hats) ℓ v j ne in
              omega arith
        ]

pub hat-had : (ℓ : ℕ) (s : Side) (m : View) {n : ℕ} → m.val (m.hats ℓ s) ≡ Y s → HatDisturbs ℓ s m n → 1 ≤ n
hat-had ℓ s m v (soon ne h) = absurd (ne v)
hat-had ℓ s m v (late h) = h
