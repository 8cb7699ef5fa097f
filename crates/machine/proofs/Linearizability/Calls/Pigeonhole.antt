-- n different numbers below S: n is at most S.
use mathlib.Core.Path.{◌≡◌}
use mathlib.Core.Logic.{◌≢◌}
use Prim.Native.Nat.{ℕ, suc, zero, ◌≤◌, ◌<◌}
use native.Mathlib.Omega.{arith}
use Rattle.machine.proofs.Basics.Updates.{Wrote, it-is, it-is-not, update, update-wrote, wrote?}

pub pigeonhole : (S n : ℕ) (f : ℕ → ℕ)
    → ((i : ℕ) → i < n → f i < S)
    → ((i j : ℕ) → i < n → j < n → f i ≡ f j → i ≡ j)
    → n ≤ S
pigeonhole S zero f below apart = omega arith
pigeonhole zero (suc n) f below apart = absurd (let h = below 0 (omega arith) in omega arith)
pigeonhole (suc S) (suc n) f below apart = let h = pigeonhole S n g below' apart' in omega arith
  where
    -- The last of the numbers takes the place of S among the others.
    swap : ℕ → ℕ
    swap = update (λ y. y) S (f n)

    w : Wrote (λ y. y) S (f n) swap
    w = update-wrote (λ y. y) S (f n)

    g : ℕ → ℕ
    g i = swap (f i)

    below' : (i : ℕ) → i < n → g i < S
    below' i h =
        let l = below i (omega arith) in
        let k = below n (omega arith) in
        elim (wrote? w (f i)) [
          | it-is e p ↦
              let ne : f n ≢ S = λ q. let z = apart i n (omega arith) (omega arith) (cc) in omega arith in
              omega arith
          | it-is-not e p ↦ omega arith
        ]

    apart' : (i j : ℕ) → i < n → j < n → g i ≡ g j → i ≡ j
    apart' i j hi hj q =
        elim (wrote? w (f i)) [
          | it-is e p ↦
              elim (wrote? w (f j)) [
                | it-is d u ↦ apart i j (omega arith) (omega arith) (cc)
                | it-is-not d u ↦ absurd (let z = apart n j (omega arith) (omega arith) (cc) in omega arith)
              ]
          | it-is-not e p ↦
              elim (wrote? w (f j)) [
                | it-is d u ↦ absurd (let z = apart i n (omega arith) (omega arith) (cc) in omega arith)
                | it-is-not d u ↦ apart i j (omega arith) (omega arith) (cc)
              ]
        ]
