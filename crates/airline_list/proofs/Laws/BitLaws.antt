-- The bits of words: a bit set, and all others as they were.
use mathlib.Core.Path.{◌≡◌, sym, ap, ◌∙◌}
use Prim.Native.Nat.{ℕ, suc, ◌+◌, ◌-◌, ◌/◌, ◌%◌, ◌^◌, ◌<◌, max}
use native.Mathlib.Decide.{dec_lt}
use native.Mathlib.Nat.{div-eq_of_lt, mul-add-mod_self_right, max-zero, mod-eq_of_lt, one-mul}
use native.Mathlib.Omega.{arith}
use lib.Bits.{bit_or, or_shr, or_step, shifted_even}
use lib.Pow.{pow-add, pow-lt, shl-shr}

-- ---- A power of two has one bit.
power-bit : (k : ℕ) → 2 ^ k / 2 ^ k % 2 ≡ 1
power-bit k = ap (λ (x : ℕ). x / 2 ^ k % 2) (sym (one-mul (2 ^ k))) ∙ ap (λ (x : ℕ). x % 2) (shl-shr 1 k)

power-other : (k j : ℕ) → (j ≡ k → ⊥) → 2 ^ k / 2 ^ j % 2 ≡ 0
power-other k j n = go (dec_lt j k)
  where
    go : Dec (j < k) → 2 ^ k / 2 ^ j % 2 ≡ 0
    go (yes below) =
        let d = k - j - 1 in
        let sum : k ≡ suc d + j = omega arith in
        ap (λ (x : ℕ). 2 ^ x / 2 ^ j % 2) sum
        ∙ ap (λ (x : ℕ). x / 2 ^ j % 2) (pow-add 2 (suc d) j)
        ∙ ap (λ (x : ℕ). x % 2) (shl-shr (2 ^ suc d) j)
        ∙ ap (λ (x : ℕ). x % 2) (sym (one-mul (2 ^ suc d)))
        ∙ shifted_even 1 d
    go (no above) =
        let less : k < j = omega arith in
        ap (λ (x : ℕ). x % 2) (div-eq_of_lt (pow-lt less))

-- ---- A bit of two numbers' union.
last_bit : (a b : ℕ) → bit_or a b % 2 ≡ max (a % 2) (b % 2)
last_bit a b =
    ap (λ (x : ℕ). x % 2) (or_step a b)
    ∙ mul-add-mod_self_right (bit_or (a / 2) (b / 2)) 2 (max (a % 2) (b % 2))
    ∙ mod-eq_of_lt (omega arith)

or-bit : (a b k : ℕ) → bit_or a b / 2 ^ k % 2 ≡ max (a / 2 ^ k % 2) (b / 2 ^ k % 2)
or-bit a b k = ap (λ (x : ℕ). x % 2) (or_shr a b k) ∙ last_bit (a / 2 ^ k) (b / 2 ^ k)

pub bit-set : (word k : ℕ) → bit_or word (2 ^ k) / 2 ^ k % 2 ≡ 1
bit-set word k =
    let bit = power-bit k in
    let small : word / 2 ^ k % 2 < 2 = omega arith in
    or-bit word (2 ^ k) k ∙ omega arith

pub bit_kept : (word k j : ℕ) → (j ≡ k → ⊥) → bit_or word (2 ^ k) / 2 ^ j % 2 ≡ word / 2 ^ j % 2
bit_kept word k j n =
    or-bit word (2 ^ k) j ∙ ap (max (word / 2 ^ j % 2)) (power-other k j n) ∙ max-zero (word / 2 ^ j % 2)
