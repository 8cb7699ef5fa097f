-- A number in decimal: the digits that `io::decimal` puts are these, and how many there are.
use mathlib.Core.Path.{◌≡◌, sym, ap, ◌∙◌}
use mathlib.Core.List.{List, [], ◌∷◌, ◌++◌}
use Prim.Native.Nat.{ℕ, zero, suc, ◌+◌, ◌-◌, ◌/◌, ◌%◌, ◌^◌, ◌≤◌, ◌<◌}
use native.Mathlib.Nat.{
  not-suc-le-zero,
  one-le-pow,
  mod-lt,
  mod-eq_of_lt,
  pow-suc,
  div-lt_iff_lt-mul,
  le-div_iff_mul-le,
}
use native.Mathlib.Decide.{dec_lt}
use native.Mathlib.Omega.{arith}
use lib.ListN.{length, length-append}
use borrow.Author.Tests.{lt-ltb, le-ltb}
use Rattle.io.specs.Digits.{hex_digit_ascii, last_digits, IsDigitCount}
use Rattle.text.specs.Numerals.{digits_in, decimal}

-- The two cases of the definition.
one-digit : (k n : ℕ) → n < 10 → digits_in (suc k) n ≡ (48 + n) ∷ []
unfolding digits_in
one-digit k n h = rw (lt-ltb n 10 h, digits_in)

more-digits : (k n : ℕ) → 10 ≤ n → digits_in (suc k) n ≡ digits_in k (n / 10) ++ ((48 + n % 10) ∷ [])
unfolding digits_in
more-digits k n h = rw (le-ltb n 10 h, digits_in)

last-digit : (n : ℕ) → hex_digit_ascii (n % 10) ≡ 48 + n % 10
last-digit n = rw (lt-ltb (n % 10) 10 (mod-lt n (omega arith)))

-- How far a tenth of a number reaches.
tenth-below : (n k : ℕ) → n < 10 ^ suc k → n / 10 < 10 ^ k
tenth-below n k h = (div-lt_iff_lt-mul {k = 10} {x = n} {y = 10 ^ k} (omega arith)).1 (rw pow-suc at h)

tenth-least : (n k : ℕ) → 10 ^ suc k ≤ n → 10 ^ k ≤ n / 10
tenth-least n k h = (le-div_iff_mul-le {k = 10} {x = 10 ^ k} {y = n} (omega arith)).1 (rw pow-suc at h)

-- The k + 1 digits of a number that has no fewer.
digits_are : (k f n : ℕ) → n < f → n < 10 ^ suc k → (0 < k → 10 ^ k ≤ n) → last_digits 10 (suc k) n ≡ digits_in f n
digits_are zero zero n l u m = elim l [ ]
digits_are (suc k) zero n l u m = elim l [ ]
digits_are zero (suc f) n l u m =
    let below : n < 10 = rw pow-suc at u in
    rw (last-digit n, mod-eq_of_lt below) (sym (one-digit f n below))
digits_are (suc k) (suc f) n l u m =
    let least : 10 ^ suc k ≤ n = m (omega arith) in
    let ten : 10 ≤ n = omega (arith, pow-suc 10 k, one-le-pow k 10 (omega arith)) in
    let tenth : last_digits 10 (suc k) (n / 10) ≡ digits_in f (n / 10) =
    digits_are k f (n / 10) (omega arith) (tenth-below n (suc k) u) (λ _. tenth-least n k least) in
    ap (λ (l : List ℕ). l ++ (hex_digit_ascii (n % 10) ∷ [])) tenth ∙ rw (last-digit n) (sym (more-digits f n ten))

-- What `io::decimal` promises of its digits makes them those of `decimal`.
pub fewest-digits : (n k : ℕ) → IsDigitCount 10 1 n k → last_digits 10 k n ≡ decimal n
fewest-digits n zero h = absurd (not-suc-le-zero h.0)
fewest-digits n (suc k) h =
    let e : suc k - 1 ≡ k = omega arith in
    digits_are k (suc n) n (omega arith) h.1 (λ more. rw e at (h.2 (omega arith)))

-- A number below 10^(k + 1) has at most k + 1 digits.
digits-at-most : (k f n : ℕ) → n < 10 ^ suc k → length (digits_in f n) ≤ suc k
unfolding digits_in
digits-at-most k zero n h = omega arith
digits-at-most zero (suc f) n h = rw (one-digit f n (rw pow-suc at h)) (omega arith)
digits-at-most (suc k) (suc f) n h =
    elim (dec_lt n 10) as (λ _. length (digits_in (suc f) n) ≤ suc (suc k)) [
      | yes one ↦ rw (one-digit f n one) (omega arith)
      | no more ↦
          let tenth : length (digits_in f (n / 10)) ≤ suc k = digits-at-most k f (n / 10) (tenth-below n (suc k) h) in
          rw (more-digits f n (omega arith)) (simp length-append (omega arith))
    ]

-- A word has at most ten digits.
pub decimal-length : (n : ℕ) → n < 2 ^ 32 → length (decimal n) ≤ 10
decimal-length n h = digits-at-most 9 (suc n) n (omega arith)
