-- The digits of a number and the number of digits: each gives back the other.
use mathlib.Core.Path.{◌≡◌, refl, sym, ◌∙◌}
use mathlib.Core.Bool.{true}
use mathlib.Core.List.{List, [], ◌∷◌, ◌++◌, append-nil}
use Prim.Native.Nat.{ℕ, zero, suc, ◌+◌, ◌*◌, ◌/◌, ◌%◌, ◌^◌, ◌≤◌, ◌<◌}
use native.Mathlib.Nat.{div-lt_iff_lt-mul, pow-suc, zero-add}
use native.Mathlib.Omega.{arith}
use lib.Dec.{leb}
use lib.ListN.{length, length-append, get_or}
use lib.Seq.{append_snoc}
use borrow.Author.Tests.{leb-true, le-leb}
use Rattle.tag.specs.Tags.{largest_tag, last_digits, ten_digits, number_from, number_of, are_digits}
use Rattle.tag.proofs.TagLaws.{both_true}

-- Past the end a list reads as 0, a digit too.
pub digit_at : (digits : List ℕ) (i : ℕ) → are_digits digits ≡ true → get_or digits i 0 ≤ 9
unfolding are_digits
digit_at [] i h = omega arith
digit_at (d ∷ ds) zero h = leb-true d 9 (both_true (leb d 9) (are_digits ds) h).0
digit_at (d ∷ ds) (suc i) h = digit_at ds i (both_true (leb d 9) (are_digits ds) h).1

-- ---- Digits are below 10.

digits_more : (digits : List ℕ) (d : ℕ) → are_digits digits ≡ true → d ≤ 9 → are_digits (digits ++ (d ∷ [])) ≡ true
unfolding are_digits
digits_more [] d h k = rw (le-leb d 9 k)
digits_more (x ∷ xs) d h k =
    let p = both_true (leb x 9) (are_digits xs) h in
    rw (p.0, digits_more xs d p.1 k)

pub last-are-digits : (k n : ℕ) → are_digits (last_digits k n) ≡ true
unfolding last_digits are_digits
last-are-digits zero n = refl
last-are-digits (suc k) n = digits_more (last_digits k (n / 10)) (n % 10) (last-are-digits k (n / 10)) (omega arith)

pub length_last : (k n : ℕ) → length (last_digits k n) ≡ k
unfolding last_digits
length_last zero n = refl
length_last (suc k) n = simp length-append (omega (arith, length_last k (n / 10)))

-- ---- The number of the digits of a number.

number_more : (digits : List ℕ) (n d : ℕ) → number_from n (digits ++ (d ∷ [])) ≡ number_from n digits * 10 + d
unfolding number_from
number_more [] n d = refl
number_more (x ∷ xs) n d = number_more xs (n * 10 + x) d

pub number-of-last : (k n : ℕ) → n < 10 ^ k → number_of (last_digits k n) ≡ n
unfolding last_digits number_from
number-of-last zero n h = omega arith
number-of-last (suc k) n h =
    let tenth : n / 10 < 10 ^ k = (div-lt_iff_lt-mul {k = 10} {x = n} {y = 10 ^ k} (omega arith)).1 (rw pow-suc at h) in
    number_more (last_digits k (n / 10)) 0 (n % 10) ∙ rw (number-of-last k (n / 10) tenth) (omega arith)

pub number-of-digits : (n : ℕ) → n ≤ largest_tag → number_of (ten_digits n) ≡ n
number-of-digits n h = number-of-last 10 n (omega arith)

-- ---- The digits of the number of digits.

digits_from : (digits : List ℕ) (k n : ℕ) → are_digits digits ≡ true
    → last_digits (length digits + k) (number_from n digits) ≡ last_digits k n ++ digits
unfolding last_digits number_from are_digits
digits_from [] k n h = rw (zero-add k) (sym (append-nil (last_digits k n)))
digits_from (d ∷ ds) k n h =
    let p = both_true (leb d 9) (are_digits ds) h in
    let small = leb-true d 9 p.0 in
    let tens : (n * 10 + d) / 10 ≡ n = omega arith in
    let ones : (n * 10 + d) % 10 ≡ d = omega arith in
    let e : suc (length ds) + k ≡ length ds + suc k = omega arith in
    let rest = rw (tens, ones) at (digits_from ds (suc k) (n * 10 + d) p.1) in
    rw e (rest ∙ append_snoc (last_digits k n) d ds)

pub digits-of-number : (digits : List ℕ) → length digits ≡ 10 → are_digits digits ≡ true
    → ten_digits (number_of digits) ≡ digits
unfolding last_digits
digits-of-number digits ten h =
    let e : length digits + 0 ≡ 10 = omega arith in
    rw e at (digits_from digits 0 0 h)

number-below : (digits : List ℕ) (i n : ℕ) → n < 10 ^ i → are_digits digits ≡ true
    → number_from n digits < 10 ^ (length digits + i)
unfolding number_from are_digits
number-below [] i n below h = rw (zero-add i) below
number-below (d ∷ ds) i n below h =
    let p = both_true (leb d 9) (are_digits ds) h in
    let small = leb-true d 9 p.0 in
    let e : suc (length ds) + i ≡ length ds + suc i = omega arith in
    let next : n * 10 + d < 10 ^ suc i = rw (pow-suc 10 i) (omega arith) in
    rw e (number-below ds (suc i) (n * 10 + d) next p.1)

pub number-at-most : (digits : List ℕ) → length digits ≡ 10 → are_digits digits ≡ true → number_of digits ≤ largest_tag
number-at-most digits ten h =
    let e : length digits + 0 ≡ 10 = omega arith in
    let r = rw e at (number-below digits 0 0 (omega arith) h) in
    omega arith
