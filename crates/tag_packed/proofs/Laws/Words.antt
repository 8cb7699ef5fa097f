-- The two words of a tag's ten digits.
use mathlib.Core.Path.{◌≡◌, sym, ap, ◌∙◌}
use mathlib.Core.Bool.{true}
use mathlib.Core.List.{List, [], ◌∷◌}
use Prim.Native.Nat.{ℕ, zero, suc, ◌+◌, ◌*◌, ◌<◌}
use native.Mathlib.Omega.{arith}
use lib.ListN.{length, get_or, drop, drop_of_length-le}
use lib.Seq.{drop-cons}
use Rattle.tag.specs.Tags.{billion, digit_of, low_of, number_from, number_of, are_digits}
use Rattle.tag.proofs.TagLaws.{digit-of-tag, low-of-tag}
use Rattle.tag.proofs.DigitLaws.{digit_at}

-- The n elements of a list from a place on.
unfoldable elements : (list : List ℕ) (i n : ℕ) → List ℕ
elements list i zero = []
elements list i (suc n) = get_or list i 0 ∷ elements list (suc i) n

elements-left : (list : List ℕ) (i n : ℕ) → length list ≡ i + n → elements list i n ≡ drop i list
unfolding elements
elements-left list i zero e = sym (drop_of_length-le list {i = i} (omega arith))
elements-left list i (suc n) e =
    rw (drop-cons list i 0 (omega arith), elements-left list (suc i) n (omega arith))

module _ (digits : List ℕ) where
  -- The number of the four digits from a place on.
  abbrev four_at : (i : ℕ) → ℕ
  four_at i =
      get_or digits i 0 * 1_000 + get_or digits (suc i) 0 * 100 + get_or digits (suc (suc i)) 0 * 10
      + get_or digits (suc (suc (suc i))) 0

  abbrev low_digits : ℕ
  low_digits = get_or digits 1 0 * 100_000_000 + four_at 2 * 10_000 + four_at 6

  module _ (ten : length digits ≡ 10) where
    number-of-ten : number_of digits ≡ get_or digits 0 0 * billion + low_digits
    unfolding elements number_from
    number-of-ten = ap number_of (sym (elements-left digits 0 10 ten)) ∙ omega arith

    module _ (are : are_digits digits ≡ true) where
      low_below : low_digits < billion
      low_below =
          omega (
            arith,
            digit_at digits 1 are,
            digit_at digits 2 are,
            digit_at digits 3 are,
            digit_at digits 4 are,
            digit_at digits 5 are,
            digit_at digits 6 are,
            digit_at digits 7 are,
            digit_at digits 8 are,
            digit_at digits 9 are,
          )

      pub leading-digit : get_or digits 0 0 ≡ digit_of (number_of digits)
      leading-digit = rw number-of-ten (sym (digit-of-tag (get_or digits 0 0) low_digits low_below))

      pub low-digits : low_digits ≡ low_of (number_of digits)
      low-digits = rw number-of-ten (sym (low-of-tag (get_or digits 0 0) low_digits low_below))
