-- Numbers, tags and rows of tags as they are printed, as bytes.
use Rattle.std.specs.Prelude.{true, false, List, [], ◌∷◌, ◌++◌, map, ℕ, zero, suc, ◌+◌, ◌/◌, ◌%◌, ltb}
use Prim.Native.Char.{code}
use Rattle.tag.specs.Tags.{last_digits}
use Rattle.text.specs.Text.{bytes}

-- The digits of a number below 10^k, where k is not 0: the number if it is below 10, else the digits of n / 10 and then
-- the last digit.
unfoldable pub digits_in : (k n : ℕ) → List ℕ
digits_in zero n = []
digits_in (suc k) n =
    elim (ltb n 10) as (λ _. List ℕ) [
      | true ↦ (code "0" + n) ∷ []
      | false ↦ digits_in k (n / 10) ++ ((code "0" + n % 10) ∷ [])
    ]

-- A number in decimal, with no zeros in front. n + 1 digits are enough for n.
abbrev pub decimal : ℕ → List ℕ
decimal n = digits_in (suc n) n

-- The last k digits of a number, with their zeros.
abbrev pub with_zeros : (k n : ℕ) → List ℕ
with_zeros k n = map (λ (d : ℕ). code "0" + d) (last_digits k n)

-- 02: "prints tags as ten digits with their zeros".
abbrev pub tag_text : ℕ → List ℕ
tag_text tag = with_zeros 10 tag

-- Tags, a space before each.
unfoldable pub spaced : List ℕ → List ℕ
spaced [] = []
spaced (tag ∷ tags) = bytes " " ++ tag_text tag ++ spaced tags
