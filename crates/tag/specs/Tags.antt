-- A tag: one number of ten digits, held as two words.
use Rattle.std.specs.Prelude.{Bool, true, ◌&&◌, List, [], ◌∷◌, ◌++◌, ℕ, zero, suc, ◌+◌, ◌*◌, ◌/◌, ◌%◌, leb, get_or, drop}

-- 02: "A tag is the leading digit times 1,000,000,000 plus the nine below, and is 1 to 9,999,999,999".
abbrev pub billion : ℕ
billion = 1_000_000_000

abbrev pub largest_tag : ℕ
largest_tag = 9_999_999_999

abbrev pub tag_of : (digit low : ℕ) → ℕ
tag_of digit low = digit * billion + low

-- The leading digit of a tag, and the number of the nine below.
abbrev pub digit_of : ℕ → ℕ
digit_of n = n / billion

abbrev pub low_of : ℕ → ℕ
low_of n = n % billion

-- Two words are a tag: "the leading digit 0 to 9", nine digits below, and no tag is 0.
abbrev pub is_tag : (digit low : ℕ) → Bool
is_tag digit low = leb digit 9 && leb low 999_999_999 && leb 1 (tag_of digit low)

-- 02: "two words for a tag, digit first". Of several tags, in order.
abbrev pub tag_words : ℕ → List ℕ
tag_words n = digit_of n ∷ low_of n ∷ []

unfoldable pub all_tag_words : List ℕ → List ℕ
all_tag_words [] = []
all_tag_words (n ∷ ns) = tag_words n ++ all_tag_words ns

-- The first n tags of such words.
unfoldable pub tags_in : (n : ℕ) → List ℕ → List ℕ
tags_in zero ws = []
tags_in (suc n) ws = tag_of (get_or ws 0 0) (get_or ws 1 0) ∷ tags_in n (drop 2 ws)

-- ---- The digits of a tag.

-- The last k decimal digits of a number, the highest first.
unfoldable pub last_digits : (k n : ℕ) → List ℕ
last_digits zero n = []
last_digits (suc k) n = last_digits k (n / 10) ++ (n % 10 ∷ [])

-- 02: "tags as ten digits with their zeros".
abbrev pub ten_digits : ℕ → List ℕ
ten_digits n = last_digits 10 n

-- The number that the digits of n and then these make, the highest first.
unfoldable pub number_from : (n : ℕ) (digits : List ℕ) → ℕ
number_from n [] = n
number_from n (d ∷ ds) = number_from (n * 10 + d) ds

abbrev pub number_of : List ℕ → ℕ
number_of ds = number_from 0 ds

-- A digit is 0 to 9.
unfoldable pub are_digits : List ℕ → Bool
are_digits [] = true
are_digits (d ∷ ds) = leb d 9 && are_digits ds
