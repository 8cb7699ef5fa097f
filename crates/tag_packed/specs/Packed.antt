-- One tag in packed decimal, as the baggage office sends and wants it.
use Rattle.std.specs.Prelude.{Bool, ◌&&◌, List, [], ◌∷◌, ℕ, zero, suc, ◌+◌, ◌*◌, ◌/◌, ◌%◌, leb, get_or, drop}
use Rattle.tag.specs.Tags.{tag_of, is_tag, tag_words, ten_digits, number_of, are_digits}

-- 02: "two digits to a byte, the higher first". The half bytes of bytes, and n bytes of 2n half bytes.
unfoldable pub halves : (bytes : List ℕ) → List ℕ
halves [] = []
halves (b ∷ bs) = b / 16 ∷ b % 16 ∷ halves bs

unfoldable pub pairs : (n : ℕ) (halves : List ℕ) → List ℕ
pairs zero hs = []
pairs (suc n) hs = (get_or hs 0 0 * 16 + get_or hs 1 0) ∷ pairs n (drop 2 hs)

-- 02: "ten digits, five bytes".
abbrev pub tag_bytes : (tag : ℕ) → List ℕ
tag_bytes tag = pairs 5 (ten_digits tag)

-- ---- Five bytes, read.
abbrev pub packed_number : (five : List ℕ) → ℕ
packed_number five = number_of (halves five)

-- 02: no tag is one that "has a half byte .. above 9 .. or is zero".
abbrev pub is_packed : (five : List ℕ) → Bool
is_packed five = are_digits (halves five) && leb 1 (packed_number five)

-- 02: "In memory a tag is two words, digit first".
abbrev pub unpacked : (five : List ℕ) → List ℕ
unpacked five = tag_words (packed_number five)

-- ---- Two words, written.

-- 02: no tag is one that "has a .. digit above 9, a low part above 999,999,999, or is zero".
abbrev pub are_tag : (two : List ℕ) → Bool
are_tag two = is_tag (get_or two 0 0) (get_or two 1 0)

abbrev pub packed : (two : List ℕ) → List ℕ
packed two = tag_bytes (tag_of (get_or two 0 0) (get_or two 1 0))
