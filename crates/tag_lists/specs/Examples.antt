-- Lists read and written, with what each comes to; `proofs/Worked` computes them.
use Rattle.std.specs.Prelude.{List, [], ◌∷◌, ◌++◌, ℕ, replicate}
use Rattle.tag_lists.specs.TagLists.{count, refused, refused_at, ListOutcome, outcome, read_tags, write_tags}

-- An outcome as the definitions give it, and as it is.
pub record Example : Type 0 where
  pub given : ListOutcome
  pub is : ListOutcome

infix 80 ◌gives◌
abbrev pub ◌gives◌ : ListOutcome → ListOutcome → Example
given gives is = record { given = given; is = is }

-- The tags 51, 9,999,999,999 and 1,250,000,000; a byte of 16 x + y holds the digits x and y.
abbrev three_bytes : List ℕ
three_bytes =
    0 ∷ 0 ∷ 0 ∷ 0 ∷ 81
    ∷ 153 ∷ 153 ∷ 153 ∷ 153 ∷ 153
    ∷ 18 ∷ 80 ∷ 0 ∷ 0 ∷ 0
    ∷ []

abbrev three_words : List ℕ
three_words = 0 ∷ 51 ∷ 9 ∷ 999_999_999 ∷ 1 ∷ 250_000_000 ∷ []

unfoldable pub examples : List Example
examples =
    -- What is past the list stays.
    read_tags three_bytes (replicate 8 7) gives outcome (count 3) (three_words ++ replicate 2 7)
    ∷ write_tags three_words (replicate 16 7) gives outcome (count 3) (three_bytes ++ replicate 1 7)
    -- An empty list is a list.
    ∷ read_tags [] (7 ∷ []) gives outcome (count 0) (7 ∷ [])
    ∷ write_tags [] [] gives outcome (count 0) []
    -- 17: "byte length not a multiple of 5 or over 5,120", before 18 and 19. 5,120 bytes are not too many.
    ∷ read_tags (replicate 4 0) [] gives outcome (refused 17) []
    ∷ read_tags (replicate 5_125 0) [] gives outcome (refused 17) []
    ∷ read_tags (replicate 5_120 1) [] gives outcome (refused 19) []
    -- 17: "in writing an odd word count or over 2,048". 2,048 words are not too many.
    ∷ write_tags (replicate 3 0) [] gives outcome (refused 17) []
    ∷ write_tags (replicate 2_050 0) [] gives outcome (refused 17) []
    ∷ write_tags (replicate 2_048 1) [] gives outcome (refused 19) []
    -- 18: a half byte of 10, at place 1; another at place 0, before a bad tag; and zero, at place 3.
    ∷ read_tags (0 ∷ 0 ∷ 0 ∷ 0 ∷ 81 ∷ 0 ∷ 0 ∷ 0 ∷ 10 ∷ 1 ∷ []) [] gives outcome (refused_at 18 1) []
    ∷ read_tags (160 ∷ 0 ∷ 0 ∷ 0 ∷ 1 ∷ replicate 5 255) [] gives outcome (refused_at 18 0) []
    ∷ read_tags (three_bytes ++ replicate 5 0) (replicate 8 7) gives outcome (refused_at 18 3) (replicate 8 7)
    -- 18: a digit of 10, at place 1; a low part of 1,000,000,000; and zero, at place 3.
    ∷ write_tags (9 ∷ 1 ∷ 10 ∷ 1 ∷ []) [] gives outcome (refused_at 18 1) []
    ∷ write_tags (0 ∷ 1_000_000_000 ∷ []) [] gives outcome (refused_at 18 0) []
    ∷ write_tags (three_words ++ replicate 2 0) (replicate 20 7) gives outcome (refused_at 18 3) (replicate 20 7)
    -- 19: one element too short.
    ∷ read_tags three_bytes (replicate 5 7) gives outcome (refused 19) (replicate 5 7)
    ∷ write_tags three_words (replicate 14 7) gives outcome (refused 19) (replicate 14 7)
    ∷ []
