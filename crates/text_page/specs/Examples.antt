-- Pages, each with its lines; `proofs/Worked` computes them.
use Rattle.std.specs.Prelude.{List, [], ◌∷◌, ◌++◌, ℕ, zero, suc, replicate}
use Rattle.text.specs.Text.{bytes}
use Rattle.text.specs.Lines.{lines_of}
use Rattle.text_page.specs.Page.{column_count, blank, page_text}

-- The lines of a page as the definitions give them, and as they are.
pub record Example : Type 0 where
  pub given : List (List ℕ)
  pub are : List (List ℕ)

-- Below the lines shown all are blank.
abbrev blank_line : List ℕ
blank_line = replicate column_count blank

infix 80 ◌has◌then◌
abbrev pub ◌has◌then◌ : (page : List ℕ) (lines : List (List ℕ)) (blanks : ℕ) → Example
page has lines then blanks = record { given = lines_of page; are = lines ++ replicate blanks blank_line }

-- n tags, from one on.
unfoldable pub up_from : (tag n : ℕ) → List ℕ
up_from tag zero = []
up_from tag (suc n) = tag ∷ up_from (suc tag) n

-- Two tags of the belt run, with their zeros, the largest, and five more.
abbrev pub eight : List ℕ
eight = 51 ∷ 9_999_999_999 ∷ 52 ∷ up_from 1_250_000_000 5

unfoldable pub examples : List Example
examples =
    -- No tag: the count has its zeros.
    page_text [] 0 has
    bytes "LANE 0000                                                                       "
    ∷ [] then 59
    -- Eight tags: seven on a line, and the one left.
    ∷ page_text eight 0 has
    bytes "LANE 0008                                                                       "
    ∷ bytes "0000000051 9999999999 0000000052 1250000000 1250000001 1250000002 1250000003    "
    ∷ bytes "1250000004                                                                      "
    ∷ [] then 57
    -- A page past the last tag has the whole lane's count.
    ∷ page_text eight 2 has
    bytes "LANE 0008                                                                       "
    ∷ [] then 59
    -- The 414th tag is the first of page 1.
    ∷ page_text (up_from 1 414) 1 has
    bytes "LANE 0414                                                                       "
    ∷ bytes "0000000414                                                                      "
    ∷ [] then 58
    ∷ []
