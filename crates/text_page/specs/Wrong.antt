-- Wrong pages as definitions, each with a lane that tells it from the right one, and how; `proofs/Refuted` computes it.
use Rattle.std.specs.Prelude.{◌≡◌, Bool, true, false, ◌&&◌, List, [], ◌∷◌, ◌++◌, map, reverse, ℕ, zero, suc, ◌*◌, ◌-◌, eqb, length, take, drop, replicate}
use Rattle.std.proofs.Math.Option.{Option, some, none}
use Rattle.text.specs.Text.{bytes, same}
use Rattle.text.specs.Lines.{line_feed, lines_of}
use Rattle.text.specs.Numerals.{with_zeros, tag_text, decimal}
use Rattle.text_page.specs.Page.{
  column_count,
  line_count,
  blank,
  line,
  cell,
  per_line,
  tag_line_count,
  per_page,
  page_text,
}
use Rattle.text_page.specs.Reader.{count_said, tags_said}
use Rattle.text_page.specs.Claims.{is_printed}
use Rattle.text_page.specs.Examples.{up_from, eight}

-- ---- A page, with each of its parts as a parameter.
abbrev Writer : Type 0
Writer = (tags : List ℕ) → (page : ℕ) → List ℕ

unfoldable pub cells_by : (cell : ℕ → List ℕ) → List ℕ → List ℕ
cells_by cell [] = []
cells_by cell (tag ∷ tags) = cell tag ++ cells_by cell tags

unfoldable pub lines_by : (line : List ℕ → List ℕ) (cell : ℕ → List ℕ) (per_line n : ℕ) → (tags : List ℕ) → List ℕ
lines_by line cell each zero tags = []
lines_by line cell each (suc n) tags = line (cells_by cell (take each tags)) ++ lines_by line cell each n (drop each tags)

-- How a line goes on after its text, how a tag stands in its cell, how many are on a line, the count's text, and the
-- tags from which the page takes its own.
unfoldable pub page_by :
    (line : List ℕ → List ℕ)
    (cell : ℕ → List ℕ)
    (per_line : ℕ)
    (count : (tags : List ℕ) → (page : ℕ) → List ℕ)
    (ahead : (tags : List ℕ) → (page : ℕ) → List ℕ)
    → Writer
page_by line cell each count ahead tags page =
    line (bytes "LANE " ++ count tags page) ++ lines_by line cell each tag_line_count (ahead tags page)

abbrev whole_count : (tags : List ℕ) → (page : ℕ) → List ℕ
whole_count tags page = with_zeros 4 (length tags)

abbrev from_page : (tags : List ℕ) → (page : ℕ) → List ℕ
from_page tags page = drop (per_page * page) tags

abbrev right_page : Writer
right_page = page_by line cell per_line whole_count from_page

-- The right one but for a part.
abbrev counting : ((tags : List ℕ) → (page : ℕ) → List ℕ) → Writer
counting count = page_by line cell per_line count from_page

abbrev taking : ((tags : List ℕ) → (page : ℕ) → List ℕ) → Writer
taking ahead = page_by line cell per_line whole_count ahead

abbrev ending : (List ℕ → List ℕ) → Writer
ending line = page_by line cell per_line whole_count from_page

-- ---- Eight tags a line; six.
abbrev eight_per_line : Writer
eight_per_line = page_by line cell 8 whole_count from_page

abbrev six_per_line : Writer
six_per_line = page_by line cell 6 whole_count from_page

-- ---- The count of the page's tags; the count without its zeros.
abbrev counts_page : Writer
counts_page = counting (λ tags page. with_zeros 4 (length (take per_page (from_page tags page))))

abbrev counts_bare : Writer
counts_bare = counting (λ tags page. decimal (length tags))

-- ---- The right end first; pages from 1; pages of 412 tags that share one, and of 414 that leave one out.
abbrev from_right : Writer
from_right = taking (λ tags page. drop (per_page * page) (reverse tags))

abbrev pages_from_one : Writer
pages_from_one = taking (λ tags page. drop (per_page * (page - 1)) tags)

abbrev pages_of : ℕ → Writer
pages_of n = taking (λ tags page. drop (n * page) tags)

-- ---- A carriage return before the line feed, after the 80 columns or in the last of them; no blanks.
abbrev carriage_return : ℕ
carriage_return = 13

abbrev ends_by : (columns : ℕ) → (end : List ℕ) → Writer
ends_by columns end = ending (λ text. text ++ (replicate (columns - length text) blank ++ end))

-- ---- Tags without their zeros; the blank before the tag.
abbrev bare_tags : Writer
bare_tags = page_by line (λ tag. decimal tag ++ (blank ∷ [])) per_line whole_count from_page

abbrev blank_first : Writer
blank_first = page_by line (λ tag. blank ∷ tag_text tag) per_line whole_count from_page

-- ---- How the promises judge a page.
pub data Verdict : Type 0 where
  passes : Verdict
  other-lines : Verdict
  other_bytes : Verdict
  other_count : Verdict
  other_tags : Verdict

unfoldable pub all_printed : List ℕ → Bool
all_printed [] = true
all_printed (b ∷ bs) = is_printed b && all_printed bs

-- 60 lines of 80 columns, of digits, `LANE` and blanks; and what the reader finds.
unfoldable pub judged_text : (text tags : List ℕ) → (page : ℕ) → Verdict
judged_text text tags page =
    elim (same (map length (lines_of text)) (replicate line_count column_count)) as (λ _. Verdict) [
      | false ↦ other-lines
      | true ↦
          elim (all_printed text) as (λ _. Verdict) [
            | false ↦ other_bytes
            | true ↦
                elim (eqb (count_said text) (length tags)) as (λ _. Verdict) [
                  | false ↦ other_count
                  | true ↦
                      elim (same (tags_said text) (take per_page (drop (per_page * page) tags))) as (λ _. Verdict) [
                        | false ↦ other_tags
                        | true ↦ passes
                      ]
                ]
          ]
    ]

-- The first byte that is not the definition's.
unfoldable pub first_other : (text due : List ℕ) → (place : ℕ) → Option ℕ
first_other [] [] i = none
first_other [] (d ∷ due) i = some i
first_other (b ∷ text) [] i = some i
first_other (b ∷ text) (d ∷ due) i =
    elim (eqb b d) as (λ _. Option ℕ) [ false ↦ some i | true ↦ first_other text due (suc i) ]

pub record Entry : Type 0 where
  pub wrong : Writer
  pub tags : List ℕ
  pub page : ℕ
  pub by_promises : Verdict
  pub first-other : ℕ

-- What the promises say of the right page and of a wrong one, and the first byte of each that is not the definition's.
pub record Judged : Type 0 where
  pub right_by_promises : Verdict
  pub wrong_by_promises : Verdict
  pub right_by_definition : Option ℕ
  pub wrong_by_definition : Option ℕ

unfoldable pub judged : Entry → Judged
judged e =
    let due = page_text e.tags e.page in
    let right = right_page e.tags e.page in
    let wrong = e.wrong e.tags e.page in
    record {
      right_by_promises = judged_text right e.tags e.page;
      wrong_by_promises = judged_text wrong e.tags e.page;
      right_by_definition = first_other right due 0;
      wrong_by_definition = first_other wrong due 0;
    }

unfoldable pub expected : Entry → Judged
expected e =
    record {
      right_by_promises = passes;
      wrong_by_promises = e.by_promises;
      right_by_definition = none;
      wrong_by_definition = some e.first-other;
    }

abbrev entry : Writer → (tags : List ℕ) → (page : ℕ) → (by_promises : Verdict) → (first-other : ℕ) → Entry
entry W tags page v i = record { wrong = W; tags = tags; page = page; by_promises = v; first-other = i }

-- Six on a line can be read back, while the page has room.
unfoldable pub entries : List Entry
entries =
    -- Wrong: Eight tags a line.
    entry eight_per_line eight 0 other-lines 158
    -- Wrong: Six tags a line, of eight tags: they can still be read.
    ∷ entry six_per_line eight 0 passes 147
    -- Wrong: The same of 355 tags, for which it has no room.
    ∷ entry six_per_line (up_from 1 355) 0 other_tags 147
    -- Wrong: The count of the page's tags, not of the lane's.
    ∷ entry counts_page eight 1 other_count 8
    -- Wrong: The count without its zeros.
    ∷ entry counts_bare eight 0 other_count 5
    -- Wrong: The right end first.
    ∷ entry from_right eight 0 other_tags 81
    -- Wrong: Pages are named from 1.
    ∷ entry pages_from_one eight 1 other_tags 81
    -- Wrong: A page begins at 412 times its number: one tag is on two pages.
    ∷ entry (pages_of 412) (up_from 1 413) 1 other_tags 81
    -- Wrong: A page begins at 414 times its number: one tag is on none.
    ∷ entry (pages_of 414) (up_from 1 414) 1 other_tags 81
    -- Wrong: A carriage return after the 80 columns, before the line feed.
    ∷ entry (ends_by 80 (carriage_return ∷ line_feed ∷ [])) eight 0 other-lines 80
    -- Wrong: A carriage return in the last column.
    ∷ entry (ends_by 79 (carriage_return ∷ line_feed ∷ [])) eight 0 other_bytes 79
    -- Wrong: No blanks after a line's text.
    ∷ entry (ends_by 0 (line_feed ∷ [])) eight 0 other-lines 9
    -- Wrong: Tags without their zeros.
    ∷ entry bare_tags eight 0 other_tags 81
    -- Wrong: The blank before its tag.
    ∷ entry blank_first eight 0 other_tags 81
    ∷ []

-- ---- The claim: the right one passes, and each wrong one fails as said.
abbrev pub AllRefuted : Type 0
AllRefuted = map judged entries ≡ map expected entries

-- And the right one is `page_text`.
abbrev pub RightIsPage : Type 0
RightIsPage = (tags : List ℕ) (page : ℕ) → right_page tags page ≡ page_text tags page
