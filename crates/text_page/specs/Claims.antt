-- Request 2026-09: what is promised of the pages of every list of tags.
use Rattle.std.specs.Prelude.{◌≡◌, Bool, true, cond, ◌&&◌, ◌||◌, ℕ, suc, ◌+◌, ◌*◌, ◌-◌, ◌/◌, ◌%◌, ◌≤◌, ◌<◌, eqb, leb, ltb, length, get_or, take, drop, replicate}
use mathlib.Core.List.{List, [], ◌++◌, map, flatten}
use Prim.Native.Char.{code}
use Rattle.tag.specs.Tags.{largest_tag}
use Rattle.text.specs.Lines.{line_feed, lines_of}
use Rattle.text_page.specs.Page.{
  column_count,
  line_count,
  line_length,
  page_length,
  blank,
  line_rest,
  line,
  heading,
  cell_length,
  cell,
  per_line,
  tag_line_count,
  per_page,
  page_text,
}
use Rattle.text_page.specs.Reader.{count_said, tags_said, lane_said}

-- ---- Its size. None of this asks anything of the tags.

-- 02: "A page is 60 lines of exactly 80 bytes and a line feed, 4,860 bytes."
abbrev pub PageSized : Type 0
PageSized =
    (tags : List ℕ) (page : ℕ)
    → (length (page_text tags page) ≡ page_length)
    × (map length (lines_of (page_text tags page)) ≡ replicate line_count column_count)

-- ---- Its bytes.

-- A digit, a capital of `LANE` or a blank.
abbrev pub is_glyph : ℕ → Bool
is_glyph byte =
    leb (code "0") byte && leb byte (code "9")
    || eqb byte (code "L")
    || eqb byte (code "A")
    || eqb byte (code "N")
    || eqb byte (code "E")
    || eqb byte blank

abbrev pub is_printed : ℕ → Bool
is_printed byte = is_glyph byte || eqb byte line_feed

abbrev pub PagePrinted : Type 0
PagePrinted = (tags : List ℕ) (page i : ℕ) → i < page_length → is_printed (get_or (page_text tags page) i 0) ≡ true

-- ---- Its places.

-- A line below the heading, and a cell of it, both from 0: where they stand on the page, and which tag is there.
abbrev pub line_at : (line : ℕ) → ℕ
line_at l = line_length * suc l

abbrev cell_at : (line cell : ℕ) → ℕ
cell_at l c = line_at l + cell_length * c

abbrev pub tag_number : (page line cell : ℕ) → ℕ
tag_number p l c = per_page * p + per_line * l + c

-- 02: "or those left".
abbrev pub cell_or_blanks : (tags : List ℕ) → (i : ℕ) → List ℕ
cell_or_blanks tags i = cond (ltb i (length tags)) (cell (get_or tags i 0)) (replicate cell_length blank)

-- Every byte of a page: the heading, the cells, and what is right of the last cell.
pub record PagePlaced (tags : List ℕ) (page : ℕ) : Type 0 where
  pub first-line : take line_length (page_text tags page) ≡ heading (length tags)
  pub each_cell :
      (l c : ℕ)
      → l < tag_line_count
      → c < per_line
      → take cell_length (drop (cell_at l c) (page_text tags page)) ≡ cell_or_blanks tags (tag_number page l c)
  pub right_of_cells :
      (l : ℕ)
      → l < tag_line_count
      → take (line_length - cell_length * per_line) (drop (cell_at l per_line) (page_text tags page))
      ≡ line_rest (cell_length * per_line)

abbrev pub AllPlaced : Type 0
AllPlaced = (tags : List ℕ) (page : ℕ) → PagePlaced tags page

-- Tag i is the one of just one page, line and cell; and it is there.
abbrev pub OnePlace : Type 0
OnePlace =
    (page l c : ℕ)
    → l < tag_line_count
    → c < per_line
    → let i = tag_number page l c in
    (i / per_page ≡ page) × (i % per_page / per_line ≡ l) × (i % per_line ≡ c)

abbrev pub EachTagPlaced : Type 0
EachTagPlaced =
    (tags : List ℕ) (i : ℕ)
    → i < length tags
    → take cell_length (drop (cell_at (i % per_page / per_line) (i % per_line)) (page_text tags (i / per_page)))
    ≡ cell (get_or tags i 0)

-- 02: "A page past the last tag has its heading and blank lines."
abbrev pub PastLast : Type 0
PastLast =
    (tags : List ℕ) (page : ℕ)
    → length tags ≤ per_page * page
    → page_text tags page ≡ heading (length tags) ++ flatten (replicate tag_line_count (line []))

-- ---- What it says. The tags have ten digits at most.
abbrev pub AreTags : (tags : List ℕ) → Type 0
AreTags tags = (i : ℕ) → i < length tags → get_or tags i 0 ≤ largest_tag

-- A heading says a count that has four digits at most; a page says its 413 tags, or those left.
abbrev pub PageSays : Type 0
PageSays =
    (tags : List ℕ) (page : ℕ)
    → (length tags ≤ 9_999 → count_said (page_text tags page) ≡ length tags)
    × (AreTags tags → tags_said (page_text tags page) ≡ take per_page (drop (per_page * page) tags))

-- Pages 0 to 2 say the lane, where it has no more than 3 times 413 tags.
abbrev pub PagesSayLane : Type 0
PagesSayLane =
    (tags : List ℕ)
    → AreTags tags
    → length tags ≤ 3 * per_page
    → lane_said (page_text tags 0) (page_text tags 1) (page_text tags 2) ≡ tags
