-- What is promised of the pages holds.
use mathlib.Core.Path.{◌≡◌, refl, sym, ap, ◌∙◌}
use mathlib.Core.List.{List, [], ◌++◌, flatten, append_assoc}
use Prim.Native.Nat.{ℕ, zero, suc, ◌+◌, ◌*◌, ◌-◌, ◌/◌, ◌%◌, ◌≤◌, ◌<◌}
use native.Mathlib.Omega.{arith}
use lib.ListN.{length, take, drop, replicate, drop_of_length-le, length-drop, take-append-drop}
use lib.Seq.{take_at, drop_at, drop-drop, take_all}
use Rattle.text.specs.Numerals.{with_zeros}
use Rattle.text_page.specs.Page.{
  line_length,
  line_rest,
  line,
  title,
  heading,
  cell_length,
  cells,
  per_line,
  tag_line_count,
  per_page,
  tag_lines,
  page_text,
}
use Rattle.text_page.specs.Reader.{said, tags_in_lines, count_said, tags_said}
use Rattle.text_page.specs.Claims.{
  PageSized,
  is_printed,
  PagePrinted,
  line_at,
  tag_number,
  cell_or_blanks,
  AllPlaced,
  OnePlace,
  EachTagPlaced,
  PastLast,
  AreTags,
  PageSays,
  PagesSayLane,
}
use Rattle.text_page.proofs.Laws.Lengths.{heading-length, page-length}
use Rattle.text_page.proofs.Laws.Bytes.{each_at, page-printed, page-lines-sized}
use Rattle.text_page.proofs.Laws.Places.{
  cell-there,
  cell-dropped,
  ahead,
  below,
  cell-on-line,
  right-of-line,
  page-line,
}
use Rattle.text_page.proofs.Laws.ReadBack.{zeros-said, tags-dropped, lines-said}

pub page-sized : PageSized
page-sized tags page = (page-length tags page, page-lines-sized tags page)

pub all-printed : PagePrinted
all-printed tags page i h =
    each_at is_printed (page_text tags page) i (page-printed tags page) (omega (arith, page-length tags page))

-- ---- Places.
from-line : (tags : List ℕ) (page l n : ℕ) → l < tag_line_count
    → drop (line_at l + n) (page_text tags page)
    ≡ drop n (line (cells (take per_line (ahead tags page l))) ++ below tags page l)
from-line tags page l n low =
    sym (drop-drop n (line_at l) (page_text tags page)) ∙ ap (drop n) (page-line tags page l low)

pub all_placed : AllPlaced
unfolding page_text
all_placed tags page =
    record {
      first-line = take_at (heading (length tags)) _ line_length (heading-length (length tags));
      each_cell = λ l c low few.
          ap (take cell_length) (from-line tags page l (cell_length * c) low)
          ∙ cell-on-line (ahead tags page l) (below tags page l) c few
          ∙ cell-dropped (per_page * page + per_line * l) tags c;
      right_of_cells = λ l low.
          ap (take (line_length - cell_length * per_line))
          (from-line tags page l (cell_length * per_line) low ∙ right-of-line (ahead tags page l) (below tags page l));
    }

pub one_place : OnePlace
one_place page l c low few = (omega arith, omega arith, omega arith)

pub each-tag-placed : EachTagPlaced
each-tag-placed tags i h =
    let l = i % per_page / per_line in
    let c = i % per_line in
    let e : tag_number (i / per_page) l c ≡ i = omega arith in
    (all_placed tags (i / per_page)).each_cell l c (omega arith) (omega arith)
    ∙ ap (cell_or_blanks tags) e
    ∙ cell-there tags i h

no_lines : (n : ℕ) → tag_lines n [] ≡ flatten (replicate n (line []))
unfolding tag_lines cells flatten
no_lines zero = refl
no_lines (suc n) = ap (◌++◌ (line [])) (no_lines n)

pub past-last : PastLast
unfolding page_text
past-last tags page h =
    ap (λ (rest : List ℕ). heading (length tags) ++ tag_lines tag_line_count rest)
    (drop_of_length-le tags {i = per_page * page} h)
    ∙ ap (◌++◌ (heading (length tags))) (no_lines tag_line_count)

-- ---- What is said.
abbrev lines_on : (tags : List ℕ) → (page : ℕ) → List ℕ
lines_on tags page = tag_lines tag_line_count (drop (per_page * page) tags)

count-said : (tags : List ℕ) (page : ℕ) → length tags ≤ 9_999 → count_said (page_text tags page) ≡ length tags
unfolding page_text
count-said tags page few =
    let count = length tags in
    let rest = line_rest (length (title count)) in
    ap (said 4) (append_assoc (with_zeros 4 count) rest (lines_on tags page))
    ∙ zeros-said 4 count (rest ++ lines_on tags page) (omega arith)

tags-said : (tags : List ℕ) (page : ℕ) → AreTags tags
    → tags_said (page_text tags page) ≡ take per_page (drop (per_page * page) tags)
unfolding page_text
tags-said tags page are =
    ap (tags_in_lines tag_line_count)
    (drop_at (heading (length tags)) (lines_on tags page) line_length (heading-length (length tags)))
    ∙ lines-said tag_line_count (drop (per_page * page) tags) (tags-dropped (per_page * page) tags are)

pub page-says : PageSays
page-says tags page = (count-said tags page, tags-said tags page)

pub pages-say-lane : PagesSayLane
pages-say-lane tags are few =
    let left = length-drop (2 * per_page) tags in
    rw (tags-said tags 0 are, tags-said tags 1 are, tags-said tags 2 are)
    (ap (λ (third : List ℕ). take per_page tags ++ (take per_page (drop per_page tags) ++ third))
    (take_all per_page (drop (2 * per_page) tags) (omega arith))
    ∙ ap (λ (rest : List ℕ). take per_page tags ++ (take per_page (drop per_page tags) ++ rest))
    (sym (drop-drop per_page per_page tags))
    ∙ ap (◌++◌ (take per_page tags)) (take-append-drop per_page (drop per_page tags))
    ∙ take-append-drop per_page tags)
