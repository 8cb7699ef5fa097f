-- Every wrong page is refuted, by computation over the definitions.
use mathlib.Core.Path.{◌≡◌, refl, ap}
use mathlib.Core.List.{List, [], ◌∷◌, ◌++◌}
use Prim.Native.Nat.{ℕ, zero, suc, ◌*◌}
use lib.ListN.{length, take, drop}
use Rattle.tag.specs.Tags.{last_digits, number_from}
use Rattle.text.specs.Lines.{lines_of}
use Rattle.text.specs.Numerals.{digits_in}
use Rattle.text_page.specs.Page.{line, heading, cell, cells, per_line, tag_line_count, per_page, tag_lines, page_text}
use Rattle.text_page.specs.Reader.{tags_in_cells, tags_in_lines}
use Rattle.text_page.specs.Examples.{up_from}
use Rattle.text_page.specs.Wrong.{
  cells_by,
  lines_by,
  page_by,
  all_printed,
  judged_text,
  first_other,
  judged,
  expected,
  entries,
  AllRefuted,
  RightIsPage,
}

pub all-refuted : AllRefuted
unfolding cells_by lines_by page_by all_printed judged_text first_other judged expected entries up_from cells tag_lines page_text
    tags_in_cells tags_in_lines digits_in lines_of last_digits number_from
all-refuted = refl

cells-by : (tags : List ℕ) → cells_by cell tags ≡ cells tags
unfolding cells_by cells
cells-by [] = refl
cells-by (tag ∷ tags) = ap (◌++◌ (cell tag)) (cells-by tags)

lines-by : (n : ℕ) (tags : List ℕ) → lines_by line cell per_line n tags ≡ tag_lines n tags
unfolding lines_by tag_lines
lines-by zero tags = refl
lines-by (suc n) tags = rw (cells-by (take per_line tags), lines-by n (drop per_line tags))

pub right-is-page : RightIsPage
unfolding page_by page_text
right-is-page tags page =
    ap (◌++◌ (heading (length tags))) (lines-by tag_line_count (drop (per_page * page) tags))
