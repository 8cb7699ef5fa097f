-- How many bytes the parts of a page have.
use mathlib.Core.Path.{◌≡◌, refl}
use mathlib.Core.List.{List, [], ◌∷◌}
use Prim.Native.Nat.{ℕ, zero, suc, ◌*◌, ◌-◌, ◌≤◌}
use native.Mathlib.Omega.{arith}
use lib.ListN.{length, take, drop, replicate, length-append, length-replicate, length-take, length-map}
use Rattle.tag.proofs.DigitLaws.{length_last}
use Rattle.text.specs.Numerals.{with_zeros, tag_text}
use Rattle.text.specs.Lines.{line_feed}
use Rattle.text_page.specs.Page.{
  column_count,
  line_length,
  page_length,
  blank,
  line_rest,
  line,
  title,
  heading,
  cell_length,
  cell,
  cells,
  per_line,
  tag_line_count,
  per_page,
  tag_lines,
  page_text,
}

pub line-length : (text : List ℕ) → length text ≤ column_count → length (line text) ≡ line_length
line-length text h =
    let blanks = replicate (column_count - length text) blank in
    let fed = length-append blanks (line_feed ∷ []) in
    omega (arith, length-append text (line_rest (length text)), length-replicate (column_count - length text) blank)

pub zeros-length : (k n : ℕ) → length (with_zeros k n) ≡ k
zeros-length k n = simp length-map (length_last k n)

pub title-length : (count : ℕ) → length (title count) ≡ 9
title-length count = omega (arith, zeros-length 4 count)

pub heading-length : (count : ℕ) → length (heading count) ≡ line_length
heading-length count = line-length (title count) (omega (arith, title-length count))

pub cell-length : (tag : ℕ) → length (cell tag) ≡ cell_length
cell-length tag = omega (arith, zeros-length 10 tag, length-append (tag_text tag) (blank ∷ []))

pub cells-length : (tags : List ℕ) → length (cells tags) ≡ cell_length * length tags
unfolding cells
cells-length [] = refl
cells-length (tag ∷ tags) =
    let both = length-append (cell tag) (cells tags) in
    omega (arith, cell-length tag, cells-length tags)

-- The cells of a line fit.
pub few-taken : (tags : List ℕ) → length (take per_line tags) ≤ per_line
few-taken tags = omega (arith, length-take per_line tags)

pub cells_fit : (tags : List ℕ) → length (cells (take per_line tags)) ≤ cell_length * per_line
cells_fit tags = omega (arith, cells-length (take per_line tags), few-taken tags)

pub tag-line-length : (tags : List ℕ) → length (line (cells (take per_line tags))) ≡ line_length
tag-line-length tags = line-length (cells (take per_line tags)) (omega (arith, cells_fit tags))

pub tag-lines-length : (n : ℕ) (tags : List ℕ) → length (tag_lines n tags) ≡ line_length * n
unfolding tag_lines
tag-lines-length zero tags = refl
tag-lines-length (suc n) tags =
    let both = length-append (line (cells (take per_line tags))) (tag_lines n (drop per_line tags)) in
    omega (arith, tag-line-length tags, tag-lines-length n (drop per_line tags))

pub page-length : (tags : List ℕ) (page : ℕ) → length (page_text tags page) ≡ page_length
unfolding page_text
page-length tags page =
    let rest = drop (per_page * page) tags in
    let both = length-append (heading (length tags)) (tag_lines tag_line_count rest) in
    omega (arith, heading-length (length tags), tag-lines-length tag_line_count rest)
