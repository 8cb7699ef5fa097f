-- Request 2026-09: a page of the shift sheet, from the tags of a lane, as bytes. It knows no table.
use Rattle.std.specs.Prelude.{List, [], ◌∷◌, ◌++◌, ℕ, zero, suc, ◌+◌, ◌*◌, ◌-◌, length, take, drop, replicate}
use Prim.Native.Char.{code}
use Rattle.text.specs.Text.{bytes}
use Rattle.text.specs.Lines.{line_feed}
use Rattle.text.specs.Numerals.{with_zeros, tag_text}

-- 02: "The shift office prints 80 columns by 60 lines."
abbrev pub column_count : ℕ
column_count = 80

abbrev pub line_count : ℕ
line_count = 60

-- 02: "A page is 60 lines of exactly 80 bytes and a line feed, 4,860 bytes."
abbrev pub line_length : ℕ
line_length = column_count + 1

abbrev pub page_length : ℕ
page_length = line_count * line_length

abbrev pub blank : ℕ
blank = code " "

-- What follows so many bytes of a line: "blanks to 80", and the line feed.
abbrev pub line_rest : (used : ℕ) → List ℕ
line_rest used = replicate (column_count - used) blank ++ (line_feed ∷ [])

abbrev pub line : List ℕ → List ℕ
line text = text ++ line_rest (length text)

-- 02: "The first line holds `LANE`, a space and the whole lane's bag count in four digits, blanks after."
abbrev pub title : (count : ℕ) → List ℕ
title count = bytes "LANE " ++ with_zeros 4 count

abbrev pub heading : (count : ℕ) → List ℕ
heading count = line (title count)

-- 02: "each ten digits and one blank".
abbrev pub cell : (tag : ℕ) → List ℕ
cell tag = tag_text tag ++ (blank ∷ [])

abbrev pub cell_length : ℕ
cell_length = 11

unfoldable pub cells : (tags : List ℕ) → List ℕ
cells [] = []
cells (tag ∷ tags) = cell tag ++ cells tags

-- 02: "Each further line holds the next seven tags, or those left, .. then blanks to 80, left end first."
abbrev pub per_line : ℕ
per_line = 7

unfoldable pub tag_lines : (n : ℕ) → (tags : List ℕ) → List ℕ
tag_lines zero tags = []
tag_lines (suc n) tags = line (cells (take per_line tags)) ++ tag_lines n (drop per_line tags)

-- 02: "A page takes 413 tags, and the caller names the page from 0." All lines but the first are further lines.
abbrev pub tag_line_count : ℕ
tag_line_count = line_count - 1

abbrev pub per_page : ℕ
per_page = 413

unfoldable pub page_text : (tags : List ℕ) → (page : ℕ) → List ℕ
page_text tags page = heading (length tags) ++ tag_lines tag_line_count (drop (per_page * page) tags)
