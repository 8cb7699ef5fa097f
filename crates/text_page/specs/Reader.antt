-- Request 2026-09: the pages of the shift sheet read back, by lines and columns alone.
use Rattle.std.specs.Prelude.{cond, List, [], ◌∷◌, ◌++◌, map, ℕ, zero, suc, ◌-◌, eqb, get_or, take, drop}
use Prim.Native.Char.{code}
use Rattle.tag.specs.Tags.{number_of}
use Rattle.text_page.specs.Page.{line_length, tag_line_count, per_line, cell_length, blank}

-- The number that the first k bytes say.
abbrev pub said : (k : ℕ) → (text : List ℕ) → ℕ
said k text = number_of (map (λ (byte : ℕ). byte - code "0") (take k text))

-- The tags of the n cells that stand first, up to a blank one.
unfoldable pub tags_in_cells : (n : ℕ) → (text : List ℕ) → List ℕ
tags_in_cells zero text = []
tags_in_cells (suc n) text =
    cond (eqb (get_or text 0 blank) blank) [] (said 10 text ∷ tags_in_cells n (drop cell_length text))

-- Those of the n lines that stand first.
unfoldable pub tags_in_lines : (n : ℕ) → (text : List ℕ) → List ℕ
tags_in_lines zero text = []
tags_in_lines (suc n) text = tags_in_cells per_line text ++ tags_in_lines n (drop line_length text)

-- The count that the heading says, after `LANE` and a space.
abbrev pub count_said : (page : List ℕ) → ℕ
count_said page = said 4 (drop 5 page)

-- The tags below the heading.
abbrev pub tags_said : (page : List ℕ) → List ℕ
tags_said page = tags_in_lines tag_line_count (drop line_length page)

-- The lane: the tags of its pages, one page after another.
abbrev pub lane_said : (first second third : List ℕ) → List ℕ
lane_said first second third = tags_said first ++ (tags_said second ++ tags_said third)
