-- What the reader finds in the cells, lines and heading of a page.
use mathlib.Core.Path.{◌≡◌, refl, sym, ap, ◌∙◌}
use mathlib.Core.List.{List, [], ◌∷◌, ◌++◌, map, append_assoc}
use Prim.Native.Nat.{ℕ, zero, suc, ◌+◌, ◌*◌, ◌-◌, ◌^◌, ◌≤◌, ◌<◌}
use native.Mathlib.Omega.{arith}
use borrow.Author.Tests.{ne_eqb}
use lib.ListN.{length, get_or, take, drop, replicate, length-take, length-drop}
use lib.Seq.{take_at, drop_at, take-add, get_or-take, get_or-drop}
use Rattle.tag.specs.Tags.{largest_tag, last_digits, number_of}
use Rattle.tag.proofs.DigitLaws.{number-of-last}
use Rattle.text.specs.Lines.{line_feed}
use Rattle.text.specs.Numerals.{with_zeros, tag_text}
use Rattle.text_page.specs.Page.{column_count, line_length, blank, line, cell_length, cell, cells, per_line, tag_lines}
use Rattle.text_page.specs.Reader.{said, tags_in_cells, tags_in_lines}
use Rattle.text_page.specs.Claims.{AreTags}
use Rattle.text_page.proofs.Laws.Bytes.{line-opened}
use Rattle.text_page.proofs.Laws.Lengths.{zeros-length, cell-length, few-taken, cells_fit, tag-line-length}

-- ---- Digits read back.
digits-back : (ds : List ℕ) → map (λ (b : ℕ). b - 48) (map (λ (d : ℕ). 48 + d) ds) ≡ ds
digits-back [] = refl
digits-back (d ∷ ds) = let e : 48 + d - 48 ≡ d = omega arith in λ i. e i ∷ digits-back ds i

pub zeros-said : (k n : ℕ) (rest : List ℕ) → n < 10 ^ k → said k (with_zeros k n ++ rest) ≡ n
zeros-said k n rest h =
    ap (λ (text : List ℕ). number_of (map (λ (b : ℕ). b - 48) text)) (take_at (with_zeros k n) rest k (zeros-length k n))
    ∙ ap number_of (digits-back (last_digits k n))
    ∙ number-of-last k n h

-- ---- A cell begins with a digit, so it is not blank.
cell-begins : (tag : ℕ) (rest : List ℕ) → get_or (cell tag ++ rest) 0 blank ≡ blank → ⊥
unfolding last_digits
cell-begins tag rest e = omega (arith, e)

cell-said : (tag : ℕ) (rest : List ℕ) → tag ≤ largest_tag → said 10 (cell tag ++ rest) ≡ tag
cell-said tag rest h =
    ap (said 10) (append_assoc (tag_text tag) (blank ∷ []) rest) ∙ zeros-said 10 tag (blank ∷ rest) (omega arith)

-- ---- Cells, and after them a blank one.
cells-said : (tags : List ℕ) (n : ℕ) (rest : List ℕ) → AreTags tags → length tags ≤ n → get_or rest 0 blank ≡ blank
    → tags_in_cells n (cells tags ++ rest) ≡ tags
unfolding cells tags_in_cells
cells-said [] zero rest are few ends = refl
cells-said [] (suc n) rest are few ends = rw ends
cells-said (tag ∷ tags) zero rest are few ends = absurd (omega arith)
cells-said (tag ∷ tags) (suc n) rest are few ends =
    let all = cells tags ++ rest in
    rw (
      append_assoc (cell tag) (cells tags) rest,
      ne_eqb _ _ (cell-begins tag all),
      cell-said tag all (are zero (omega arith)),
      drop_at (cell tag) all cell_length (cell-length tag),
    )
    (ap (λ (l : List ℕ). tag ∷ l) (cells-said tags n rest (λ i h. are (suc i) (omega arith)) (omega arith) ends))

-- ---- Lines. A line has a column more than its cells, so that blanks follow the last.
tags-taken : (n : ℕ) (tags : List ℕ) → AreTags tags → AreTags (take n tags)
tags-taken n tags are i h =
    let taken = length-take n tags in
    rw (get_or-take n tags i 0 (omega arith)) (are i (omega arith))

pub tags-dropped : (n : ℕ) (tags : List ℕ) → AreTags tags → AreTags (drop n tags)
tags-dropped n tags are i h =
    let left = length-drop n tags in
    rw (get_or-drop n tags i 0) (are (n + i) (omega arith))

blank-first : (n : ℕ) (rest : List ℕ) → 0 < n → get_or (replicate n blank ++ rest) 0 blank ≡ blank
blank-first zero rest h = absurd (omega arith)
blank-first (suc n) rest h = refl

line-said : (tags rest : List ℕ) → AreTags tags
    → tags_in_cells per_line (line (cells (take per_line tags)) ++ rest) ≡ take per_line tags
line-said tags rest are =
    let text = cells (take per_line tags) in
    let blanks = column_count - length text in
    let fit = cells_fit tags in
    ap (tags_in_cells per_line) (line-opened text rest)
    ∙ cells-said (take per_line tags) per_line (replicate blanks blank ++ (line_feed ∷ rest)) (tags-taken per_line tags are)
    (few-taken tags) (blank-first blanks (line_feed ∷ rest) (omega arith))

pub lines-said : (n : ℕ) (tags : List ℕ) → AreTags tags → tags_in_lines n (tag_lines n tags) ≡ take (per_line * n) tags
unfolding tag_lines tags_in_lines
lines-said zero tags are = refl
lines-said (suc n) tags are =
    let first = line (cells (take per_line tags)) in
    let later = tag_lines n (drop per_line tags) in
    let e : per_line * suc n ≡ per_line + per_line * n = omega arith in
    rw (
      line-said tags later are,
      drop_at first later line_length (tag-line-length tags),
      lines-said n (drop per_line tags) (tags-dropped per_line tags are),
      e,
    )
    (sym (take-add per_line (per_line * n) tags))
