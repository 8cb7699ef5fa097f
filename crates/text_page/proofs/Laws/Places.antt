-- Where each tag of a page stands.
use mathlib.Core.Path.{◌≡◌, refl, sym, ap, ◌∙◌}
use mathlib.Core.List.{List, [], ◌∷◌, ◌++◌, append_assoc}
use Prim.Native.Nat.{ℕ, zero, suc, ◌+◌, ◌*◌, ◌-◌, ◌≤◌, ◌<◌}
use native.Mathlib.Omega.{arith}
use native.Mathlib.Nat.{sub-zero}
use native.Mathlib.Decide.{dec_lt}
use borrow.Author.Tests.{lt-ltb, le-ltb}
use lib.ListN.{length, get_or, take, drop, replicate, length-take, length-drop}
use lib.Seq.{take_at, drop_at, drop-append-add, drop-drop, get_or-take, get_or-drop}
use Rattle.text.specs.Lines.{line_feed}
use Rattle.text_page.specs.Page.{
  column_count,
  line_length,
  blank,
  line_rest,
  line,
  heading,
  cell_length,
  cell,
  cells,
  per_line,
  tag_line_count,
  per_page,
  tag_lines,
  page_text,
}
use Rattle.text_page.specs.Claims.{line_at, cell_or_blanks}
use Rattle.text_page.proofs.Laws.Bytes.{line-opened}
use Rattle.text_page.proofs.Laws.Lengths.{heading-length, cell-length, cells-length, cells_fit, tag-line-length}

-- ---- The cell of tag i, where there is one, and blanks where there is none.
module _ (tags : List ℕ) (i : ℕ) where
  pub cell-there : i < length tags → cell_or_blanks tags i ≡ cell (get_or tags i 0)
  cell-there h = rw (lt-ltb i (length tags) h)

  no_cell : length tags ≤ i → cell_or_blanks tags i ≡ replicate cell_length blank
  no_cell h = rw (le-ltb i (length tags) h)

-- Tag i of one list is tag j of another.
same-cell : (xs ys : List ℕ) (i j : ℕ) → get_or xs i 0 ≡ get_or ys j 0 → (i < length xs → j < length ys)
    → (length xs ≤ i → length ys ≤ j) → cell_or_blanks xs i ≡ cell_or_blanks ys j
same-cell xs ys i j same more none = go (dec_lt i (length xs))
  where
    go : Dec (i < length xs) → cell_or_blanks xs i ≡ cell_or_blanks ys j
    go (yes h) = cell-there xs i h ∙ ap cell same ∙ sym (cell-there ys j (more h))
    go (no h) = no_cell xs i (omega arith) ∙ sym (no_cell ys j (none (omega arith)))

cell-later : (tag : ℕ) (tags : List ℕ) (c : ℕ) → cell_or_blanks tags c ≡ cell_or_blanks (tag ∷ tags) (suc c)
cell-later tag tags c = same-cell tags (tag ∷ tags) c (suc c) refl (λ h. omega arith) (λ h. omega arith)

cell-taken : (n : ℕ) (tags : List ℕ) (c : ℕ) → c < n → cell_or_blanks (take n tags) c ≡ cell_or_blanks tags c
cell-taken n tags c h =
    let taken = length-take n tags in
    same-cell (take n tags) tags c c (get_or-take n tags c 0 h) (λ k. omega arith) (λ k. omega arith)

pub cell-dropped : (n : ℕ) (tags : List ℕ) (c : ℕ) → cell_or_blanks (drop n tags) c ≡ cell_or_blanks tags (n + c)
cell-dropped n tags c =
    let left = length-drop n tags in
    same-cell (drop n tags) tags c (n + c) (get_or-drop n tags c 0) (λ k. omega arith) (λ k. omega arith)

-- ---- Cells, and blanks after them.
blanks-inside : (n k : ℕ) (b : ℕ) (more : List ℕ) → n + k ≤ b
    → take k (drop n (replicate b blank ++ more)) ≡ replicate k blank
blanks-inside zero zero b more h = refl
blanks-inside zero (suc k) zero more h = absurd (omega arith)
blanks-inside zero (suc k) (suc b) more h = ap (λ (l : List ℕ). blank ∷ l) (blanks-inside zero k b more (omega arith))
blanks-inside (suc n) k zero more h = absurd (omega arith)
blanks-inside (suc n) k (suc b) more h = blanks-inside n k b more (omega arith)

pub blanks-left : (n b : ℕ) (more : List ℕ) → n ≤ b → drop n (replicate b blank ++ more)
    ≡ replicate (b - n) blank ++ more
blanks-left zero b more h = rw (sub-zero b)
blanks-left (suc n) zero more h = absurd (omega arith)
blanks-left (suc n) (suc b) more h =
    let e : suc b - suc n ≡ b - n = omega arith in
    rw e (blanks-left n b more (omega arith))

cell-inside : (tags : List ℕ) (c b : ℕ) (more : List ℕ) → cell_length * suc c ≤ cell_length * length tags + b
    → take cell_length (drop (cell_length * c) (cells tags ++ (replicate b blank ++ more))) ≡ cell_or_blanks tags c
unfolding cells
cell-inside [] c b more h =
    blanks-inside (cell_length * c) cell_length b more (omega arith) ∙ sym (no_cell [] c (omega arith))
cell-inside (tag ∷ tags) zero b more h =
    let rest = replicate b blank ++ more in
    ap (take cell_length) (append_assoc (cell tag) (cells tags) rest)
    ∙ take_at (cell tag) (cells tags ++ rest) cell_length (cell-length tag)
    ∙ sym (cell-there (tag ∷ tags) zero (omega arith))
cell-inside (tag ∷ tags) (suc c) b more h =
    let rest = replicate b blank ++ more in
    let e : cell_length * suc c ≡ cell_length + cell_length * c = omega arith in
    let skipped : drop (cell_length * suc c) (cell tag ++ cells tags ++ rest)
    ≡ drop (cell_length * c) (cells tags ++ rest) =
    ap (drop (cell_length * suc c)) (append_assoc (cell tag) (cells tags) rest)
    ∙ ap (λ (n : ℕ). drop n (cell tag ++ (cells tags ++ rest))) e
    ∙ sym (drop-drop (cell_length * c) cell_length (cell tag ++ (cells tags ++ rest)))
    ∙ ap (drop (cell_length * c)) (drop_at (cell tag) (cells tags ++ rest) cell_length (cell-length tag)) in
    ap (take cell_length) skipped ∙ cell-inside tags c b more (omega arith) ∙ cell-later tag tags c

-- ---- A line, and what is after it.
module _ (tags more : List ℕ) where
  abbrev text : List ℕ
  text = cells (take per_line tags)

  pub cell-on-line : (c : ℕ) → c < per_line
      → take cell_length (drop (cell_length * c) (line text ++ more)) ≡ cell_or_blanks tags c
  cell-on-line c h =
      let long = cells-length (take per_line tags) in
      let fit = cells_fit tags in
      ap (λ (l : List ℕ). take cell_length (drop (cell_length * c) l)) (line-opened text more)
      ∙ cell-inside (take per_line tags) c (column_count - length text) (line_feed ∷ more) (omega arith)
      ∙ cell-taken per_line tags c h

  pub right-of-line : drop (cell_length * per_line) (line text ++ more) ≡ line_rest (cell_length * per_line) ++ more
  right-of-line =
      let fit = cells_fit tags in
      let j = cell_length * per_line - length text in
      let e : cell_length * per_line ≡ length text + j = omega arith in
      let left : column_count - length text - j ≡ column_count - cell_length * per_line = omega arith in
      ap (drop (cell_length * per_line)) (line-opened text more)
      ∙ ap (λ (n : ℕ). drop n (text ++ (replicate (column_count - length text) blank ++ (line_feed ∷ more)))) e
      ∙ drop-append-add text (replicate (column_count - length text) blank ++ (line_feed ∷ more)) j
      ∙ blanks-left j (column_count - length text) (line_feed ∷ more) (omega arith)
      ∙ ap (λ (n : ℕ). replicate n blank ++ (line_feed ∷ more)) left

-- ---- The lines of a page.
lines_from : (l n : ℕ) (tags : List ℕ) → l ≤ n
    → drop (line_length * l) (tag_lines n tags) ≡ tag_lines (n - l) (drop (per_line * l) tags)
unfolding tag_lines
lines_from zero n tags h = rw (sub-zero n)
lines_from (suc l) zero tags h = absurd (omega arith)
lines_from (suc l) (suc n) tags h =
    let e : line_length * suc l ≡ line_length + line_length * l = omega arith in
    let f : per_line * suc l ≡ per_line + per_line * l = omega arith in
    let g : suc n - suc l ≡ n - l = omega arith in
    let first = line (cells (take per_line tags)) in
    let later = tag_lines n (drop per_line tags) in
    rw (e, f, g)
    (sym (drop-drop (line_length * l) line_length (first ++ later))
    ∙ ap (drop (line_length * l)) (drop_at first later line_length (tag-line-length tags))
    ∙ lines_from l n (drop per_line tags) (omega arith)
    ∙ ap (tag_lines (n - l)) (drop-drop (per_line * l) per_line tags))

module _ (tags : List ℕ) (page l : ℕ) where
  abbrev pub ahead : List ℕ
  ahead = drop (per_page * page + per_line * l) tags

  abbrev pub below : List ℕ
  below = tag_lines (tag_line_count - suc l) (drop per_line ahead)

  pub page-line : l < tag_line_count → drop (line_at l) (page_text tags page) ≡ line (cells (take per_line ahead)) ++ below
  unfolding page_text tag_lines
  page-line low =
      let e : line_at l ≡ line_length + line_length * l = omega arith in
      let g : tag_line_count - l ≡ suc (tag_line_count - suc l) = omega arith in
      let rest = drop (per_page * page) tags in
      let lines = tag_lines tag_line_count rest in
      ap (λ (n : ℕ). drop n (heading (length tags) ++ lines)) e
      ∙ sym (drop-drop (line_length * l) line_length (heading (length tags) ++ lines))
      ∙ ap (drop (line_length * l)) (drop_at (heading (length tags)) lines line_length (heading-length (length tags)))
      ∙ lines_from l tag_line_count rest (omega arith)
      ∙ ap (tag_lines (tag_line_count - l)) (drop-drop (per_line * l) (per_page * page) tags)
      ∙ ap (λ (n : ℕ). tag_lines n ahead) g
