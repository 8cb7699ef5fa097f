-- The bytes of a page: which there are, and where its lines end.
use mathlib.Core.Path.{◌≡◌, refl, sym, ap, ◌∙◌}
use mathlib.Core.Bool.{Bool, true, false≢true}
use mathlib.Core.List.{List, [], ◌∷◌, ◌++◌, map, append_assoc}
use Prim.Native.Nat.{ℕ, zero, suc, ◌+◌, ◌*◌, ◌-◌, ◌≤◌, ◌<◌}
use native.Mathlib.Omega.{arith}
use borrow.Author.Tests.{le-leb, leb-true, ne_eqb}
use lib.Dec.{leb}
use lib.ListN.{length, get_or, take, drop, replicate, length-append, length-replicate}
use Rattle.tag.specs.Tags.{last_digits, are_digits}
use Rattle.tag.proofs.TagLaws.{both_true}
use Rattle.tag.proofs.DigitLaws.{last-are-digits}
use Rattle.text.specs.Numerals.{with_zeros, tag_text}
use Rattle.text.specs.Lines.{line_feed, in_front, lines_of}
use Rattle.text.specs.Text.{bytes}
use Rattle.text_page.specs.Page.{
  column_count,
  line_count,
  blank,
  line_rest,
  line,
  title,
  heading,
  cell,
  cells,
  per_line,
  tag_line_count,
  per_page,
  tag_lines,
  page_text,
}
use Rattle.text_page.specs.Claims.{is_glyph, is_printed}
use Rattle.text_page.proofs.Laws.Lengths.{title-length, cells_fit}

-- ---- Bytes that all pass a test.
abbrev pub Each : (test : ℕ → Bool) → List ℕ → Type 0
Each test [] = Unit {0}
Each test (b ∷ bs) = (test b ≡ true) × Each test bs

module _ (test : ℕ → Bool) where
  each_append : (xs ys : List ℕ) → Each test xs → Each test ys → Each test (xs ++ ys)
  each_append [] ys h k = k
  each_append (x ∷ xs) ys h k = (h.0, each_append xs ys h.1 k)

  each_same : (n b : ℕ) → test b ≡ true → Each test (replicate n b)
  each_same zero b h = tt
  each_same (suc n) b h = (h, each_same n b h)

  pub each_at : (xs : List ℕ) (i : ℕ) → Each test xs → i < length xs → test (get_or xs i 0) ≡ true
  each_at [] i h k = absurd (omega arith)
  each_at (x ∷ xs) zero h k = h.0
  each_at (x ∷ xs) (suc i) h k = each_at xs i h.1 (omega arith)

-- ---- The texts of lines are glyphs.
digit_glyph : (d : ℕ) → d ≤ 9 → is_glyph (48 + d) ≡ true
digit_glyph d h = rw (le-leb 48 (48 + d) (omega arith), le-leb (48 + d) 57 (omega arith))

digits-glyphs : (ds : List ℕ) → are_digits ds ≡ true → Each is_glyph (map (λ (d : ℕ). 48 + d) ds)
unfolding are_digits
digits-glyphs [] h = tt
digits-glyphs (d ∷ ds) h =
    let both = both_true (leb d 9) (are_digits ds) h in
    (digit_glyph d (leb-true d 9 both.0), digits-glyphs ds both.1)

zeros-glyphs : (k n : ℕ) → Each is_glyph (with_zeros k n)
zeros-glyphs k n = digits-glyphs (last_digits k n) (last-are-digits k n)

title-glyphs : (count : ℕ) → Each is_glyph (title count)
title-glyphs count =
    each_append is_glyph (bytes "LANE ") (with_zeros 4 count) (refl, (refl, (refl, (refl, (refl, tt)))))
    (zeros-glyphs 4 count)

cells-glyphs : (tags : List ℕ) → Each is_glyph (cells tags)
unfolding cells
cells-glyphs [] = tt
cells-glyphs (tag ∷ tags) =
    each_append is_glyph (cell tag) (cells tags)
    (each_append is_glyph (tag_text tag) (blank ∷ []) (zeros-glyphs 10 tag) (refl, tt))
    (cells-glyphs tags)

-- ---- Every byte is printed.
glyphs-printed : (text : List ℕ) → Each is_glyph text → Each is_printed text
glyphs-printed [] h = tt
glyphs-printed (b ∷ bs) h = (rw h.0, glyphs-printed bs h.1)

line-printed : (text : List ℕ) → Each is_glyph text → Each is_printed (line text)
line-printed text glyphs =
    let blanks = column_count - length text in
    each_append is_printed text (line_rest (length text)) (glyphs-printed text glyphs)
    (each_append is_printed (replicate blanks blank) (line_feed ∷ []) (each_same is_printed blanks blank refl) (refl, tt))

tag-lines-printed : (n : ℕ) (tags : List ℕ) → Each is_printed (tag_lines n tags)
unfolding tag_lines
tag-lines-printed zero tags = tt
tag-lines-printed (suc n) tags =
    let text = cells (take per_line tags) in
    each_append is_printed (line text) (tag_lines n (drop per_line tags))
    (line-printed text (cells-glyphs (take per_line tags)))
    (tag-lines-printed n (drop per_line tags))

pub page-printed : (tags : List ℕ) (page : ℕ) → Each is_printed (page_text tags page)
unfolding page_text
page-printed tags page =
    let count = length tags in
    let rest = drop (per_page * page) tags in
    each_append is_printed (heading count) (tag_lines tag_line_count rest) (line-printed (title count) (title-glyphs count))
    (tag-lines-printed tag_line_count rest)

-- ---- A line feed ends each line, and there is no other.
not-feed : (b : ℕ) → is_glyph b ≡ true → b ≡ line_feed → ⊥
not-feed b h e = false≢true (rw e at h)

fed-line : (text rest : List ℕ) → Each is_glyph text → lines_of (text ++ (line_feed ∷ rest)) ≡ text ∷ lines_of rest
unfolding lines_of
fed-line [] rest h = refl
fed-line (b ∷ bs) rest h = rw (ne_eqb b line_feed (not-feed b h.0)) (ap (in_front b) (fed-line bs rest h.1))

abbrev columns : (text : List ℕ) → List ℕ
columns text = text ++ replicate (column_count - length text) blank

pub line-opened : (text rest : List ℕ)
    → line text ++ rest ≡ text ++ (replicate (column_count - length text) blank ++ (line_feed ∷ rest))
line-opened text rest =
    let blanks = replicate (column_count - length text) blank in
    append_assoc text (blanks ++ (line_feed ∷ [])) rest ∙ ap (◌++◌ text) (append_assoc blanks (line_feed ∷ []) rest)

line-split : (text rest : List ℕ) → line text ++ rest ≡ columns text ++ (line_feed ∷ rest)
line-split text rest =
    line-opened text rest ∙ sym (append_assoc text (replicate (column_count - length text) blank) (line_feed ∷ rest))

lines-sized : (text rest : List ℕ) → Each is_glyph text → length text ≤ column_count
    → map length (lines_of (line text ++ rest)) ≡ column_count ∷ map length (lines_of rest)
lines-sized text rest glyphs short =
    let blanks = column_count - length text in
    let all-glyphs = each_append is_glyph text (replicate blanks blank) glyphs (each_same is_glyph blanks blank refl) in
    let sized : length (columns text) ≡ column_count =
    omega (arith, length-append text (replicate blanks blank), length-replicate blanks blank) in
    ap (λ (t : List ℕ). map length (lines_of t)) (line-split text rest)
    ∙ ap (map length) (fed-line (columns text) rest all-glyphs)
    ∙ ap (λ (n : ℕ). n ∷ map length (lines_of rest)) sized

tag-lines-sized : (n : ℕ) (tags : List ℕ) → map length (lines_of (tag_lines n tags)) ≡ replicate n column_count
unfolding tag_lines lines_of
tag-lines-sized zero tags = refl
tag-lines-sized (suc n) tags =
    lines-sized (cells (take per_line tags)) (tag_lines n (drop per_line tags)) (cells-glyphs (take per_line tags))
    (omega (arith, cells_fit tags))
    ∙ ap (λ (l : List ℕ). column_count ∷ l) (tag-lines-sized n (drop per_line tags))

pub page-lines-sized : (tags : List ℕ) (page : ℕ)
    → map length (lines_of (page_text tags page)) ≡ replicate line_count column_count
unfolding page_text
page-lines-sized tags page =
    let rest = drop (per_page * page) tags in
    let count = length tags in
    lines-sized (title count) (tag_lines tag_line_count rest) (title-glyphs count) (omega (arith, title-length count))
    ∙ ap (λ (l : List ℕ). column_count ∷ l) (tag-lines-sized tag_line_count rest)
