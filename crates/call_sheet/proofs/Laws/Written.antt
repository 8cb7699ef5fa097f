-- The lines of a page stored one after another, and the page that they make.
use mathlib.Core.Path.{◌≡◌, sym, ap, ◌∙◌}
use mathlib.Core.List.{List, [], ◌∷◌, ◌++◌}
use mathlib.Core.Option.{some}
use Prim.Native.Nat.{ℕ, suc, ◌+◌, ◌*◌, ◌-◌, ◌≤◌, ◌<◌, min}
use native.Mathlib.Numerals.{add-one}
use native.Mathlib.Omega.{arith}
use lib.ListN.{length, take, drop, length-append}
use lib.Seq.{sets}
use Rattle.tag.proofs.Stores.{sets-append}
use Rattle.text.specs.Numerals.{tag_text}
use Rattle.text_page.specs.Page.{
  column_count,
  line_count,
  line_length,
  page_length,
  line,
  heading,
  cell_length,
  cells,
  per_line,
  tag_line_count,
  tag_lines,
}
use Rattle.text_page.proofs.Laws.Lengths.{line-length, heading-length, cells_fit, tag-line-length, tag-lines-length}
use Rattle.text_page.proofs.Laws.Storing.{stored-whole, stored-over}
use Rattle.text_page.proofs.Laws.LineStores.{tag-more}
use Rattle.machine.specs.Values.{number}
use Rattle.machine.specs.Table.{value_words}
use Rattle.lane_walk.specs.Walks.{ahead, count_of, node_after}
use Rattle.call_sheet.specs.Found.{tags_found}
use Rattle.call_sheet.proofs.Laws.Walked.{fewer-taken, one-more-taken, taken-long}

-- ---- A line, over a blank one: tags are put on it one by one.
module _ (out : List ℕ) {blanked : List ℕ} (e : blanked ≡ sets out 0 (line [])) where
  over-blanks : (text : List ℕ) → length text ≤ column_count → sets blanked 0 (line text) ≡ sets out 0 (line text)
  over-blanks text short =
      let empty = line-length [] (omega arith) in
      ap (λ (l : List ℕ). sets l 0 (line text)) e
      ∙ stored-over (line text) (line []) out 0 (line-length text short ∙ sym empty)

  pub line-begun : (tags : List ℕ) → blanked ≡ sets blanked 0 (line (cells (take 0 tags)))
  unfolding cells
  line-begun tags = e ∙ sym (over-blanks [] (omega arith))

  pub line-done : (tags : List ℕ) (n : ℕ) {done : List ℕ} → n ≡ min (length tags) per_line
      → done ≡ sets blanked 0 (line (cells (take n tags))) → done ≡ sets out 0 (line (cells (take per_line tags)))
  line-done tags n few f =
      f
      ∙ ap (λ (l : List ℕ). sets blanked 0 (line (cells l)))
      (ap (λ (m : ℕ). take m tags) few ∙ fewer-taken per_line tags)
      ∙ over-blanks (cells (take per_line tags)) (omega (arith, cells_fit tags))

pub tag-put :
    (ws : List ℕ) (x left : ℕ) (counted : count_of (ahead ws x) ≡ some left) (n : ℕ) → n < left → n < per_line
    → (out : List ℕ) {before after : List ℕ} {tag : ℕ}
    → before ≡ sets out 0 (line (cells (take n (tags_found (ahead ws x)))))
    → tag ≡ number (value_words ws (node_after ws n x)) → after ≡ sets before (cell_length * n) (tag_text tag)
    → after ≡ sets out 0 (line (cells (take (n + 1) (tags_found (ahead ws x)))))
tag-put ws x left counted n more few out {before} {after} {tag} so_far is-tag put =
    let tags = tags_found (ahead ws x) in
    let long = taken-long ws x left counted n (omega arith) in
    let column : cell_length * n ≡ 0 + cell_length * length (take n tags) = omega (arith, long) in
    put
    ∙ ap (λ (l : List ℕ). sets l (cell_length * n) (tag_text tag)) so_far
    ∙ ap (λ (m : ℕ). sets (sets out 0 (line (cells (take n tags)))) m (tag_text tag)) column
    ∙ tag-more out (take n tags) 0 tag (omega arith)
    ∙ ap (λ (l : List ℕ). sets out 0 (line (cells l)))
    (ap (λ (b : ℕ). take n tags ++ (b ∷ [])) is-tag ∙ one-more-taken ws x left counted n more ∙ rw add-one)

-- ---- The lines from line i on.
pub lines_next : (out tags : List ℕ) (i : ℕ) → i < line_count → {stored rest : List ℕ}
    → stored ≡ sets out (line_length * i) (line (cells (take per_line tags))) → rest ≡ drop per_line tags
    → sets stored (line_length * (i + 1)) (tag_lines (line_count - (i + 1)) rest)
    ≡ sets out (line_length * i) (tag_lines (line_count - i) tags)
unfolding tag_lines
lines_next out tags i h {stored} {rest} e f =
    let first = line (cells (take per_line tags)) in
    let more = tag_lines (line_count - (i + 1)) (drop per_line tags) in
    let n : line_count - i ≡ suc (line_count - (i + 1)) = omega arith in
    let at : line_length * (i + 1) ≡ line_length * i + length first = omega (arith, tag-line-length tags) in
    ap (λ (l : List ℕ). sets stored (line_length * (i + 1)) (tag_lines (line_count - (i + 1)) l)) f
    ∙ ap (λ (l : List ℕ). sets l (line_length * (i + 1)) more) e
    ∙ ap (λ (k : ℕ). sets (sets out (line_length * i) first) k more) at
    ∙ sets-append first more out (line_length * i)
    ∙ ap (λ (k : ℕ). sets out (line_length * i) (tag_lines k tags)) (sym n)

pub lines_end : (out tags : List ℕ) (i : ℕ) → line_count ≤ i
    → sets out (line_length * i) (tag_lines (line_count - i) tags) ≡ out
unfolding tag_lines
lines_end out tags i h =
    let n : line_count - i ≡ 0 = omega arith in
    rw n

pub ruleset ends = (lines_end)

-- ---- The heading, and the lines after it.
pub page-stored : (out tags : List ℕ) (count : ℕ) → length out ≡ page_length → {one two : List ℕ}
    → one ≡ sets out 0 (heading count) → two ≡ sets one line_length (tag_lines tag_line_count tags)
    → two ≡ heading count ++ tag_lines tag_line_count tags
page-stored out tags count long {one} e f =
    let lines = tag_lines tag_line_count tags in
    let first = heading-length count in
    let both = length-append (heading count) lines in
    let at : line_length ≡ 0 + length (heading count) = omega arith in
    f
    ∙ ap (λ (l : List ℕ). sets l line_length lines) e
    ∙ ap (λ (k : ℕ). sets (sets out 0 (heading count)) k lines) at
    ∙ sets-append (heading count) lines out 0
    ∙ stored-whole (heading count ++ lines) out (omega (arith, tag-lines-length tag_line_count tags))
