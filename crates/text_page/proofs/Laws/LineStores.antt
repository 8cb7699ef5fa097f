-- Lines as they are stored: a blank one, the heading over it, and one tag more at its column.
use mathlib.Core.Path.{◌≡◌, refl, sym, ap, ◌∙◌, subst}
use mathlib.Core.List.{List, [], ◌∷◌, ◌++◌, append_assoc, append-nil}
use Prim.Native.Nat.{ℕ, suc, ◌+◌, ◌*◌, ◌-◌, ◌≤◌, ◌<◌}
use native.Mathlib.Omega.{arith}
use lib.ListN.{length, set, take, drop, replicate, length-append, length-replicate}
use lib.Seq.{sets, sets-eq, take_at, drop-append-add, length-take-le}
use Rattle.tag.proofs.Stores.{sets-append}
use Rattle.text.specs.Text.{bytes}
use Rattle.text.specs.Lines.{line_feed}
use Rattle.text.specs.Numerals.{with_zeros, tag_text}
use Rattle.text_page.specs.Page.{
  column_count,
  blank,
  line_rest,
  line,
  title,
  heading,
  cell_length,
  cell,
  cells,
  per_line,
}
use Rattle.text_page.proofs.Laws.Lengths.{line-length, zeros-length, title-length, cells-length}
use Rattle.text_page.proofs.Laws.Places.{blanks-left}
use Rattle.text_page.proofs.Laws.Storing.{stored-inside}

-- ---- A blank line.
abbrev pub blanks : List ℕ
blanks = replicate column_count blank

pub blanks-stored : (out : List ℕ) → column_count ≤ length out → {stored : List ℕ}
    → stored ≡ replicate (length (take column_count out)) blank → stored ++ drop column_count out ≡ sets out 0 blanks
blanks-stored out h e =
    let long = length-replicate column_count blank in
    let all = length-take-le column_count out h in
    let start : 0 + length blanks ≡ column_count = omega arith in
    let front = sets-eq blanks out 0 (omega arith) in
    rw (e, all) (sym (front ∙ ap (λ (n : ℕ). blanks ++ drop n out) start))

pub feed-stored : (out : List ℕ) (at : ℕ) {stored : List ℕ} → stored ≡ sets out at blanks
    → set stored (at + column_count) line_feed ≡ sets out at (line [])
feed-stored out at e =
    ap (λ (l : List ℕ). set l (at + column_count) line_feed) e
    ∙ subst (λ (n : ℕ). set (sets out at blanks) (at + n) line_feed ≡ sets out at (line []))
    (length-replicate column_count blank) (sets-append blanks (line_feed ∷ []) out at)

-- ---- A line's text grows.
text-more : (text more : List ℕ) → length text + length more ≤ column_count
    → sets (line text) (length text) more ≡ line (text ++ more)
text-more text more fits =
    let n = column_count - length text in
    let whole = line-length text (omega arith) in
    let both = length-append text more in
    let left : n - length more ≡ column_count - length (text ++ more) = omega arith in
    sets-eq more (line text) (length text) (omega arith)
    ∙ rw (
      take_at text (line_rest (length text)) (length text) refl,
      drop-append-add text (line_rest (length text)) (length more),
      blanks-left (length more) n (line_feed ∷ []) (omega arith),
      left,
    )

-- A blank more is in no way seen.
blank-more : (text : List ℕ) → length text < column_count → line text ≡ line (text ++ (blank ∷ []))
blank-more text short =
    let both = length-append text (blank ∷ []) in
    let n = column_count - length (text ++ (blank ∷ [])) in
    let left : column_count - length text ≡ suc n = omega arith in
    ap (λ (m : ℕ). text ++ (replicate m blank ++ (line_feed ∷ []))) left
    ∙ sym (append_assoc text (blank ∷ []) (replicate n blank ++ (line_feed ∷ [])))

-- ---- The heading, over a blank line.
pub heading-stored : (out : List ℕ) (count : ℕ) {one two three : List ℕ}
    → one ≡ sets out 0 (line []) → two ≡ sets one 0 (bytes "LANE ") → three ≡ sets two 5 (with_zeros 4 count)
    → three ≡ sets out 0 (heading count)
heading-stored out count {one} first second third =
    let long = title-length count in
    third
    ∙ ap (λ (l : List ℕ). sets l 5 (with_zeros 4 count)) second
    ∙ sets-append (bytes "LANE ") (with_zeros 4 count) one 0
    ∙ ap (λ (l : List ℕ). sets l 0 (title count)) first
    ∙ stored-inside (title count) (line []) out 0 0 (omega arith)
    ∙ ap (sets out 0) (text-more [] (title count) (omega arith))

-- ---- One tag more on a line.
cells-more : (tags : List ℕ) (tag : ℕ) → cells (tags ++ (tag ∷ [])) ≡ cells tags ++ cell tag
unfolding cells
cells-more [] tag = append-nil (cell tag)
cells-more (t ∷ tags) tag =
    ap (◌++◌ (cell t)) (cells-more tags tag) ∙ sym (append_assoc (cell t) (cells tags) (cell tag))

pub tag-more : (out tags : List ℕ) (at tag : ℕ) → length tags < per_line
    → sets (sets out at (line (cells tags))) (at + cell_length * length tags) (tag_text tag)
    ≡ sets out at (line (cells (tags ++ (tag ∷ []))))
tag-more out tags at tag few =
    let text = cells tags in
    let long = cells-length tags in
    let ten = zeros-length 10 tag in
    let whole = line-length text (omega arith) in
    let with_tag = length-append text (tag_text tag) in
    ap (λ (n : ℕ). sets (sets out at (line text)) (at + n) (tag_text tag)) (sym long)
    ∙ stored-inside (tag_text tag) (line text) out at (length text) (omega arith)
    ∙ ap (sets out at)
    (text-more text (tag_text tag) (omega arith)
    ∙ blank-more (text ++ tag_text tag) (omega arith)
    ∙ ap line (append_assoc text (tag_text tag) (blank ∷ []) ∙ sym (cells-more tags tag)))
