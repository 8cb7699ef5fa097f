-- A closing line that is told by its words.
use mathlib.Core.Path.{◌≡◌, sym, ap, ◌∙◌}
use mathlib.Core.Bool.{true}
use mathlib.Core.List.{List, [], ◌∷◌, ◌++◌}
use Prim.Native.Nat.{ℕ, ◌+◌, ◌≤◌}
use native.Mathlib.Omega.{arith}
use lib.ListN.{length, take, drop, take-append-drop, length-drop}
use lib.Seq.{take_all, take-take}
use Rattle.text.specs.Text.{bytes, same}
use Rattle.text.specs.Lines.{line_feed, first_line}
use Rattle.text.proofs.Laws.SameTexts.{same-equal}
use Rattle.airline_list.specs.declared.End.TheVariants.{Left, Right}
use Rattle.airline_list.specs.Closing.{Closes}
use Rattle.airline_list.specs.Forms.{form_of}

-- ---- The words of a line: two that overlap or meet are all of a text.
two-words : (text : List ℕ) (i : ℕ) {front back : List ℕ} → i ≤ 8 → length text ≡ i + 8
    → take 8 text ≡ front → take 8 (drop i text) ≡ back → text ≡ take i front ++ back
two-words text i within long e f =
    let rest : take 8 (drop i text) ≡ drop i text = take_all 8 (drop i text) (simp length-drop (omega arith)) in
    sym (take-append-drop i text)
    ∙ ap (λ (t : List ℕ). t ++ drop i text) (sym (take-take i 8 text within))
    ∙ (λ j. take i (e j) ++ (sym rest ∙ f) j)

module _ (text : List ℕ) (others : same (take 8 text) (bytes "(others ") ≡ true) where
  begins : take 8 text ≡ bytes "(others "
  begins = same-equal (take 8 text) (bytes "(others ") others

  pub closes-left : length text ≡ 14 → same (take 8 (drop 6 text)) (bytes "s left)" ++ (line_feed ∷ [])) ≡ true → Closes text Left
  unfolding first_line form_of
  closes-left long ends =
      let whole = two-words text 6 (omega arith) long begins
      (same-equal (take 8 (drop 6 text)) (bytes "s left)" ++ (line_feed ∷ [])) ends) in
      record { some = omega arith; form = ap (λ t. form_of (first_line t)) whole; short = omega arith }

  pub closes-right : length text ≡ 14 → same (take 8 (drop 6 text)) (bytes "s right)") ≡ true → Closes text Right
  unfolding first_line form_of
  closes-right long ends =
      let whole = two-words text 6 (omega arith) long begins
      (same-equal (take 8 (drop 6 text)) (bytes "s right)") ends) in
      record { some = omega arith; form = ap (λ t. form_of (first_line t)) whole; short = omega arith }

  pub closes-right-fed : length text ≡ 15 → same (take 8 (drop 7 text)) (bytes " right)" ++ (line_feed ∷ [])) ≡ true
      → Closes text Right
  unfolding first_line form_of
  closes-right-fed long ends =
      let whole = two-words text 7 (omega arith) long begins
      (same-equal (take 8 (drop 7 text)) (bytes " right)" ++ (line_feed ∷ [])) ends) in
      record { some = omega arith; form = ap (λ t. form_of (first_line t)) whole; short = omega arith }
