-- An airline's line that is told by its words.
use mathlib.Core.Path.{◌≡◌, sym, ap, ◌∙◌}
use mathlib.Core.Bool.{true}
use mathlib.Core.List.{List, [], ◌∷◌, ◌++◌}
use Prim.Native.Nat.{ℕ, ◌≤◌}
use native.Mathlib.Omega.{arith}
use lib.ListN.{length, get_or, take, drop, take-append-drop}
use lib.Seq.{drop-cons, drop-drop}
use Rattle.text.specs.Text.{bytes, same}
use Rattle.text.specs.Lines.{line_feed, first_line}
use Rattle.text.proofs.Laws.SameTexts.{same-equal, drop_of_take}
use Rattle.airline_list.specs.declared.End.{End}
use Rattle.airline_list.specs.declared.End.TheVariants.{Left, Right}
use Rattle.airline_list.specs.Airline.{Names}
use Rattle.airline_list.specs.FirstForm.{three_digits, has_code, end_of_two, airline_behind}
use Rattle.airline_list.specs.Forms.{Airline, code_in}
use Rattle.airline_list.proofs.Laws.HeadLaws.{head-in-parts, airline-ahead}

module _ (text : List ℕ) (long : 28 ≤ length text) (begins : same (take 8 text) (bytes "(airline") ≡ true)
    (goes_on : same (take 8 (drop 7 text)) (bytes "e (code ") ≡ true) (three : three_digits text ≡ true) where
  coded : has_code text ≡ true
  coded =
      let second : take 7 (drop 8 text) ≡ bytes " (code " =
      ap (take 7) (sym (drop-drop 1 7 text)) ∙ sym (drop_of_take 1 7 (drop 7 text))
      ∙ ap (drop 1) (same-equal (take 8 (drop 7 text)) (bytes "e (code ") goes_on) in
      rw (head-in-parts text begins (ap (λ t. same t (bytes " (code ")) second), three)

  named_by : (end : End) → airline_behind (code_in text) (first_line (drop 18 text)) ≡ Airline (code_in text) end
      → Names text (code_in text, end)
  named_by end behind = record { long = long; form = sym (airline-ahead text coded) ∙ behind }

  pub names-left : same (take 8 (drop 18 text)) (bytes ") left)" ++ (line_feed ∷ [])) ≡ true
      → Names text (code_in text, Left)
  unfolding first_line airline_behind end_of_two
  names-left ends =
      let behind = same-equal (take 8 (drop 18 text)) (bytes ") left)" ++ (line_feed ∷ [])) ends in
      let whole : drop 18 text ≡ bytes ") left)" ++ (line_feed ∷ drop 8 (drop 18 text)) =
      sym (take-append-drop 8 (drop 18 text)) ∙ ap (λ t. t ++ drop 8 (drop 18 text)) behind in
      named_by Left (ap (λ t. airline_behind (code_in text) (first_line t)) whole)

  pub names-right : same (take 8 (drop 18 text)) (bytes ") right)") ≡ true → get_or text 26 0 ≡ line_feed
      → Names text (code_in text, Right)
  unfolding first_line airline_behind end_of_two
  names-right ends feed =
      let behind = same-equal (take 8 (drop 18 text)) (bytes ") right)") ends in
      let fed : drop 8 (drop 18 text) ≡ line_feed ∷ drop 27 text =
      drop-drop 8 18 text ∙ drop-cons text 26 0 (omega arith) ∙ ap (λ b. b ∷ drop 27 text) feed in
      let whole : drop 18 text ≡ bytes ") right)" ++ (line_feed ∷ drop 27 text) =
      sym (take-append-drop 8 (drop 18 text)) ∙ (λ i. behind i ++ fed i) in
      named_by Right (ap (λ t. airline_behind (code_in text) (first_line t)) whole)
