-- `airline_list::forms::first_form` meets its contract: a text that begins as an airline's line has the form that is
-- told behind its code.
use mathlib.Core.Bool.{true}
use mathlib.Core.Path.{◌≡◌, sym, ap, ◌∙◌}
use mathlib.Core.List.{List}
use Prim.Native.Nat.{ℕ, ◌-◌, ◌≤◌}
use native.Mathlib.Omega.{arith}
use lib.ListN.{length, take, drop, length-drop}
use lib.Seq.{take_all}
use Rattle.std.specs.Prelude.{Option}
use Rattle.text.specs.Text.{bytes}
use Rattle.text.specs.Lines.{first_line}
use Rattle.airline_list.specs.declared.End.{End}
use Rattle.airline_list.specs.Forms.{told, code_in, form_of}
use Rattle.airline_list.specs.FirstForm.{has_code, end_of_two, airline_with, others_with, airline_behind, others_in}
use Rattle.airline_list.proofs.Laws.HeadLaws.{digits_long, three, airline-ahead, others-ahead}
use Rattle.airline_list.proofs.forms.first_form.Goals as goal

module _ (text : List ℕ) where
  long : true ≡ has_code text → 18 ≤ length text
  long h = digits_long text (three text (sym h))

  airline : true ≡ has_code text → (code : ℕ) → code ≡ code_in text → (end : Option End)
      → end
      ≡ end_of_two (first_line (take (length text - 18) (drop 18 text))) (bytes ") left)") (bytes ") right)")
      → airline_with code end ≡ form_of (first_line text)
  unfolding airline_behind
  airline h code is end found =
      let part = take_all (length text - 18) (drop 18 text) (simp length-drop (omega arith)) in
      (λ i. airline_with (is i) (found i))
      ∙ ap (λ t. airline_with (code_in text) (end_of_two (first_line t) (bytes ") left)") (bytes ") right)"))) part
      ∙ airline-ahead text (sym h)

pub slice_bounds-end_of_two-count : goal.slice_bounds-end_of_two-count
slice_bounds-end_of_two-count c = long c.args.text.now c.if-has_code.ensures

pub slice_bounds-end_of_two-start : goal.slice_bounds-end_of_two-start
slice_bounds-end_of_two-start c = long c.args.text.now c.if-has_code.ensures

pub returns-in_err-end : goal.returns-in_err-end
returns-in_err-end c =
    let code = c.code_in-code in
    ap told c.from_residual.ensures ∙ ap (airline_with code.result) (sym c.in_err-end.was)
    ∙ airline c.args.text.now c.if-has_code.ensures code.result code.ensures c.end_of_two.result c.end_of_two.ensures

pub returns-then-has_code : goal.returns-then-has_code
returns-then-has_code c =
    let code = c.code_in-code in
    ap (airline_with code.result) (sym c.in_ok-end.was)
    ∙ airline c.args.text.now c.if-has_code.ensures code.result code.ensures c.end_of_two.result c.end_of_two.ensures

pub returns-in_err-end-2 : goal.returns-in_err-end-2
unfolding others_in
returns-in_err-end-2 c =
    ap told c.from_residual-in_err-end-2.ensures ∙ ap others_with (sym c.in_err-end-2.was ∙ c.end_of_two-2.ensures)
    ∙ others-ahead c.args.text.now (sym c.if-has_code.ensures)

pub returns : goal.returns
unfolding others_in
returns c =
    ap others_with (sym c.in_ok-end-2.was ∙ c.end_of_two-2.ensures)
    ∙ others-ahead c.args.text.now (sym c.if-has_code.ensures)
