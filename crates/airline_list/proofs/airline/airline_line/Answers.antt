-- `airline_list::airline::airline_line` meets its contract: where every test holds the words are those of a line.
use mathlib.Core.Path.{◌≡◌, sym, ◌∙◌, subst}
use mathlib.Core.Bool.{true, ◌&&◌}
use Prim.Native.Nat.{ℕ}
use Rattle.airline_list.specs.declared.End.TheVariants.{Left, Right}
use Rattle.airline_list.specs.Airline.{Names}
use Rattle.airline_list.specs.FirstForm.{three_digits}
use Rattle.airline_list.proofs.Laws.AirlineLaws.{names-left, names-right}
use Rattle.airline_list.proofs.airline.airline_line.Goals as goal

pub returns-then-has_word : goal.returns-then-has_word
returns-then-has_word c =
    let text = c.args.text.now in
    let three : three_digits text ≡ true =
    (λ i. sym c.is_digit.ensures i && sym c.is_digit-2.ensures i && sym c.is_digit-3.ensures i) ∙ c.if-not-is_digit.false in
    subst (λ (code : ℕ). Names text (code, Left)) (sym c.code_in-code.ensures)
    (names-left text c.if-text-lt-LINE_AND_MORE.false (sym c.if-not-has_word.ensures) (sym c.if-not-has_word-2.ensures)
    three (sym c.if-has_word.ensures))

pub returns-then-text-eq10 : goal.returns-then-text-eq10
returns-then-text-eq10 c =
    let text = c.args.text.now in
    let three : three_digits text ≡ true =
    (λ i. sym c.is_digit.ensures i && sym c.is_digit-2.ensures i && sym c.is_digit-3.ensures i) ∙ c.if-not-is_digit.false in
    subst (λ (code : ℕ). Names text (code, Right)) (sym c.code_in-code.ensures)
    (names-right text c.if-text-lt-LINE_AND_MORE.false (sym c.if-not-has_word.ensures) (sym c.if-not-has_word-2.ensures)
    three (sym c.if-has_word-2.ensures) c.if-text-eq10.true)
