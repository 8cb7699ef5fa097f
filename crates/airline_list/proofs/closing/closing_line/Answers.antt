-- `airline_list::closing::closing_line` meets its contract: where every test holds the words are those of such a line.
use mathlib.Core.Path.{sym}
use Rattle.airline_list.proofs.Laws.ClosingLaws.{closes-left, closes-right, closes-right-fed}
use Rattle.airline_list.proofs.closing.closing_line.Goals as goal

pub returns-then-has_word : goal.returns-then-has_word
returns-then-has_word c =
    closes-left c.args.text.now (sym c.if-not-has_word.ensures) c.if-text-eq14.true (sym c.if-has_word.ensures)

pub returns-then-has_word-2 : goal.returns-then-has_word-2
returns-then-has_word-2 c =
    closes-right c.args.text.now (sym c.if-not-has_word.ensures) c.if-text-eq14.true (sym c.if-has_word-2.ensures)

pub returns-then-has_word-4 : goal.returns-then-has_word-4
returns-then-has_word-4 c =
    closes-right-fed c.args.text.now (sym c.if-has_word-3.ensures) c.if-text-ne15.false (sym c.if-has_word-4.ensures)
