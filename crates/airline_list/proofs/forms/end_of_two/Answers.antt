-- `airline_list::forms::end_of_two` meets its contract: each branch is one case of the definition.
use mathlib.Core.Path.{sym, ◌∙◌}
use Rattle.airline_list.specs.FirstForm.{end_of_two}
use Rattle.airline_list.proofs.forms.end_of_two.Goals as goal

pub returns-then-is_line : goal.returns-then-is_line
unfolding end_of_two
returns-then-is_line c = rw (sym c.is_line.ensures ∙ c.if-is_line.true)

pub returns-then-is_line-2 : goal.returns-then-is_line-2
unfolding end_of_two
returns-then-is_line-2 c =
    rw (sym c.is_line.ensures ∙ c.if-is_line.false, sym c.is_line-2.ensures ∙ c.if-is_line-2.true)

pub returns : goal.returns
unfolding end_of_two
returns c = rw (sym c.is_line.ensures ∙ c.if-is_line.false, sym c.is_line-2.ensures ∙ c.if-is_line-2.false)
