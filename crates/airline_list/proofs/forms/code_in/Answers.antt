-- `airline_list::forms::code_in` meets its contract: the three digits stand in the text.
use mathlib.Core.Path.{sym}
use Rattle.airline_list.proofs.Laws.HeadLaws.{code_sum}
use Rattle.airline_list.proofs.forms.code_in.Goals as goal

pub returns : goal.returns
returns c = rw (c.value.ensures.0, c.value-2.ensures.0, c.value-3.ensures.0) (sym (code_sum c.args.text.now c.requires))
