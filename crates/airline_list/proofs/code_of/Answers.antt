-- `airline_list::code_of` meets its contract: the three digits are what is left of a tag without the six behind them
-- and the one before.
use mathlib.Core.Path.{sym}
use Rattle.airline_list.proofs.Laws.CodeLaws.{code-number}
use Rattle.airline_list.proofs.code_of.Goals as goal

pub returns : goal.returns
returns c = sym (code-number c.args.tag)
