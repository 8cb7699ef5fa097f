-- `tag::digits` meets its contract: the digits above the last ten are of no account.
use Rattle.std.proofs.Common.{◌∙◌}
use Rattle.tag.proofs.TwoDigits.{last-ten}
use Rattle.tag.proofs.digits.Goals as goal

pub returns : goal.returns
returns c = rw c.low.ensures at c.digits_of_words.ensures ∙ last-ten c.args.tag
