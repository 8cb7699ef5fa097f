-- `tag_packed::are_digits` meets its contract: the test of each is the definition's.
use Rattle.std.proofs.Common.{leb, refl, rules}
use Rattle.std.proofs.lemmas.List.Recursion.{and_is}
use Rattle.tag.specs.Tags.{are_digits}
use Rattle.tag_packed.proofs.are_digits.Goals as goal

pub returns : goal.returns
unfolding are_digits
returns c = and_is are_digits (λ d. leb d 9) refl (λ _ _. refl) c.args.digits 0 _ (search rules) (search rules)
