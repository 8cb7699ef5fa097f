-- `tag_packed::not_zero` meets its contract: the number is 0 exactly where each byte is.
use Rattle.std.proofs.Common.{not, eqb, refl, rules, ◌∙◌}
use Rattle.std.proofs.lemmas.List.Recursion.{or_is}
use Rattle.std.specs.List.{list_any}
use Rattle.tag_packed.proofs.Laws.Zero.{some_number}
use Rattle.tag_packed.proofs.not_zero.Goals as goal

pub returns : goal.returns
returns c =
    or_is (list_any (λ b. not (eqb b 0))) (λ b. not (eqb b 0)) refl (λ _ _. refl) c.args.five 0 _ (search rules) (search rules)
    ∙ some_number c.args.five 0
