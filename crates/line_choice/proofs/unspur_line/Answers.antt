-- `line_choice::unspur_line` meets its contract: each arm is its line's, and the last arm is what is left of the group.
use mathlib.Core.Path.{◌∙◌}
use mathlib.Core.List.{[], ◌∷◌}
use Rattle.machine.specs.Steps.{line67, line68, line69, line70, line72}
use Rattle.line_choice.proofs.StepChoice.{left_over, line_at}
use Rattle.line_choice.proofs.unspur_line.Goals as goal

pub returns-in_default : goal.returns-in_default
returns-in_default c g f =
    let others = line67 ∷ line68 ∷ line69 ∷ line70 ∷ [] in
    let at-72 = left_over _ others line72 _ c.in_default.in_default-own.rest c.requires.in_group in
    c.line72.ensures _ _ _ ∙ line_at line72 at-72 _ _ _ _ _
