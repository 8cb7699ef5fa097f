-- `line_choice::add_line` meets its contract: each arm is its line's, and the last arm is what is left of the group.
use mathlib.Core.Path.{◌∙◌}
use mathlib.Core.List.{[], ◌∷◌}
use Rattle.machine.specs.Steps.{line15, line17, line18, line24, line25}
use Rattle.line_choice.proofs.StepChoice.{left_over, line_at}
use Rattle.line_choice.proofs.add_line.Goals as goal

pub returns-in_default : goal.returns-in_default
returns-in_default c g f =
    let others = line15 ∷ line17 ∷ line18 ∷ line24 ∷ [] in
    let at_25 = left_over _ others line25 _ c.in_default.in_default-own.rest c.requires.in_group in
    c.line25.ensures _ _ ∙ line_at line25 at_25 _ _ _ _ _
