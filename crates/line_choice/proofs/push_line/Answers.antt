-- `line_choice::push_line` meets its contract: each arm is its line's, and the last arm is what is left of the group.
use mathlib.Core.Path.{◌∙◌}
use mathlib.Core.List.{[], ◌∷◌}
use Rattle.machine.specs.Steps.{line2, line3, line5, line8}
use Rattle.line_choice.proofs.StepChoice.{left_over, line_at}
use Rattle.line_choice.proofs.push_line.Goals as goal

pub returns-in_default : goal.returns-in_default
returns-in_default c g f =
    let others = line2 ∷ line3 ∷ line5 ∷ [] in
    let at_8 = left_over _ others line8 _ c.in_default.in_default-own.rest c.requires.in_group in
    c.line8.ensures _ _ ∙ line_at line8 at_8 _ _ _ _ _
