-- `line_choice::remove_line` meets its contract: each arm is its line's, and the last arm is what is left of the group.
use mathlib.Core.Path.{◌∙◌}
use mathlib.Core.List.{[], ◌∷◌}
use Rattle.machine.specs.Steps.{line54, line56, line58, line60, line62, line64}
use Rattle.line_choice.proofs.StepChoice.{left_over, line_at}
use Rattle.line_choice.proofs.remove_line.Goals as goal

pub returns-in_default : goal.returns-in_default
returns-in_default c f =
    let others = line54 ∷ line56 ∷ line58 ∷ line60 ∷ line62 ∷ [] in
    let at-64 = left_over _ others line64 _ c.in_default.in_default-own.rest c.requires.in_group in
    c.line64.ensures _ _ ∙ line_at line64 at-64 _ _ _ _ _
