-- `line_choice::break_line` meets its contract: each arm is its line's, and the last arm is what is left of the group.
use mathlib.Core.Path.{◌∙◌}
use mathlib.Core.List.{[], ◌∷◌}
use Rattle.machine.specs.Steps.{line74, line77, line78, line79, line81, line82}
use Rattle.line_choice.proofs.StepChoice.{left_over, line_at}
use Rattle.line_choice.proofs.break_line.Goals as goal

pub returns-in_default : goal.returns-in_default
returns-in_default c g f =
    let others = line74 ∷ line77 ∷ line78 ∷ line79 ∷ line81 ∷ [] in
    let at-82 = left_over _ others line82 _ c.in_default.in_default-own.rest c.requires.in_group in
    c.line82.ensures _ _ ∙ line_at line82 at-82 _ _ _ _ _
