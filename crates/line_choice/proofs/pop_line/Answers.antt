-- `line_choice::pop_line` meets its contract: each arm is its line's, and the last arm is what is left of the group.
use mathlib.Core.Path.{◌∙◌}
use mathlib.Core.List.{List, [], ◌∷◌}
use Rattle.machine.specs.Steps.{Step, line39, line40, line42, line48, line51}
use Rattle.line_choice.proofs.StepChoice.{left_over, line_at}
use Rattle.line_choice.proofs.pop_line.Goals as goal

-- The last arm is at 51.
abbrev others : List Step
others = line39 ∷ line40 ∷ line42 ∷ line48 ∷ []

pub line51-requires : goal.line51-requires
line51-requires c =
    let p = c.requires in
    (p.ready, p.bag_at_51 (left_over _ others line51 _ c.in_default.in_default-own.rest p.in_group))

pub returns-in_default : goal.returns-in_default
returns-in_default c g f =
    let at_51 = left_over _ others line51 _ c.in_default.in_default-own.rest c.requires.in_group in
    c.line51.ensures _ _ ∙ line_at line51 at_51 _ _ _ _ _
