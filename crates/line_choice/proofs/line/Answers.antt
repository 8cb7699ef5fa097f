-- `line_choice::line` meets its contract: of each arm's numbers and ranges one computed test names the group.
use mathlib.Core.Path.{refl}
use mathlib.Core.List.{List, [], ◌∷◌}
use native.Mathlib.Omega.{arith}
use Rattle.machine.specs.Steps.{Step, is_step_in, line5, line8, line15, line42, line48, line51, line72}
use Rattle.line_choice.specs.Groups.{push_lines, add_lines, pop_lines, remove_lines, unspur_lines, break_lines}
use Rattle.line_choice.proofs.StepChoice.{ready-within, ready-keyed, no_key, ready-nowhere, step-bound}
use Rattle.line_choice.proofs.line.Goals as goal

-- ---- The single numbers of each arm, where they are not all of its group.
abbrev push_keys : List Step
push_keys = line5 ∷ line8 ∷ []

abbrev add_keys : List Step
add_keys = line15 ∷ []

abbrev pop_keys : List Step
pop_keys = line42 ∷ line48 ∷ line51 ∷ []

abbrev unspur_keys : List Step
unspur_keys = line72 ∷ []

pub push_line-requires : goal.push_line-requires
unfolding is_step_in
push_line-requires c =
    let p = c.requires in
    elim c.in-2-to-3-1.branch [
      | goal.in-5-1 w ↦ ready-keyed push_keys push_lines refl p w.in-5-1.keys1
      | goal.in_default+then-t-lt26+else-t-lt2+then-t-lt4 w ↦
          ready-within [] push_lines 2 3 refl p (omega arith) (omega arith) refl
    ]

pub add_line-requires : goal.add_line-requires
unfolding is_step_in
add_line-requires c =
    let p = c.requires in
    elim c.in-15-1.branch [
      | goal.in-15-1 w ↦ ready-keyed add_keys add_lines refl p w.in-15-1.keys2
      | goal.in_default+then-t-lt26+else-t-lt2+else-t-lt4+else-t-lt17+then-t-lt19 w ↦
          ready-within [] add_lines 17 18 refl p (omega arith) (omega arith) refl
      | goal.in_default+then-t-lt26+else-t-lt2+else-t-lt4+else-t-lt17+else-t-lt19+else-t-lt24 w ↦
          ready-within [] add_lines 24 25 refl p (omega arith) (omega arith) refl
    ]

pub pop_line-requires : goal.pop_line-requires
unfolding is_step_in
pop_line-requires c =
    let p = c.requires in
    elim c.in-39-to-40-1.branch [
      | goal.in-42-1 w ↦ ready-keyed pop_keys pop_lines refl p w.in-42-1.keys3
      | goal.in_default+else-t-lt26+else-t-lt39+then-t-lt41 w ↦
          ready-within [] pop_lines 39 40 refl p (omega arith) (omega arith) refl
    ]

pub remove_line-requires : goal.remove_line-requires
unfolding is_step_in
remove_line-requires c =
    let p = c.requires in
    ready-keyed remove_lines remove_lines refl p c.in-54.is

pub unspur_line-requires : goal.unspur_line-requires
unfolding is_step_in
unspur_line-requires c =
    let p = c.requires in
    elim c.in-67-to-70-1.branch [
      | goal.in-72-1 w ↦ ready-keyed unspur_keys unspur_lines refl p w.in-72-1.keys5
      | goal.in_default+else-t-lt26+else-t-lt39+else-t-lt41+else-t-lt67+then-t-lt71 w ↦
          ready-within [] unspur_lines 67 70 refl p (omega arith) (omega arith) refl
    ]

-- Between the ranges there are the numbers of the arms above; past them, 72 and the last group.
pub break_line-requires : goal.break_line-requires
unfolding is_step_in
break_line-requires c =
    let p = c.requires in
    let rest = c.in_default-1.rest in
    elim c.in_default.branch [
      | goal.in_default-via-then-t-lt26+then-t-lt2 w ↦
          ready-nowhere (ready-within [] [] 0 1 refl p (omega arith) (omega arith) refl) refl
      | goal.in_default-via-then-t-lt26+else-t-lt2+else-t-lt4+then-t-lt17 w ↦
          ready-nowhere (ready-within push_keys add_keys 4 16 refl p (omega arith) (omega arith)
          (no_key push_keys _ rest.0.0.0.0.1)) (no_key add_keys _ rest.0.0.0.1)
      | goal.in_default-via-then-t-lt26+else-t-lt2+else-t-lt4+else-t-lt17+else-t-lt19+then-t-lt24 w ↦
          ready-nowhere (ready-within [] [] 19 23 refl p (omega arith) (omega arith) refl) refl
      | goal.in_default-via-else-t-lt26+then-t-lt39 w ↦
          ready-nowhere (ready-within [] [] 26 38 refl p (omega arith) (omega arith) refl) refl
      | goal.in_default-via-else-t-lt26+else-t-lt39+else-t-lt41+then-t-lt67 w ↦
          ready-nowhere (ready-within pop_keys remove_lines 41 66 refl p (omega arith) (omega arith)
          (no_key pop_keys _ rest.0.0.1)) (no_key remove_lines _ rest.0.1)
      | goal.in_default-via-else-t-lt26+else-t-lt39+else-t-lt41+else-t-lt67+else-t-lt71 w ↦
          ready-within unspur_keys break_lines 71 82 refl p (omega arith) (step-bound _ p.in_group)
          (no_key unspur_keys _ rest.1)
    ]
