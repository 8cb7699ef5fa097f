-- The steps in groups, as the figure's procedures have them, and what a tick at a step relies on.
use Rattle.std.specs.Prelude.{◌≡◌, true, List, [], ◌∷◌, ◌++◌, ℕ}
use Rattle.machine.specs.Values.{bag_ok}
use Rattle.machine.specs.Steps.{Step, is_step_in, push_steps, pop_steps, remove_steps}
use Rattle.machine.specs.Steps as Steps
use Rattle.table_record.specs.declared.Task as Tasks
use Rattle.line_parts.specs.Lent.{Ready}

-- push, add (but 28 and 31), pop, remove, unspur and break of the figure.
abbrev pub push_lines : List Step
push_lines = Steps.line2 ∷ Steps.line3 ∷ Steps.line5 ∷ Steps.line8 ∷ []

abbrev pub add_lines : List Step
add_lines = Steps.line15 ∷ Steps.line17 ∷ Steps.line18 ∷ Steps.line24 ∷ Steps.line25 ∷ []

abbrev pub pop_lines : List Step
pop_lines = Steps.line39 ∷ Steps.line40 ∷ Steps.line42 ∷ Steps.line48 ∷ Steps.line51 ∷ []

abbrev pub remove_lines : List Step
remove_lines = Steps.line54 ∷ Steps.line56 ∷ Steps.line58 ∷ Steps.line60 ∷ Steps.line62 ∷ Steps.line64 ∷ []

abbrev pub unspur_lines : List Step
unspur_lines = Steps.line67 ∷ Steps.line68 ∷ Steps.line69 ∷ Steps.line70 ∷ Steps.line72 ∷ []

abbrev pub break_lines : List Step
break_lines = Steps.line74 ∷ Steps.line77 ∷ Steps.line78 ∷ Steps.line79 ∷ Steps.line81 ∷ Steps.line82 ∷ []

-- All lines but those that take a node.
abbrev pub other_lines : List Step
other_lines = push_lines ++ (add_lines ++ (pop_lines ++ (remove_lines ++ (unspur_lines ++ break_lines))))

-- Every step of a busy task.
abbrev pub all_steps : List Step
all_steps = push_steps ++ (pop_steps ++ remove_steps)

-- A task that is ready for the line at which it stands, one of a group.
pub record ReadyIn (group : List Step) (ns : List ℕ) (t : Tasks.Task) : Type 0 where
  pub ready : Ready ns t
  pub in_group : is_step_in group t.step ≡ true
  pub bag_at_51 : t.step ≡ 51 → bag_ok t.value ≡ true
