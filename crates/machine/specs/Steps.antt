-- The steps, numbered by the lines of the figure, and which of them belong to which operation.
use Rattle.std.specs.Prelude.{Bool, false, ◌||◌, List, [], ◌∷◌, ◌++◌, ℕ, eqb}
use Rattle.machine.specs.Choice.{◌≟◌, if?◌then◌else◌}
use Rattle.machine.specs.Operations.{Operation, idle, push, pop, add, remove}

-- The line of the figure at which a task stands; rest: the step 0 of an idle task.
pub data Step : Type 0 where
  rest line2 line3 line5 line8 line15 line17 line18 line24 line25 line28 line31 : Step
  line39 line40 line42 line48 line51 line54 line56 line58 line60 line62 line64 : Step
  line67 line68 line69 line70 line72 line74 line77 line78 line79 line81 line82 : Step

-- 01: the step number is the figure's line number.
abbrev pub step_number : Step → ℕ
step_number rest = 0
step_number line2 = 2
step_number line3 = 3
step_number line5 = 5
step_number line8 = 8
step_number line15 = 15
step_number line17 = 17
step_number line18 = 18
step_number line24 = 24
step_number line25 = 25
step_number line28 = 28
step_number line31 = 31
step_number line39 = 39
step_number line40 = 40
step_number line42 = 42
step_number line48 = 48
step_number line51 = 51
step_number line54 = 54
step_number line56 = 56
step_number line58 = 58
step_number line60 = 60
step_number line62 = 62
step_number line64 = 64
step_number line67 = 67
step_number line68 = 68
step_number line69 = 69
step_number line70 = 70
step_number line72 = 72
step_number line74 = 74
step_number line77 = 77
step_number line78 = 78
step_number line79 = 79
step_number line81 = 81
step_number line82 = 82

-- The step in a list that has a number, or rest.
unfoldable pub step_in : List Step → ℕ → Step
step_in [] n = rest
step_in (st ∷ sts) n = let found = step_in sts n in if? n ≟ step_number st then st else found

-- 01's list, operation by operation.
abbrev add_steps : List Step
add_steps =
    line28 ∷ line31 ∷ line15 ∷ line17 ∷ line18 ∷ line24 ∷ line25 ∷ line67 ∷ line68 ∷ line69 ∷ line70 ∷ line72 ∷ []

abbrev pub push_steps : List Step
push_steps = line2 ∷ line3 ∷ line5 ∷ line8 ∷ add_steps

abbrev pub pop_steps : List Step
pop_steps = line39 ∷ line40 ∷ line42 ∷ line48 ∷ line51 ∷ []

abbrev pub remove_steps : List Step
remove_steps =
    line54 ∷ line56 ∷ line58 ∷ line60 ∷ line62 ∷ line64 ∷ line74 ∷ line77 ∷ line78 ∷ line79 ∷ line81 ∷ line82 ∷ []

abbrev pub steps_of : Operation → List Step
steps_of idle = rest ∷ []
steps_of push = push_steps
steps_of pop = pop_steps
steps_of add = add_steps
steps_of remove = remove_steps

-- The step of a number: every step is one of a push, a pop or a remove.
unfoldable pub step_of : ℕ → Step
step_of n = step_in (push_steps ++ (pop_steps ++ remove_steps)) n

-- A number is that of a step in the list.
unfoldable pub is_step_in : List Step → ℕ → Bool
is_step_in [] n = false
is_step_in (st ∷ sts) n = eqb n (step_number st) || is_step_in sts n

-- 01: begin writes the first step: 2, 39, 28 or 54.
abbrev pub first_step : Operation → Step
first_step idle = rest
first_step push = line2
first_step pop = line39
first_step add = line28
first_step remove = line54
