-- The command that is read off what the code keeps of a line.
use Rattle.std.specs.Prelude.{List, [], ◌∷◌, ℕ, get_or, take}
use Rattle.text_scan.specs.Kept.{Kept}
use Rattle.program_command.specs.Commands.{command_with}
use Rattle.program_command.specs.Said.{Command}

-- as many numbers as a form has at most
abbrev pub first_three : List ℕ → List ℕ
first_three ns = get_or ns 0 0 ∷ get_or ns 1 0 ∷ get_or ns 2 0 ∷ []

-- the command that is read off what is kept
unfoldable pub kept_command : Kept → Command
kept_command k = command_with (take k.scan.length k.text) (first_three k.numbers) k.scan.width
