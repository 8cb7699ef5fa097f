-- What a line says.
use Rattle.std.specs.Prelude.{ℕ, Option, Some, None}
use Rattle.program_command.specs.declared.Command.{Command as Read}
use Rattle.program_command.specs.declared.Command.TheVariants as Commands

-- Operations are 1 push, 2 pop, 3 add, 4 remove; sides 0 left, 1 right. The tag of a push is its leading digit and, as
-- the argument, the nine digits below; the others have digit 0.
pub data Command : Type 0 where
  Start : (slots tasks growth : ℕ) → Command
  Begin : (task operation side digit low : ℕ) → Command
  Tick : (task hint times : ℕ) → Command
  Lane : Command
  Unread : Command

-- ---- What the code reads.

-- where nothing is read, the line is unread
abbrev pub said : Option Read → Command
said None = Unread
said (Some (Commands.Start slots tasks growth)) = Start slots tasks growth
said (Some (Commands.Begin task operation side digit low)) =
    Begin task operation side digit low
said (Some (Commands.Tick task hint times)) = Tick task hint times
said (Some Commands.Lane) = Lane
