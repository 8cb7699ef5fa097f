-- The belt run: what each command does, and what all the lines of an input print.
use Rattle.std.specs.Prelude.{List, [], ◌∷◌, ◌++◌, map, ℕ}
use Rattle.text.specs.Lines.{lines_of}
use Rattle.program_command.specs.Said.{Command}
use Rattle.program_command.specs.Said as Commands
use Rattle.program_command.specs.Commands.{command_read}
use Rattle.program_print.specs.Lines.{unread_text}
use Rattle.machine.specs.Calls.{read}
use Rattle.program_answer.specs.Forms.{Answered, the_lane, start_command, begin_command, tick_command, lane_command}

-- What a command prints, and the table afterwards.
unfoldable pub answer : Command → (ws : List ℕ) → Answered
answer (Commands.Start S T g) ws = start_command ws S T g
answer (Commands.Begin k op side digit low) ws = begin_command ws k op side digit low
answer (Commands.Tick k h times) ws = tick_command times ws k h
answer Commands.Lane ws = lane_command ws
answer Commands.Unread ws = record { text = unread_text; words = ws }

-- What a command leaves in the places that it is lent for the bags of a lane: `(lane)` what a read writes there, and
-- every other command what there was.
abbrev pub bags_after : Command → (ws bags : List ℕ) → List ℕ
bags_after (Commands.Start S T g) ws bags = bags
bags_after (Commands.Begin k op side digit low) ws bags = bags
bags_after (Commands.Tick k h times) ws bags = bags
bags_after Commands.Lane ws bags = (read ws the_lane bags).out
bags_after Commands.Unread ws bags = bags

-- What commands print, one after another.
unfoldable pub printed : List Command → (ws : List ℕ) → List ℕ
printed [] ws = []
printed (command ∷ commands) ws = let d = answer command ws in d.text ++ printed commands d.words

-- What an input prints. At first there is no table.
unfoldable pub belt_run : List ℕ → List ℕ
belt_run input = printed (map command_read (lines_of input)) []
