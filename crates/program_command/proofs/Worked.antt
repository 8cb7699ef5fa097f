-- The definitions give each example what it says.
use mathlib.Core.List.{map}
use mathlib.Core.Path.{◌≡◌, refl}
use Rattle.text.specs.Text.{bytes}
use Rattle.text_scan.specs.Scanned.{scan_byte, scan_bytes}
use Rattle.program_command.specs.Commands.{
  ticks,
  begin_or,
  begin_of,
  form_of,
  push_of,
  command_with,
  command_of,
  command_read,
}
use Rattle.program_command.specs.Examples.{Example, examples}

pub worked : map (λ (e : Example). command_read (bytes e.line)) examples ≡ map (λ (e : Example). e.says) examples
unfolding scan_byte scan_bytes ticks begin_or begin_of form_of push_of command_with command_of command_read examples
worked = refl
