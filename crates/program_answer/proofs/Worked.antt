-- The belt run of 01 prints what 01 says, computed over the definitions from the bytes read to the bytes printed.
use mathlib.Core.Path.{◌≡◌, refl}
use mathlib.Core.Option.{bind}
use native.Mathlib.Decide.{ℕ_discrete, dec_lt, dec_le}
use Rattle.tag.specs.Tags.{last_digits}
use Rattle.machine.specs.Values.{Value-discrete, decode}
use Rattle.machine.specs.Steps.{step_in, step_of, is_step_in}
use Rattle.machine.specs.Table.{hat, link, value, task}
use Rattle.machine.specs.Shape.{all_below, same_words, node_ok, busy_ok, record_ok, shape_ok}
use Rattle.machine.specs.Allocate.{
  hats_from,
  held_from,
  roots,
  mark,
  mark_all,
  visit,
  visit_from,
  marked,
  first_unmarked,
  allocate,
}
use Rattle.machine.specs.Lines.{write_all, dcas, act}
use Rattle.machine.specs.Calls.{
  times,
  start_nodes,
  start_words,
  start,
  begin,
  effect_of,
  applied,
  tick_on,
  tick,
  ticks as consecutive_ticks,
  is_begun,
  lane_from,
  lane,
  lanes_below,
}
use Rattle.text.specs.Lines.{lines_of}
use Rattle.text.specs.Numerals.{digits_in, spaced}
use Rattle.text_scan.specs.Scanned.{scan_byte, scan_bytes}
use Rattle.program_command.specs.Commands.{ticks, begin_or, begin_of, form_of, push_of, command_with, command_of, command_read}
use Rattle.program_answer.specs.Forms.{start_command, begin_command, tick_command, lane_command}
use Rattle.program_answer.specs.Run.{answer, printed, belt_run}
use Rattle.program_answer.specs.Paper.{paper_input, paper_output}

pub worked : belt_run paper_input ≡ paper_output
unfolding belt_run lines_of printed answer start_command begin_command tick_command lane_command digits_in spaced last_digits
    scan_byte scan_bytes ticks begin_or begin_of form_of push_of command_with command_of command_read ℕ_discrete dec_lt dec_le
    Value-discrete decode step_in step_of is_step_in link value task all_below same_words node_ok busy_ok record_ok shape_ok
    held_from roots mark mark_all visit visit_from marked first_unmarked allocate write_all dcas act times start_nodes
    start_words start begin effect_of applied tick_on tick consecutive_ticks is_begun lane_from lane lanes_below hat hats_from
    bind
worked = refl
