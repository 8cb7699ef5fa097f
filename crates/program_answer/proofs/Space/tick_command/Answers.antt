-- `program_answer::Space::tick_command` meets its contract: the ticks are of the table's own words.
use Rattle.program_answer.specs.Space.{table_of}
use Rattle.program_answer.proofs.Laws.FormLaws.{ticks-done}
use Rattle.program_answer.proofs.Laws.SpaceLaws.{front-leaves}
use Rattle.program_answer.proofs.Space.tick_command.Goals as goal

pub returns-clause-changes : goal.returns-clause-changes
returns-clause-changes c =
    let a = c.args in
    let s = a.self.now in
    front-leaves s.words.now c.ticks.new.table s.len c.requires c.ticks.auto.table
    (ticks-done a.times (table_of s) a.task a.hint c.ticks.result c.ticks.ensures)
