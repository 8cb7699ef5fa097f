-- `program_answer::Space::begin_command` meets its contract: the call is on the table's own words.
use mathlib.Core.Path.{ap, ◌∙◌}
use Rattle.machine.specs.Calls.{begin}
use Rattle.program_answer.specs.Forms.{the_lane}
use Rattle.program_answer.specs.Space.{table_of}
use Rattle.program_answer.proofs.Laws.SpaceLaws.{front-leaves}
use Rattle.program_answer.proofs.Laws.FormLaws.{begin-done}
use Rattle.program_answer.proofs.Space.begin_command.Goals as goal

pub returns-clause-changes : goal.returns-clause-changes
returns-clause-changes c =
    let a = c.args in
    let s = a.self.now in
    let t = table_of s in
    let begun = c.begin.ensures ∙ ap (begin t a.task the_lane a.operation a.side) c.of_words.ensures in
    front-leaves s.words.now c.begin.new.table s.len c.requires c.begin.auto.table
    (begin-done t a.task a.operation a.side a.digit a.low c.begin.result begun)
