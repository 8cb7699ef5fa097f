-- `deque::lane_sheet` meets its contract: the number and the out slice of `sheet`.
use mathlib.Core.Path.{ap, ◌∙◌}
use Rattle.machine.specs.Answers.{reply_number}
use Rattle.machine.specs.Calls.{Changed}
use Rattle.deque.proofs.lane_sheet.Goals as goal

pub returns : goal.returns
returns c =
    let e = c.sheet.ensures in record { value = c.reply_number.ensures ∙ ap (λ (d : Changed). reply_number d.reply) e; out_after = ap (λ (d : Changed). d.words) e }
