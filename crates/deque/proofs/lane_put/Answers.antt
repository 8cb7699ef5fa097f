-- `deque::lane_put` meets its contract: the number and the words of `put`.
use mathlib.Core.Path.{ap, ◌∙◌}
use Rattle.machine.specs.Answers.{reply_number}
use Rattle.machine.specs.Calls.{Changed}
use Rattle.deque.proofs.lane_put.Goals as goal

pub returns : goal.returns
returns c =
    let e = c.put.ensures in record { value = c.reply_number.ensures ∙ ap (λ (d : Changed). reply_number d.reply) e; table_after = ap (λ (d : Changed). d.words) e }
