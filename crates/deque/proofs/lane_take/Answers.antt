-- `deque::lane_take` meets its contract: the number and the words of `take`.
use mathlib.Core.Path.{ap, ◌∙◌}
use Rattle.machine.specs.Answers.{reply_number}
use Rattle.machine.specs.Calls.{Changed}
use Rattle.deque.proofs.lane_take.Goals as goal

pub returns : goal.returns
returns c =
    let e = c.take.ensures in record { value = c.reply_number.ensures ∙ ap (λ (d : Changed). reply_number d.reply) e; snapshot_after = ap (λ (d : Changed). d.words) e }
