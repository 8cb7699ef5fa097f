-- `deque::lane_begin` meets its contract: the number and the words of `begin`.
use mathlib.Core.Path.{ap, ◌∙◌}
use Rattle.machine.specs.Answers.{reply_number}
use Rattle.machine.specs.Calls.{Changed, begin}
use Rattle.deque.proofs.lane_begin.Goals as goal

pub returns : goal.returns
returns c =
    let a = c.args in
    let e =
    c.begin.ensures
    ∙ ap (begin a.table.now a.task a.lane a.operation a.side) c.of_words.ensures in record { value = c.reply_number.ensures ∙ ap (λ (d : Changed). reply_number d.reply) e; table_after = ap (λ (d : Changed). d.words) e }
