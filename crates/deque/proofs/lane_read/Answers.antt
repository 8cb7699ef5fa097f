-- `deque::lane_read` meets its contract: the number and the words of `read`.
use mathlib.Core.Path.{ap, ◌∙◌}
use Rattle.machine.specs.Calls.{ReadDone}
use Rattle.deque.specs.Exports.{reading_number}
use Rattle.deque.proofs.lane_read.Goals as goal

pub returns : goal.returns
returns c =
    let e = c.read.ensures in record { value = c.reading_number.ensures ∙ ap (λ (d : ReadDone). reading_number d.reading) e; out_after = ap (λ (d : ReadDone). d.out) e }
