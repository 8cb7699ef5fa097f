-- `deque::lane_ticks` meets its contract: the number and the words of `ticks`.
use mathlib.Core.Path.{sym, ap, ◌∙◌, subst}
use Prim.Native.Nat.{◌≤◌}
use Rattle.tag.specs.Tags.{largest_tag}
use Rattle.machine.specs.Answers.{payload_of}
use Rattle.machine.specs.Calls.{Ticked}
use Rattle.machine.proofs.Words.RunLaws.{ticks-number}
use Rattle.deque.specs.Exports.{answer_number}
use Rattle.deque.proofs.lane_ticks.Goals as goal

pub answer_number-requires : goal.answer_number-requires
answer_number-requires c =
    let a = c.args in
    subst (λ (d : Ticked). payload_of d.answer ≤ largest_tag) (sym c.ticks.ensures)
    (ticks-number a.times a.table.now a.task a.hint)

pub returns : goal.returns
returns c =
    let e = c.ticks.ensures in record { value = c.answer_number.ensures ∙ ap (λ (d : Ticked). answer_number d.answer) e; table_after = ap (λ (d : Ticked). d.words) e }
