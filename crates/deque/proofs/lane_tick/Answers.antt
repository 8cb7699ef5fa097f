-- `deque::lane_tick` meets its contract: the number and the words of `tick`.
use mathlib.Core.Path.{sym, ap, ◌∙◌, subst}
use Prim.Native.Nat.{◌≤◌}
use Rattle.tag.specs.Tags.{largest_tag}
use Rattle.machine.specs.Answers.{payload_of}
use Rattle.machine.specs.Calls.{Ticked}
use Rattle.machine.proofs.Words.TickLaws.{tick-number}
use Rattle.deque.specs.Exports.{answer_number}
use Rattle.deque.proofs.lane_tick.Goals as goal

pub answer_number-requires : goal.answer_number-requires
answer_number-requires c =
    let a = c.args in
    subst (λ (d : Ticked). payload_of d.answer ≤ largest_tag) (sym c.tick.ensures)
    (tick-number a.table.now a.task a.hint)

pub returns : goal.returns
returns c =
    let e = c.tick.ensures in record { value = c.answer_number.ensures ∙ ap (λ (d : Ticked). answer_number d.answer) e; table_after = ap (λ (d : Ticked). d.words) e }
