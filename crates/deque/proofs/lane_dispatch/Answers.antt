-- `deque::lane_dispatch` meets its contract: the number and the words of `dispatch`.
use mathlib.Core.Path.{sym, ap, ◌∙◌, subst}
use Prim.Native.Nat.{◌≤◌}
use Rattle.tag.specs.Tags.{largest_tag}
use Rattle.machine.specs.Answers.{dispatch_payload_of}
use Rattle.machine.specs.Calls.{Dispatched}
use Rattle.machine.proofs.Words.TickLaws.{dispatch-number}
use Rattle.deque.specs.Exports.{dispatch_number}
use Rattle.deque.proofs.lane_dispatch.Goals as goal

pub dispatch_number-requires : goal.dispatch_number-requires
dispatch_number-requires c =
    let a = c.args in
    subst (λ (r : Dispatched). dispatch_payload_of r.answer ≤ largest_tag) (sym c.dispatch.ensures)
    (dispatch-number a.table.now a.hint)

pub returns : goal.returns
returns c =
    let e = c.dispatch.ensures in record { value = c.dispatch_number.ensures ∙ ap (λ (r : Dispatched). dispatch_number r.answer) e; table_after = ap (λ (r : Dispatched). r.words) e }
