-- `deque::lane_dispatches` meets its contract: the number and the words of `dispatches`.
use mathlib.Core.Path.{sym, ap, ◌∙◌, subst}
use Prim.Native.Nat.{◌≤◌}
use Rattle.tag.specs.Tags.{largest_tag}
use Rattle.machine.specs.Answers.{dispatch_payload_of}
use Rattle.machine.specs.Calls.{Dispatched}
use Rattle.machine.proofs.Words.DispatchLaws.{dispatches-number}
use Rattle.deque.specs.Exports.{dispatch_number}
use Rattle.deque.proofs.lane_dispatches.Goals as goal

pub dispatch_number-requires : goal.dispatch_number-requires
dispatch_number-requires c =
    let a = c.args in
    subst (λ (r : Dispatched). dispatch_payload_of r.answer ≤ largest_tag) (sym c.dispatches.ensures)
    (dispatches-number a.times a.table.now a.hint)

pub returns : goal.returns
returns c =
    let e = c.dispatches.ensures in record { value = c.dispatch_number.ensures ∙ ap (λ (r : Dispatched). dispatch_number r.answer) e; table_after = ap (λ (r : Dispatched). r.words) e }
