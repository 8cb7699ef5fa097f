-- The queue never has more nodes than a marking has places, so visiting them comes to its end.
use mathlib.Core.Path.{sym, ap, ◌∙◌, subst}
use Prim.Native.Nat.{◌-◌, ◌≤◌}
use native.Mathlib.Omega.{arith}
use Rattle.machine.specs.Allocate.{largest_count, Room}
use Rattle.machine.proofs.SlotRule.Marking.{tail-le, visit_from-kept, visit_from-end}
use Rattle.table_search.specs.Marked.{Marked}
use Rattle.table_search.proofs.Laws.Marked.{searchable-kept}
use Rattle.table_search.proofs.Marking.spread.Goals as goal

pub loop-head-smaller : goal.loop-head-smaller
loop-head-smaller c = omega (arith, c.loop-head-test.true, tail-le c.self.invariant.room)

pub loop-head-preserved : goal.loop-head-preserved
loop-head-preserved c =
    let ws = c.args.table.now in
    let l = c.loop-head in
    let is = c.self.view_is in
    let s = l.invariant.0 in
    let e = c.visit.ensures in
    let room = subst (λ (m : Marked). Room m.nodes m.marking) is c.self.invariant.room in
    let queued = rw (ap (λ (m : Marked). m.marking.tail) is) at c.loop-head-test.true in (
      searchable-kept l.head e s,
      visit_from-kept ws l.head _ _ _ (rw s.same_nodes at room) queued (ap (λ (m : Marked). m.marking) e) l.invariant.1,
    )

pub returns : goal.returns
returns c =
    let ws = c.args.table.now in
    let l = c.loop-head in
    let m = l.self in
    let done : m.marking.tail ≤ l.head = rw (ap (λ (m : Marked). m.marking.tail) c.self.view_is) at c.loop-head-test.false in
    let end = sym (visit_from-end ws (largest_count - l.head) l.head m.marking done) ∙ l.invariant.1 in
    let same = l.invariant.0.same_nodes ∙ sym c.requires.same_nodes in
    λ i. record { nodes = same i; marking = end i }
