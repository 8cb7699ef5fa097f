-- While a node has no mark, the queue is not full; each branch is one case of the definition.
use mathlib.Core.Path.{sym, ap, ◌∙◌}
use native.Mathlib.Omega.{arith}
use Rattle.table_search.specs.Marked.{Marked, with_mark}
use Rattle.table_search.proofs.Laws.Arrays.{queue-open, mark-new, mark-old, ready-new, no_node-unmarked}
use Rattle.table_search.proofs.Marking.mark.Goals.{
  else-i-self-via-then-i-self+else-not-self-i,
  else-i-self-via-else-i-self,
}
use Rattle.table_search.proofs.Marking.mark.Goals as goal

pub offset_bounds-self-inside-self-inside : goal.offset_bounds-self-inside-self-inside
offset_bounds-self-inside-self-inside c =
    omega (arith, queue-open c.self.invariant c.args.x c.if-i-self.true c.if-not-self-i.true)

pub bounds-self-inside-self-inside : goal.bounds-self-inside-self-inside
bounds-self-inside-self-inside c = queue-open c.self.invariant c.args.x c.if-i-self.true c.if-not-self-i.true

pub overflow_add-self : goal.overflow_add-self
overflow_add-self c =
    omega (arith, queue-open c.self.invariant c.args.x c.if-i-self.true c.if-not-self-i.true)

pub invariant_of-self : goal.invariant_of-self
invariant_of-self c = ready-new c.self.invariant c.args.x c.if-i-self.true c.if-not-self-i.true

pub returns-then-not-self-i : goal.returns-then-not-self-i
returns-then-not-self-i c =
    mark-new c.self.invariant c.args.x c.if-i-self.true c.if-not-self-i.true
    ∙ ap (λ (m : Marked). with_mark m c.args.x) c.self.view_is

pub returns-else-i-self : goal.returns-else-i-self
returns-else-i-self c =
    let old = c.args.self.now in
    elim c.else-i-self.branch [
      | else-i-self-via-then-i-self+else-not-self-i w ↦ sym c.self.view_is
          ∙ mark-old c.self.invariant c.args.x w.if-i-self.true w.if-not-self-i.false
          ∙ ap (λ (m : Marked). with_mark m c.args.x) c.self.view_is
      | else-i-self-via-else-i-self w ↦ no_node-unmarked old c.args.x (rw (← c.self.view_is) w.if-i-self.false)
    ]
