use mathlib.Core.Path.{sym, ◌∙◌}
use native.Mathlib.Omega.{arith}
use Rattle.machine.specs.Sides.{left, right}
use Rattle.machine.specs.Table.{hat, link}
use Rattle.lane_walk.proofs.Laws.Nodes.{next-in}
use Rattle.lane_walk.proofs.Laws.Places.{
  counting-begins,
  counting-at-bag,
  begins-at,
  begins-there,
  gone-on,
  had-next,
  had-before,
}
use Rattle.lane_walk.proofs.Lanes.locate.Goals as goal
use Rattle.lane_walk.proofs.Lanes.locate.Goals.{then-n-place, else-n-place}

pub loop-n-init : goal.loop-n-init
loop-n-init c =
    let ws = c.args.self.table.now in
    let first = link ws right (hat ws c.args.l left) in
    let e = c.first-x.ensures in record {
      node-or-none = rw e (next-in ws c.args.self.linked (hat ws c.args.l left));
      node-reached = e ∙ begins-at ws first;
      node_had = e ∙ begins-there ws c.args.place first;
      count-alike = counting-begins ws c.args.l c.first-x.result e;
    }

pub loop-n-preserved : goal.loop-n-preserved
loop-n-preserved c =
    let ws = c.args.self.table.now in
    let first = link ws right (hat ws c.args.l left) in
    let l = c.loop-n in
    let at = c.in_ok-holds_bag.ensures in
    let on = c.next-x.ensures ∙ gone-on ws l.n first l.invariant.node-reached in record {
      node-or-none = rw c.next-x.ensures (next-in ws c.args.self.linked l.x);
      node-reached = on;
      node_had = elim c.if-n-place.branch [
        | then-n-place w ↦ w.there-is ∙ on ∙ had-next ws c.args.place l.n first (omega arith)
        | else-n-place w ↦ w.there-is ∙ l.invariant.node_had ∙ had-before ws c.args.place l.n first (omega arith)
      ];
      count-alike = rw c.next-x.ensures
          (counting-at-bag ws l.n l.x (omega arith) at.0 (l.invariant.node-or-none at.0)
          (sym at.1 ∙ c.if-not-branch.false)
          ∙ l.invariant.count-alike);
    }
