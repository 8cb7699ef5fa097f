use mathlib.Core.Path.{sym, ◌∙◌}
use native.Mathlib.Omega.{arith}
use Rattle.machine.specs.Sides.{left}
use Rattle.machine.specs.Table.{hat}
use Rattle.lane_walk.proofs.Laws.Nodes.{next-in}
use Rattle.lane_walk.proofs.Laws.Tally.{count-begins, count-at-bag}
use Rattle.lane_walk.proofs.Lanes.seek.Goals as goal

pub loop-n-init : goal.loop-n-init
loop-n-init c =
    let ws = c.args.self.table.now in record {
      node-or-none = rw c.first-x.ensures (next-in ws c.args.self.linked (hat ws c.args.l left));
      tally-alike = count-begins ws c.args.sought c.args.l c.first-x.result c.first-x.ensures;
    }

pub loop-n-preserved : goal.loop-n-preserved
loop-n-preserved c =
    let ws = c.args.self.table.now in
    let l = c.loop-n in
    let at = c.in_ok-holds_bag.ensures in record {
      node-or-none = rw c.next-x.ensures (next-in ws c.args.self.linked l.x);
      tally-alike = rw (c.next-x.ensures, c.bag.ensures)
          (count-at-bag ws c.args.sought l.n l.x l.found (omega arith) at.0 (l.invariant.node-or-none at.0)
          (sym at.1 ∙ c.if-not-branch.false)
          ∙ l.invariant.tally-alike);
    }
