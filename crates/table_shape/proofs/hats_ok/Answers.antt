-- The lanes decide what the two hats must be.
use native.Mathlib.Omega.{arith}
use native.Mathlib.Decide.{ℕ_discrete}
use Rattle.table_shape.proofs.Laws.TableWords.{hats-used, hats-unused}
use Rattle.table_shape.proofs.hats_ok.Goals as goal

pub returns-then-l-lanes : goal.returns-then-l-lanes
unfolding ℕ_discrete
returns-then-l-lanes c =
    hats-used c.args.table.now c.args.l c.requires.1 c.hat-left.ensures c.hat-right.ensures
    c.slots-slots.ensures (omega (arith, c.lanes.ensures, c.if-l-lanes.true))

pub returns : goal.returns
unfolding ℕ_discrete
returns c =
    hats-unused c.args.table.now c.args.l c.requires.1 c.hat-left.ensures c.hat-right.ensures
    (omega (arith, c.lanes.ensures, c.if-l-lanes.false))
