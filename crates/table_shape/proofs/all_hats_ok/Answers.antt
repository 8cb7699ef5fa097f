use Rattle.std.proofs.Common.{sym, ◌∙◌, arith}
use Rattle.machine.specs.Table.{most_lanes}
use Rattle.table_shape.specs.Promised.{hats_ok}
use Rattle.table_shape.proofs.Laws.Below.{none_below, one_more, one-fails}
use Rattle.table_shape.proofs.all_hats_ok.Goals as goal

pub loop-l-init : goal.loop-l-init
loop-l-init c = none_below (hats_ok c.args.table.now)

pub returns-then-not-hats_ok : goal.returns-then-not-hats_ok
returns-then-not-hats_ok c =
    one-fails (hats_ok c.args.table.now) most_lanes c.loop-l.l (omega arith)
    (sym c.hats_ok.ensures ∙ c.if-not-hats_ok.true)

pub loop-l-preserved : goal.loop-l-preserved
loop-l-preserved c =
    one_more (hats_ok c.args.table.now) c.loop-l.l c.loop-l.invariant (sym c.hats_ok.ensures ∙ c.if-not-hats_ok.false)
