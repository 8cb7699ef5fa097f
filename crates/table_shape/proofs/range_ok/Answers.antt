use Rattle.std.proofs.Common.{sym, ◌∙◌}
use Rattle.table_shape.specs.Promised.{nth_ok}
use Rattle.table_shape.proofs.Laws.Below.{range-begins, range-goes-on, range-fails}
use Rattle.table_shape.proofs.range_ok.Goals as goal

pub loop-k-init : goal.loop-k-init
loop-k-init c = let a = c.args in range-begins (nth_ok a.table.now a.words.now a.first) a.from

pub returns-then-not-nth_ok : goal.returns-then-not-nth_ok
returns-then-not-nth_ok c =
    let a = c.args in
    range-fails (nth_ok a.table.now a.words.now a.first) a.from a.to c.loop-k.k c.loop-k.auto.k c.loop-k-test.true
    (sym c.nth_ok.ensures ∙ c.if-not-nth_ok.true)

pub loop-k-preserved : goal.loop-k-preserved
loop-k-preserved c =
    let a = c.args in
    range-goes-on (nth_ok a.table.now a.words.now a.first) a.from a.to c.loop-k.k c.loop-k.auto.k c.loop-k.invariant
    (sym c.nth_ok.ensures ∙ c.if-not-nth_ok.false)
