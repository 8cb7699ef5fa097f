use mathlib.Core.Path.{sym, ◌∙◌}
use Prim.Native.Nat.{◌+◌}
use native.Mathlib.Omega.{arith}
use Rattle.call_begin.proofs.SeenTests.{begun-here, begun-of-all}
use Rattle.call_begin.proofs.OwnRecord.is_begun.Goals as goal

pub returns-then-pushes : goal.returns-then-pushes
returns-then-pushes c = λ ws W.
    let j = c.loop-j.j in
    let count = W.count in
    sym
    (begun-of-all ws c.args.tag (j + 1) (omega arith)
    (begun-here ws c.args.tag j (sym (c.pushes.ensures ws W) ∙ c.if-pushes.true)))
