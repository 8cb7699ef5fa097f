-- `lane::turn` meets its contract: what came is answered, or the input is at its end.
use Prim.Native.Nat.{◌<◌}
use native.Mathlib.Omega.{arith}
use Rattle.lane.proofs.TurnLaws.{answers-served, turn-takes-none, turn-takes-some}
use Rattle.lane.proofs.turn.Goals as goal

pub returns-then-n-eq0-clause-turned : goal.returns-then-n-eq0-clause-turned
returns-then-n-eq0-clause-turned g c =
    let done = c.finish-end.ensures in
    turn-takes-none (answers-served done.serves done.makes.in_order done.at_in_bounds)

pub returns-clause-turned : goal.returns-clause-turned
returns-clause-turned g c =
    let came : 0 < c.read-n.result = omega (arith, c.if-n-eq0.false) in
    turn-takes-some c.read-n.result c.read-n.ensures came c.answer_chunk.ensures.taken
