-- The invariant: the flag is the test of all values before the loop's number.
use Rattle.std.proofs.Common.{◌≡◌}
use Rattle.machine.specs.Shape.{all_below}
use Rattle.call_snapshot.specs.Promised.{stored_ok}
use Rattle.call_snapshot.proofs.columns.values_ok.Given as goal

abbrev pub invariant-loop-x : goal.invariant-loop-x
invariant-loop-x l = l.ok ≡ all_below l.x (stored_ok l.words l.digits)
