-- The invariant: all tasks from the first up to the loop's number have passed.
use mathlib.Core.Path.{◌≡◌}
use mathlib.Core.Bool.{true}
use Rattle.table_shape.specs.Promised.{nth_ok, all_from}
use Rattle.table_shape.proofs.range_ok.Given as goal

abbrev pub invariant-loop-k : goal.invariant-loop-k
invariant-loop-k l = all_from l.from l.k (nth_ok l.table l.words l.first) ≡ true
