-- The invariant: the hats of all lanes below the loop's number have passed.
use mathlib.Core.Path.{◌≡◌}
use mathlib.Core.Bool.{true}
use Rattle.machine.specs.Shape.{all_below}
use Rattle.table_shape.specs.Promised.{hats_ok}
use Rattle.table_shape.proofs.all_hats_ok.Given as goal

abbrev pub invariant-loop-l : goal.invariant-loop-l
invariant-loop-l l = all_below l.l (hats_ok l.table) ≡ true
