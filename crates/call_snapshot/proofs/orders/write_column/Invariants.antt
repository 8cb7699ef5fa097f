-- The invariant: the words before the loop's number are the column's.
use Rattle.std.proofs.Common.{◌≡◌}
use lib.ListN.{take}
use Rattle.call_snapshot.specs.Promised.{column_of}
use Rattle.call_snapshot.proofs.orders.write_column.Given as goal

abbrev pub invariant-loop-x : goal.invariant-loop-x
invariant-loop-x l = take l.x l.column ≡ column_of l.c l.x l.ns
