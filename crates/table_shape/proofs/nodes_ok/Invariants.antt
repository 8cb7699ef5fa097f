-- The invariant: the flag is the test of all nodes below the loop's number, and what is left are the words from there
-- on.
use mathlib.Core.Path.{◌≡◌}
use lib.ListN.{drop}
use Rattle.machine.specs.Table.{node_at}
use Rattle.machine.specs.Shape.{all_below, node_ok}
use Rattle.table_shape.proofs.nodes_ok.Given as goal

abbrev pub invariant-loop : goal.invariant-loop
invariant-loop l =
    (l.ok ≡ all_below l.counter (node_ok l.table)) × (l.rest ≡ drop (node_at l.counter) l.table)
