-- The invariant: the nodes before the loop's number are written, each with its word of every column.
use Rattle.std.proofs.Common.{◌≡◌, ℕ, ◌+◌, ◌*◌, List}
use lib.ListN.{get_or, take}
use Rattle.machine.specs.Table.{node_length}
use Rattle.machine.specs.Snapshots.{rows}
use Rattle.call_snapshot.proofs.orders.ByNodesOrder.write.Given as goal

-- Word c of node x, in columns of n words.
abbrev pub word_in : (n : ℕ) → List ℕ → (x c : ℕ) → ℕ
word_in n cs x c = get_or cs (n * c + x) 0

abbrev pub invariant-loop-x : goal.invariant-loop-x
invariant-loop-x l = take (node_length * l.x) l.to ≡ rows l.x node_length (word_in l.slots l.from)
