-- The invariant: the columns before the loop's number are written, one after another.
use Rattle.std.proofs.Common.{◌≡◌, ℕ, ◌+◌, ◌*◌, List}
use lib.ListN.{get_or, take}
use Rattle.machine.specs.Table.{node_length}
use Rattle.machine.specs.Snapshots.{rows}
use Rattle.call_snapshot.proofs.orders.ByColumnsOrder.write.Given as goal

-- Word c of node x.
abbrev pub word_in : List ℕ → (c x : ℕ) → ℕ
word_in ns c x = get_or ns (node_length * x + c) 0

abbrev pub invariant-loop-c : goal.invariant-loop-c
invariant-loop-c l = take (l.n * l.c) l.to ≡ rows l.c l.n (word_in l.from)
