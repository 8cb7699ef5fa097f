-- `call_start::fresh::Sizes::write_tasks` meets its contract: what is written and what is to come are those of all.
use mathlib.Core.Path.{◌≡◌}
use mathlib.Core.List.{List}
use Prim.Native.Nat.{ℕ, ◌-◌}
use Rattle.machine.specs.Tasks.{fresh, words_of}
use Rattle.machine.specs.Table.{node_at, record_at}
use Rattle.call_start.proofs.Filling.{filling}
use Rattle.call_start.proofs.fresh.Sizes.write_tasks.Given as goal

abbrev pub idle : List ℕ
idle = words_of fresh

abbrev pub invariant-loop-k : goal.invariant-loop-k
invariant-loop-k l =
    filling l.table (record_at l.self.slots l.k) (l.k-end - l.k) idle
    ≡ filling l.initial.table (node_at l.self.slots) l.k-end idle
