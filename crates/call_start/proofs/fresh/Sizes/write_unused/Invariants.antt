-- `call_start::fresh::Sizes::write_unused` meets its contract: what is written and what is to come are those of all.
use mathlib.Core.Path.{◌≡◌}
use mathlib.Core.List.{List}
use Prim.Native.Nat.{ℕ, ◌*◌, ◌-◌}
use Rattle.machine.specs.Values.{never}
use Rattle.machine.specs.Tasks.{no_node}
use Rattle.machine.specs.Table.{node_length, node_words}
use Rattle.call_start.proofs.Filling.{filling}
use Rattle.call_start.proofs.fresh.Sizes.write_unused.Given as goal

abbrev pub unused : List ℕ
unused = node_words no_node no_node never

abbrev pub invariant-loop-x : goal.invariant-loop-x
invariant-loop-x l =
    let first = 2 * l.fn.self.lanes in
    filling l.ns (node_length * l.x) (l.x-end - l.x) unused
    ≡ filling l.initial.ns (node_length * first) (l.x-end - first) unused
