-- `call_begin::OwnRecord::is_begun` meets its contract: none of the tasks before is a push of the tag.
use mathlib.Core.Path.{◌≡◌}
use mathlib.Core.Bool.{false}
use mathlib.Core.List.{List}
use Prim.Native.Nat.{ℕ}
use Rattle.machine.specs.Calls.{is_begun}
use Rattle.call_begin.specs.OwnRecord.{WithOwn}
use Rattle.call_begin.proofs.OwnRecord.is_begun.Given as goal

abbrev pub invariant-loop-j : goal.invariant-loop-j
invariant-loop-j l =
    (ws : List ℕ) → WithOwn l.self.lanes.table.now l.self.task l.self.own ws → is_begun ws l.j l.tag ≡ false
