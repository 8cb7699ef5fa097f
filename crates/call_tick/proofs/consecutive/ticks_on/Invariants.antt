-- The invariant: the ticks that are left give what all give.
use Rattle.std.proofs.Common.{◌≡◌, ◌-◌}
use Rattle.machine.specs.Shape.{WellFormed}
use Rattle.machine.specs.Calls.{ticks}
use Rattle.call_tick.proofs.consecutive.ticks_on.Given as goal

abbrev pub invariant-loop : goal.invariant-loop
invariant-loop l =
    WellFormed l.table
    × (ticks (l.times - l.counter) l.table l.task l.hint ≡ ticks l.times l.initial.table l.task l.hint)
