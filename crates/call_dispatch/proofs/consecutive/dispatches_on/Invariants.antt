-- The invariant: the dispatches that are left give what all give.
use Rattle.std.proofs.Common.{◌≡◌, ◌-◌}
use Rattle.std.proofs.Math.Option.{none}
use Rattle.machine.specs.Calls.{dispatch_refusal, dispatches}
use Rattle.call_dispatch.proofs.consecutive.dispatches_on.Given as goal

abbrev pub invariant-loop : goal.invariant-loop
invariant-loop l =
    (dispatch_refusal l.table l.hint ≡ none)
    × (dispatches (l.times - l.counter) l.table l.hint ≡ dispatches l.times l.initial.table l.hint)
