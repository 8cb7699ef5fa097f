-- The invariant: asking the tasks left gives what asking all gives.
use Rattle.std.proofs.Common.{◌≡◌, ◌<◌}
use Rattle.machine.specs.Table.{task_count}
use Rattle.machine.specs.Calls.{next_busy}
use Rattle.call_dispatch.proofs.DispatchTests.{from-here}
use Rattle.call_dispatch.proofs.turn.next_busy.Given as goal

abbrev pub invariant-loop : goal.invariant-loop
invariant-loop l = (l.k < task_count l.table) × (from-here l.table l.counter l.k ≡ next_busy l.table)
