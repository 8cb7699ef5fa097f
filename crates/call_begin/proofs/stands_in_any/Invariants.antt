-- `call_begin::stands_in_any` meets its contract: what the lanes walked so far say.
use mathlib.Core.Path.{◌≡◌}
use Rattle.std.specs.Prelude.{Ok}
use Rattle.machine.specs.Calls.{lanes_below}
use Rattle.call_begin.specs.Seen.{standing}
use Rattle.call_begin.proofs.stands_in_any.Given as goal

abbrev pub invariant-loop-l : goal.invariant-loop-l
invariant-loop-l l = Ok l.found ≡ standing l.tag (lanes_below l.lanes.table.now l.l)
