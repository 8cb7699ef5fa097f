-- The invariant: the flag is the test of all words before the loop's number.
use Rattle.std.proofs.Common.{◌≡◌}
use Rattle.machine.specs.Shape.{all_below}
use Rattle.call_snapshot.specs.Promised.{link_ok}
use Rattle.call_snapshot.proofs.columns.links_ok.Given as goal

abbrev pub invariant-loop-link : goal.invariant-loop-link
invariant-loop-link l = l.ok ≡ all_below l.link-index (link_ok l.slots l.links)
