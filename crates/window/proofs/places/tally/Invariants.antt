-- `window::places::tally` meets its contract: the words left decide, and are still to be added.
use Rattle.std.proofs.Common.{◌≡◌, ◌+◌, true, ◌&&◌, leb, drop}
use Rattle.window.specs.Window.{at_most, total}
use Rattle.window.proofs.places.tally.Given as goal

abbrev pub invariant-loop-word : goal.invariant-loop-word
invariant-loop-word l =
    ((leb l.gathered 1 && at_most 1 (drop l.word-index l.words)) ≡ at_most 1 l.words)
    × (at_most 1 l.words ≡ true → l.lost + total (drop l.word-index l.words) ≡ total l.words)
