-- Every example comes to what it says, and no pair of steps is lost but those named, computed.
use Rattle.std.proofs.Common.{◌≡◌, map, refl}
use Rattle.window.specs.Window.{at_most, total, feed, fresh_words}
use Rattle.window.specs.Examples.{Example, examples, lost_from, lost_pairs, named_pairs}

pub worked : map (λ (e : Example). e.given) examples ≡ map (λ (e : Example). e.is) examples
unfolding examples at_most total feed fresh_words
worked = refl

-- 82 is the last step.
pub pairs-worked : lost_pairs 91 91 ≡ named_pairs
unfolding lost_pairs lost_from
pairs-worked = refl
