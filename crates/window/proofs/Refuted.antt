-- Every wrong window is refuted, by computation over the definitions.
use Rattle.std.proofs.Common.{refl}
use Rattle.window.specs.Window.{at_most, fresh_words, total, feed}
use Rattle.window.specs.History.{lost_among, answers_by}
use Rattle.window.specs.Wrong.{
  feed_by,
  same_words,
  by_definition,
  answers_of_feeder,
  same_answers,
  judged,
  expected,
  entries,
  damages,
  AllRefuted,
  RightIsFeed,
}

pub all-refuted : AllRefuted
unfolding feed_by same_words by_definition answers_of_feeder same_answers judged expected entries damages at_most fresh_words
    total feed lost_among answers_by
all-refuted = (refl, refl, refl)

pub right-is-feed : RightIsFeed
unfolding feed_by feed
right-is-feed ws count before after = refl
