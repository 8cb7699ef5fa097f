-- What the proofs of lists of ticks and of consecutive ticks share.

pub mod ConsecutiveTicks
pub mod RunWords
pub mod OnePair
