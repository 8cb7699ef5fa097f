-- What the proofs about the words of a table share, here and in the crates above.

pub mod NodeWords
pub mod Numbers
pub mod HeaderWords
pub mod RecordParts
pub mod Views
pub mod LaidNodes
pub mod Fronts
pub mod Conjunctions
