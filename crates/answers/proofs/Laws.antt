-- What the proofs about answers share, here and in the crates above.

pub mod AnswerWords
pub mod Refusals
