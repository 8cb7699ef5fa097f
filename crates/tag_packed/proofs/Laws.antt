-- What the proofs of one packed tag share.

pub mod Filling
pub mod Zero
pub mod Words
pub mod Halves
pub mod OneTag
