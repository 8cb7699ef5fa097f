-- What the proofs of the sheet share.

pub mod Walked
pub mod Written
pub mod Refused
