-- What the proofs of packed tag lists share.

pub mod Ways
pub mod Taken
pub mod Forms
