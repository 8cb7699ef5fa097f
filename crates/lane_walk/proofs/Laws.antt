-- What the proofs of the walk share.

pub mod Nodes
pub mod Turns
pub mod Tally
pub mod Ahead
pub mod Places
