-- What the proofs of serving a chunk share.

pub mod Chunks
pub mod TakenLaws
pub mod CarriedLaws
pub mod MeantLaws
pub mod ServingLaws
