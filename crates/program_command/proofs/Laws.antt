-- What the proofs of the reader share.

pub mod FormLaws
pub mod CommandLaws
