-- What the proofs of the forms share.

pub mod SpaceLaws
pub mod FormLaws
pub mod LaneLaws
