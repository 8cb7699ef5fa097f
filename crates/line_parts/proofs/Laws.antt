-- What the proofs of the lines share.
pub mod Ready
pub mod Compared
pub mod Choosing
pub mod Shapes
