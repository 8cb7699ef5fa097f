-- What the proofs about pages share.

pub mod Lengths
pub mod Bytes
pub mod Places
pub mod ReadBack
pub mod Storing
pub mod Digits
pub mod LineStores
