-- What the proofs of the search share.

pub mod Arrays
pub mod Marked
pub mod Searched
