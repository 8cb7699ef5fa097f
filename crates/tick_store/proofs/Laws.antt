-- What the proofs about stored outcomes share, here and in the crates above.

pub mod Laid
