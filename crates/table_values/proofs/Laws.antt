-- What the proofs about values share, here and in the crates above.

pub mod ValueWords
