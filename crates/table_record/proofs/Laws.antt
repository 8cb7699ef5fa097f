-- What the proofs about records share, here and in the crates above.

pub mod RecordWords
