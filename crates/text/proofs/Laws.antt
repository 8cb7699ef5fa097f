-- What the proofs about texts share.

pub mod SameTexts
pub mod FirstLine
pub mod AllLines
pub mod WritingLaws
pub mod Decimals
pub mod Rows
