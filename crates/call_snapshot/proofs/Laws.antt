-- What the code of this crate is held to: words written from the front, and tests of a snapshot's own words.

pub mod Fronts
pub mod Parts
pub mod AllBelow
pub mod ResultTests
pub mod Replies
