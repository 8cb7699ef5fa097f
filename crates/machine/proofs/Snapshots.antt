-- Request 2026-10: the two orders of the same words, each of which undoes the other; what is promised of the words.

pub mod Transposed
pub mod Reordered
pub mod RoundTrips
