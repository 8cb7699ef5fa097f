-- What the proof of one tick is made of.

pub mod Seen
pub mod CallKept
pub mod FoundAt31
pub mod TickReady
pub mod TickWords
pub mod MadeTick
pub mod TickTests
