pub mod Lines
pub mod Ticks
pub mod Watching
