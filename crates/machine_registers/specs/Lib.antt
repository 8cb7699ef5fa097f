pub mod Paths
pub mod LinesUse
pub mod Unseen
