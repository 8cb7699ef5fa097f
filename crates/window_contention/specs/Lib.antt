pub mod LostSwaps
pub mod Watched
