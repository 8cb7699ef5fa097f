pub mod LastOfAll
pub mod Solo
pub mod LockFree
pub mod CopiesPutOff
pub mod Drain
