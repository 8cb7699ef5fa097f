pub mod Owners
pub mod Bits
