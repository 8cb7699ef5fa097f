pub mod Text
pub mod Lines
pub mod Numerals
pub mod Writing
