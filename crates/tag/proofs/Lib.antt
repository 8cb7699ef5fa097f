pub mod TagLaws
pub mod DigitLaws
pub mod Stores
pub mod Twofold
pub mod TwoDigits
