pub mod Laws
pub mod Worked
pub mod Fits
pub mod Ring
pub mod Kept
pub mod Histories
pub mod Reached
pub mod Refuted
