-- Request 2026-03: no bag number is in the lane twice. To be read in this order.

pub mod Lists
pub mod Rows
pub mod Begins
pub mod Theorem
