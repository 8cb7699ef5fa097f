pub mod Sending
pub mod Worked
pub mod Alike
pub mod Refuted
