pub mod Session
pub mod Carried
