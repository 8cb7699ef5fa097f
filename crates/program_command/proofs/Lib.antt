pub mod Laws
pub mod WrittenSays
pub mod Worked
