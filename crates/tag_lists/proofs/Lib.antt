pub mod Laws
pub mod Inverses
pub mod Worked
