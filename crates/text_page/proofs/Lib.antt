pub mod Laws
pub mod Pages
pub mod Worked
pub mod Refuted
