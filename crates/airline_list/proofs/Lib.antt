pub mod Laws
pub mod Orders
pub mod Written
pub mod OwnText
pub mod Worked
pub mod Refuted
