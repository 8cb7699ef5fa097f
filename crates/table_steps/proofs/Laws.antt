-- Each table answers as the definitions do, by one test of all its entries.

pub mod Tables
pub mod OwnerTable
pub mod HeldTable
