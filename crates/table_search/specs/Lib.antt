pub mod Marked
pub mod Arrays
