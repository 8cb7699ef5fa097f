-- The lines of the figure taken apart, once: how their definition branches, and which branches there are.

pub mod Connectives
pub mod Branches
