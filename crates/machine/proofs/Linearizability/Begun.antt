-- The tables that our start began: what a tick and a begin leave of them, and facts that last.

pub mod TableAfter
pub mod TableBegun
pub mod Lasting
