-- The marks are exactly the reachable nodes, and a take gives the first node that is not reachable.

pub mod Marking
pub mod Reached
pub mod FirstFree
