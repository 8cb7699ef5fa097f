-- Linearizability: the invariant of the deque, that every call keeps it, and demand 3. To be read in this order.

-- What is true of every table that our calls lead to.
pub mod Model
-- What the lines' writes do to it, and what the other tasks keep.
pub mod Writes
pub mod Survival
-- Every line, every tick, every call.
pub mod Lines
pub mod Calls
-- Every list of calls, takes, puts and copies: demand 3.
pub mod Pending
pub mod Carried
pub mod Theorem
-- What follows from it.
pub mod Histories
pub mod Corollaries
pub mod Begun
-- No bag number twice.
pub mod Twice
-- Requests 2026-10 and 2026-14: what else is true where a row is known, and that a snapshot brings its row back.
pub mod WhereKnown
pub mod RowsComeBack
