-- Calls alone: what each answers, and the numbers that it leaves.

-- The ends of a lane in a table with no task in a call.
pub mod Ends
pub mod CallEnds
-- A call tick by tick, what it leaves, and the rows.
pub mod Runs
pub mod Left
pub mod Rows
-- The outcomes, by what a call finds at its end.
pub mod Outcomes
-- What each call comes to.
pub mod Pop
-- Pushes and adds: what is reached, what is taken, and what is spliced in.
pub mod Reach
pub mod Others
pub mod Build
pub mod Splice
pub mod Finish
pub mod Push
pub mod Add
-- Removes: what is cut off.
pub mod Cut
pub mod Remove
-- How many nodes are free, and the theorem.
pub mod Counts
pub mod Takes
pub mod Theorem
