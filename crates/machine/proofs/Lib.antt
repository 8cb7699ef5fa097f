-- What is proved of the definitions, to be read in this order.

-- Facts about numbers, choices and functions.
pub mod Basics
-- The words of a table, and what they stand for.
pub mod Words
-- The lines taken apart.
pub mod Lines
-- Refusals 3 and 4, which every call keeps.
pub mod Shape
-- Request 2026-01: the panel's list beside a run.
pub mod Panel
-- Request 2026-10: taking a snapshot and putting it back.
pub mod Snapshots
-- Request 2026-07: a busy task gets its tick within T dispatches.
pub mod Fair
-- Consecutive dispatches: how many went on, by the tick count.
pub mod WentOn
-- The slot rule: what is reachable, what is taken.
pub mod SlotRule
-- Demand 3.
pub mod Linearizability
