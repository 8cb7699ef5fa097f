-- Which registers hold: the table is exact, its columns are those of the lines, and what does not hold is never seen.

-- The table and the paths; the columns and the lines, in both directions.
pub mod Paths
pub mod LinesUse
pub mod Shown
-- Two tables that differ only in registers that do not hold.
pub mod Agreeing
pub mod AlikeTables
pub mod AlikeTicks
pub mod AlikeCalls
pub mod AlikeLists
pub mod Unseen
