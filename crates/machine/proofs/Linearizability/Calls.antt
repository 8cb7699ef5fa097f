-- Every call keeps the agreement of table and row, and gives back what the row gives.

pub mod Start
pub mod Begin
pub mod Pigeonhole
pub mod Reading
pub mod RowSteps
pub mod Agreement
pub mod MadeTicks
pub mod RowDid
pub mod CallsAgree
pub mod ConsecutiveTicks
pub mod ConsecutiveDispatches
pub mod Runs
pub mod EveryCall
pub mod Unwritten
