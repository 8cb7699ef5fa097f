-- Some call answers, whoever ticks: each tick that is made and does not answer lowers a potential of the table.

-- What the other tasks see of a tick.
pub mod Change
pub mod Calmness
-- The ticks that a task has left, while the others tick and are calm.
pub mod LeftStays
-- How often a task may disturb the others, and what each line comes to.
pub mod Disturbances
pub mod TickProgress
pub mod QuietOutcomes
pub mod CalmOutcomes
pub mod DisturbingOutcomes
pub mod HatOutcome
pub mod LineOutcomes
-- The potential, and the theorem.
pub mod Sums
pub mod TableTick
pub mod HatMoves
pub mod Potential
pub mod BeginKeeps
pub mod DispatchKeeps
pub mod Theorem
pub mod Schedules
