-- The cabinet drains: dispatches alone come to "idle".

-- How many tasks are in a call.
pub mod BusyTasks
-- One dispatch.
pub mod DispatchTick
-- One after another.
pub mod Theorem
