-- That calls answer, to be read in this order.

-- Request 2026-07: T - 1 dispatches are not enough.
pub mod LastOfAll
-- Request 2026-08: a call that gets all the ticks answers.
pub mod SoloBound
-- Beyond the order: some call answers under every schedule.
pub mod LockFree
-- With copies among the ticks it has no bound.
pub mod CopiesPutOff
-- Beyond the order: dispatches alone come to "idle".
pub mod Drain
