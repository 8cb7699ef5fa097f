-- The machine for one user: the table stands as its state, gives its answers, and stands as the next one.

-- What a call leaves of a state.
pub mod States
-- The table that stands as a state; its refusals and its reads.
pub mod Standing
-- One whole call.
pub mod Step
-- The started table.
pub mod Started
-- One whole call after another.
pub mod Theorem
-- What fits, and what to do about "full".
pub mod Room
pub mod GiveBack
pub mod FullAdvice
-- Worked examples, computed.
pub mod Example
