-- Contradictions, choices, tests, functions changed at one place, numbers counted: nothing about the machine.

pub mod Contradiction
pub mod Choices
pub mod Tests
pub mod Updates
pub mod Counts
pub mod Everywhere
pub mod Rounds
