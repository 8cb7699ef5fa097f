pub mod Tests
pub mod Mirrors
