pub mod Tests
pub mod Counting
pub mod Filling
pub mod Windows
pub mod Scans
pub mod Feeds
