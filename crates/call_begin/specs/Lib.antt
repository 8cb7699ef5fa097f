pub mod OwnRecord
pub mod Seen
pub mod Tests
