pub mod Right
pub mod RightPasses
pub mod Refuted
pub mod SnapshotsRefuted
pub mod SheetsRefuted
pub mod LentRefuted
