pub mod Lost
pub mod Window
pub mod History
pub mod Examples
pub mod Wrong
