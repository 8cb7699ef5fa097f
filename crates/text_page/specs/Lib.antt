pub mod Page
pub mod Reader
pub mod Claims
pub mod Examples
pub mod Wrong
