pub mod Replies
pub mod Alike
pub mod Examples
pub mod Wrong
