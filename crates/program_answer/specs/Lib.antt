pub mod Forms
pub mod Run
pub mod Space
pub mod Paper
