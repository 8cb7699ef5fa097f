pub mod Said
pub mod Commands
pub mod KeptCommand
pub mod Examples
