pub mod Laws
pub mod BeforeStart
pub mod Worked
