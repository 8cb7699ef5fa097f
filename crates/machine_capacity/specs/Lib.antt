pub mod NoLeak
pub mod Capacity
pub mod Alone
pub mod OneUser
pub mod OneUserExactly
pub mod Room
