-- What a task relies on survives the ticks of the other tasks.

pub mod Stability
pub mod OtherTasks
