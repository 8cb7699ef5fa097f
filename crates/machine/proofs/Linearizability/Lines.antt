-- Every line keeps the invariant, and so does every tick.

pub mod LineEnds
pub mod QuietLines
pub mod WritingLines
pub mod CuttingLines
pub mod TakingLines
pub mod SplicingLines
pub mod Tick
pub mod InvariantTick
