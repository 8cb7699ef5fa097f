-- What is true of every table that our calls lead to: the list that carries the row, and what each task relies on.

pub mod Sides
pub mod RowViews
pub mod Segments
pub mod Classes
pub mod Structure
pub mod Reversal
pub mod Nodes
pub mod Chain
pub mod Guarantee
pub mod Reliance
pub mod Phases
pub mod Held
pub mod Invariant
pub mod LaneViews
