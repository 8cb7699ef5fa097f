-- What the writes of the lines do to the structure and the guarantee.

pub mod ClassChanges
pub mod MainWrites
pub mod OtherLanes
pub mod Push
pub mod Pop
pub mod Unspur
pub mod Cut
pub mod Joined
pub mod Spur
pub mod SpurLines
pub mod Splice
pub mod Restriction
pub mod Take
pub mod ChainGrowth
pub mod FreeNode
