-- The tests of refusals 3 and 4 as facts about a table; every line fits, every call keeps the shape, and begins and
-- looks are told by what they look at.

pub mod BusyLaws
pub mod ShapeLaws
pub mod Fits
pub mod Moves
pub mod LinesFit
pub mod WritesKeep
pub mod TickKeeps
pub mod DispatchCases
pub mod ShapeKept
pub mod LentBegins
pub mod Looks
