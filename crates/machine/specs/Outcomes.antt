-- What the calls answer, as the papers list it, a refusal by its number. The code's own types are seen as these in
-- `Results`.
pub mod Answer
pub mod Dispatch
pub mod Reply
pub mod ByList
pub mod Reading
pub mod Ran
