-- No node leaks: outward links of X and Y nodes have a remove that will cut them, so an idle table has none.

-- Whose links a remove will cut, and that every tick keeps it so.
pub mod Removers
pub mod KeepsRemovers
pub mod LineEnds
pub mod WritingLines
pub mod RemoveLines
pub mod LinesKeepRemovers
pub mod RemoversTick
-- Tables of words: every call keeps it.
pub mod BegunRemovers
-- A table with no task in a call, and the theorem.
pub mod IdleTables
pub mod Counting
pub mod Theorem
-- Calls alone, exactly.
pub mod Alone
-- What fits: at every moment, and by pushes alone until "full".
pub mod MostBags
pub mod NewNumber
pub mod FillsUp
pub mod Capacity
-- The machine for one user.
pub mod OneUser
