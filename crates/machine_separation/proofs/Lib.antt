-- Lanes do not meet: a tick touches what its own lane leads to, and a node that nothing leads to.

-- What the lines write and hold, one by one.
pub mod Within
pub mod LinesWithin
-- What a lane leads to, in views; a tick keeps lanes apart.
pub mod Leads
pub mod ApartTick
-- Tables of words: every call keeps it, and the other lanes.
pub mod BegunApart
pub mod Tables
pub mod CallsUntouched
-- What a task of another lane does then.
pub mod SameLines
pub mod SeesTheSame
-- The theorems.
pub mod Theorem
