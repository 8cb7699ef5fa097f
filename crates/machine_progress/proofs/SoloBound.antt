-- A call that gets all the ticks answers: walks along links end, and each tick spends from a bound.

-- Walks along links, and that every tick keeps them ending.
pub mod Walks
pub mod LinksEnd
-- What a task finds at its hat, and the bound that each step has left.
pub mod AtHat
pub mod Budget
-- The lines: each tick answers or spends.
pub mod LinesSpend
pub mod AtFirst
-- Tables of words: every call and every copy keeps the walks ending; a tick; the theorem.
pub mod BegunEnds
pub mod Led
pub mod EndsOrGoes
pub mod SoloTick
pub mod Theorem
