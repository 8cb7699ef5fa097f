-- How much room a line takes.
use Rattle.std.specs.Prelude.{ℕ, ◌+◌, ◌*◌}

-- Room enough for a line without a lane: `(refused 4294967295)` with its line feed is the longest.
abbrev pub short_room : ℕ
short_room = 21

-- Room enough for a line that names so many tags: a tag of a lane takes 11 bytes.
abbrev pub room_for : (tags : ℕ) → ℕ
room_for n = short_room + 11 * n
