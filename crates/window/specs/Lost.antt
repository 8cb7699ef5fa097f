-- Request 2026-11: which ticks are lost swaps, by the task's steps before and after alone.
use Rattle.std.specs.Prelude.{ℕ, Bool, cond, ◌&&◌, ◌||◌, ◌==◌}

-- 02: "lost are 5 to 8, 25 to 15, 48 or 51 to 39 and 62 to 0, and no other pair".
abbrev pub is_lost : (before after : ℕ) → Bool
is_lost before after =
    (before == 5) && after == 8
    || before == 25 && after == 15
    || (before == 48 || before == 51) && after == 39
    || before == 62 && after == 0

-- The word of a tick's place: 1 for a lost swap, 0 for any other tick.
abbrev pub lost_word : (before after : ℕ) → ℕ
lost_word before after = cond (is_lost before after) 1 0
