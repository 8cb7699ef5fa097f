-- The answers as single numbers, for C and Rust.
use Rattle.std.specs.Prelude.{Bool, cond, ℕ, ◌+◌, ◌*◌, ◌^◌}
use Rattle.machine.specs.Outcomes.Answer.{Answer}
use Rattle.machine.specs.Outcomes.Dispatch.{Dispatch}
use Rattle.machine.specs.Outcomes.Reading.{Reading, Count, Refused}
use Rattle.machine.specs.Outcomes.Ran.{Ran}
use Rattle.machine.specs.Answers.{kind_of, payload_of, dispatch_kind_of, dispatch_payload_of, reply_number}
use Rattle.airline_list.specs.Outcomes.{Checked, Accepted, Faulty as Checked-Faulty}
use Rattle.machine.specs.Outcomes.ByList.{ByList, Replied, Faulty}
use Rattle.tag_lists.specs.TagLists as TagLists
use Rattle.window.specs.Window as Window

-- Two words in one number of 64 bits. In what a run, a panel's list, a read, a tag list and a feed give, the high one
-- is the refusal or 0 and the low one the count, or the place of 18; in what a push by list and the check of a list
-- give, the faulty line.
abbrev pub pair_of : (high low : ℕ) → ℕ
pair_of high low = high * 2 ^ 32 + low

-- Which library this is: the format of its tables, and its version, major times 1,000,000, minor times 1,000 and the
-- patch.
abbrev table_format : ℕ
table_format = 4

abbrev version_number : ℕ
version_number = 6_006_000

abbrev pub library_version : ℕ
library_version = pair_of table_format version_number

-- The kind with the tag, or with 0; a refusal is kind 7 with its number. A tag has 34 bits.
abbrev pub answer_number : Answer → ℕ
answer_number a = kind_of a * 2 ^ 40 + payload_of a

-- The same of a dispatch; "idle" is kind 8.
abbrev pub dispatch_number : Dispatch → ℕ
dispatch_number d = dispatch_kind_of d * 2 ^ 40 + dispatch_payload_of d

-- The number that stopped the run, or 0, with the ticks made.
abbrev pub ran_number : Ran → ℕ
ran_number r = pair_of r.refusal r.made

-- 0 with the count of the tags, or the refusal with 0.
abbrev pub reading_number : Reading → ℕ
reading_number (Count n) = pair_of 0 n
reading_number (Refused n) = pair_of n 0

-- 2026-05: 0 with the number of tags, or the refusal with its place; only 18 has one.
abbrev pub list_number : TagLists.Answer → ℕ
list_number (TagLists.count n) = pair_of 0 n
list_number (TagLists.refused number) = pair_of number 0
list_number (TagLists.refused_at number place) = pair_of number place

-- 2026-11: 0 where a window was made fresh, or 23.
abbrev pub fresh_number : (made : Bool) → ℕ
fresh_number made = cond made 0 23

-- 0 with the lost swaps, or the refusal with 0.
abbrev pub fed_number : Window.Answer → ℕ
fed_number (Window.lost swaps) = pair_of 0 swaps
fed_number (Window.refused number) = pair_of number 0

-- 2026-13: 0 for an accepted list, or the number of its fault with the faulty line.
abbrev pub checked_number : Checked → ℕ
checked_number Accepted = pair_of 0 0
checked_number (Checked-Faulty number line) = pair_of number line

-- The same for a push by list, or the refusal of its begin with 0.
abbrev pub by_list_number : ByList → ℕ
by_list_number (Replied r) = pair_of (reply_number r) 0
by_list_number (Faulty number line) = pair_of number line
