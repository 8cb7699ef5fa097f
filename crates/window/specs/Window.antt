-- Request 2026-11: the window; for all words and numbers, what making it fresh and feeding it answer and leave.
use Rattle.std.specs.Prelude.{ℕ, ◌+◌, ◌%◌, ◌^◌, Bool, true, cond, ◌&&◌, ◌||◌, List, [], ◌∷◌, length, take, drop, replicate, ◌==◌, nat_le, nat_lt, slice_index, slice_set, Result, Ok, Err}
use Rattle.window.specs.declared.WindowError.{WindowError}
use Rattle.window.specs.declared.WindowError.TheVariants.{Window, Count}
use Rattle.window.specs.Lost.{lost_word}

-- ---- The words. No other definition says where in a window a word stands.

-- 02: "Its words are W, how many of its places are fed, the next place, the last count, then W places".
abbrev pub window_of : (W fed next last : ℕ) → (places : List ℕ) → List ℕ
window_of W fed next last places = W ∷ fed ∷ next ∷ last ∷ places

abbrev pub width : List ℕ → ℕ
width ws = slice_index ws 0

abbrev pub fed_count : List ℕ → ℕ
fed_count ws = slice_index ws 1

abbrev pub next_place : List ℕ → ℕ
next_place ws = slice_index ws 2

abbrev pub last_count : List ℕ → ℕ
last_count ws = slice_index ws 3

abbrev pub places : List ℕ → List ℕ
places ws = drop 4 ws

-- ---- What refusal 23 tests. 02: "23, W out of range, length not W + 4, or a word not as said here".

-- 02: "A lent window of W + 4 words, W from 1 to 4,096".
abbrev pub sizes_ok : (length W : ℕ) → Bool
sizes_ok l W = nat_le 1 W && nat_le W 4_096 && l == W + 4

-- 02: "how many of its places are fed": it has W.
abbrev pub fed_ok : (W fed : ℕ) → Bool
fed_ok W fed = nat_le fed W

-- 02: "While fewer than W are fed, the next place equals the number fed." Later it is any of the places.
abbrev pub next_ok : (W fed next : ℕ) → Bool
next_ok W fed next = cond (nat_lt fed W) (next == fed) (nat_lt next W)

-- 02: "Places not fed are 0, and so is the last count while none is fed." Later it is any number.
abbrev pub last_ok : (fed last : ℕ) → Bool
last_ok fed last = nat_lt 0 fed || last == 0

-- Every word is at most m.
unfoldable pub at_most : (m : ℕ) → List ℕ → Bool
at_most m [] = true
at_most m (w ∷ ws) = nat_le w m && at_most m ws

-- 02: "W places of 0 or 1"; "Places not fed are 0". The first ones are fed.
abbrev pub places_ok : (fed : ℕ) → List ℕ → Bool
places_ok fed ps = at_most 1 (take fed ps) && at_most 0 (drop fed ps)

abbrev pub header_ok : List ℕ → Bool
header_ok ws =
    sizes_ok (length ws) (width ws)
    && fed_ok (width ws) (fed_count ws)
    && next_ok (width ws) (fed_count ws) (next_place ws)
    && last_ok (fed_count ws) (last_count ws)

abbrev pub is_window : List ℕ → Bool
is_window ws = header_ok ws && places_ok (fed_count ws) (places ws)

-- ---- A fresh window.

-- 02: "a fresh one is W and zeros".
unfoldable pub fresh_words : (W : ℕ) → List ℕ
fresh_words W = window_of W 0 0 0 (replicate W 0)

-- It is made where length and W fit. Otherwise 23, and every word stays.
abbrev pub fresh_leaves : List ℕ → (W : ℕ) → List ℕ
fresh_leaves ws W = cond (sizes_ok (length ws) W) (fresh_words W) ws

-- ---- What refusal 24 tests.

-- 02: "The first count fed may be any number"; "24, a later count that is not the last one plus 1, with 0 after
-- 4,294,967,295".
abbrev pub count_follows : (fed last count : ℕ) → Bool
count_follows fed last count = fed == 0 || count == (last + 1) % 2 ^ 32

abbrev pub in_turn : List ℕ → (count : ℕ) → Bool
in_turn ws count = count_follows (fed_count ws) (last_count ws) count

-- ---- One tick fed.

-- One more place is fed, until all W are.
abbrev pub one_more : (W fed : ℕ) → ℕ
one_more W fed = cond (nat_lt fed W) (fed + 1) fed

-- 02: "filled in a ring".
abbrev pub go_round : (W next : ℕ) → ℕ
go_round W next = cond (nat_lt (next + 1) W) (next + 1) 0

-- The words with one tick more, whose own is 1 where it is lost and else 0.
abbrev pub fed_words : List ℕ → (count word : ℕ) → List ℕ
fed_words ws count word =
    window_of
    (width ws)
    (one_more (width ws) (fed_count ws))
    (go_round (width ws) (next_place ws))
    count
    (slice_set (places ws) (next_place ws) word)

-- The sum of words. Of places, which are 0 or 1, it is the number of lost swaps.
unfoldable pub total : List ℕ → ℕ
total [] = 0
total (w ∷ ws) = w + total ws

-- ---- Feeding.

-- 02: "It answers the lost swaps among the last W ticks fed"; a refusal has its number.
pub data Answer : Type 0 where
  lost : (swaps : ℕ) → Answer
  refused : (number : ℕ) → Answer

-- An answer, and every word of the window afterwards.
pub record FeedOutcome : Type 0 where
  pub answer : Answer
  pub words : List ℕ

abbrev pub outcome : Answer → (words : List ℕ) → FeedOutcome
outcome a ws = record { answer = a; words = ws }

-- The tick just fed is one of the last W.
abbrev pub answered : (words : List ℕ) → FeedOutcome
answered ws = outcome (lost (total (places ws))) ws

-- The refusals in their order; a refusal leaves the window as it was.
unfoldable pub feed : List ℕ → (count before after : ℕ) → FeedOutcome
feed ws count before after =
    cond (is_window ws)
    (cond (in_turn ws count) (answered (fed_words ws count (lost_word before after)))
    (outcome (refused 24) ws))
    (outcome (refused 23) ws)

-- ---- 02's answer for each of the code's, with the window that a call leaves.
abbrev pub refusal_number : WindowError → ℕ
refusal_number Window = 23
refusal_number Count = 24

abbrev pub answer_of : Result ℕ WindowError → Answer
answer_of (Ok n) = lost n
answer_of (Err e) = refused (refusal_number e)

abbrev pub outcome_of : Result ℕ WindowError → (words : List ℕ) → FeedOutcome
outcome_of r ws = outcome (answer_of r) ws
