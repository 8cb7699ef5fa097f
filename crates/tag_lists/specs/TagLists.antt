-- Lists of tags, read from packed decimal and written to it: for every list and out slice, the answer and the out slice
-- afterwards.
use Rattle.std.specs.Prelude.{Bool, cond, ◌&&◌, List, [], ◌++◌, ℕ, zero, suc, ◌*◌, ◌/◌, ◌%◌, leb, ltb, eqb, length, take, drop, Result, Ok, Err}
use Rattle.tag_packed.specs.Packed.{is_packed, unpacked, are_tag, packed}
use Rattle.tag_lists.specs.declared.ListError.{ListError}
use Rattle.tag_lists.specs.declared.ListError.TheVariants.{Tags, NoTag, TagsOut}

-- ---- Answers.

-- 02: "Reading and writing each answer the number of tags"; a refusal has its number, and 18 a place besides.
pub data Answer : Type 0 where
  count : (tags : ℕ) → Answer
  refused : (number : ℕ) → Answer
  refused_at : (number place : ℕ) → Answer

-- Of a refusal in code: its number, and the place of 18 or 0.
abbrev pub refusal_number : ListError → ℕ
refusal_number Tags = 17
refusal_number (NoTag place) = 18
refusal_number TagsOut = 19

abbrev pub refused_place : ListError → ℕ
refused_place Tags = 0
refused_place (NoTag place) = place
refused_place TagsOut = 0

-- 02's answer for each of the code's.
abbrev pub answer_of : Result ℕ ListError → Answer
answer_of (Ok n) = count n
answer_of (Err Tags) = refused 17
answer_of (Err (NoTag place)) = refused_at 18 place
answer_of (Err TagsOut) = refused 19

pub record ListOutcome : Type 0 where
  pub answer : Answer
  pub out : List ℕ

abbrev pub outcome : Answer → (out : List ℕ) → ListOutcome
outcome a out = record { answer = a; out = out }

-- ---- The two ways. Each takes a tag's elements in the list to its elements in the out slice.
pub record Way : Type 0 where
  pub width : ℕ  -- the elements of a tag in the list
  pub longest : ℕ  -- the elements of the longest list
  pub room : ℕ  -- the elements of a tag in the out slice
  pub good : List ℕ → Bool  -- whether elements of the list are a tag
  pub turned : List ℕ → List ℕ  -- what is put out for them

abbrev pub reading : Way
reading = record { width = 5; longest = 5_120; room = 2; good = is_packed; turned = unpacked }

abbrev pub writing : Way
writing = record { width = 2; longest = 2_048; room = 5; good = are_tag; turned = packed }

-- ---- The n tags that a list begins with.

-- 02: "the place, from 0, of the first tag that .."; n where there is none.
unfoldable pub first_bad : Way → (n : ℕ) → (list : List ℕ) → ℕ
first_bad w zero list = 0
first_bad w (suc n) list = cond (w.good (take w.width list)) (suc (first_bad w n (drop w.width list))) 0

-- What is put out for all, in order.
unfoldable pub turned_all : Way → (n : ℕ) → (list : List ℕ) → List ℕ
turned_all w zero list = []
turned_all w (suc n) list = w.turned (take w.width list) ++ turned_all w n (drop w.width list)

-- They stand in front of the out slice. 02: "nothing past the list is written".
abbrev pub put_all : Way → (n : ℕ) → (list out : List ℕ) → List ℕ
put_all w n list out = turned_all w n list ++ drop (w.room * n) out

-- ---- The refusals in their order, then the list. 02: "A refusal leaves the output untouched".

-- 02: "17, byte length not a multiple of 5 or over 5,120, in writing an odd word count or over 2,048".
abbrev pub length_ok : (width longest length : ℕ) → Bool
length_ok width longest l = eqb (l % width) 0 && leb l longest

-- 02: "18, with the place ..; 19, out slice too short, tested last".
abbrev pub tags_taken : Way → (n : ℕ) → (list out : List ℕ) → ListOutcome
tags_taken w n list out =
    cond (ltb (first_bad w n list) n) (outcome (refused_at 18 (first_bad w n list)) out)
    (cond (ltb (length out) (w.room * n)) (outcome (refused 19) out)
    (outcome (count n) (put_all w n list out)))

-- 02: "the list's length is tested before its tags".
abbrev pub list_taken : Way → (list out : List ℕ) → ListOutcome
list_taken w list out =
    cond (length_ok w.width w.longest (length list)) (tags_taken w (length list / w.width) list out)
    (outcome (refused 17) out)

-- ---- Reading and writing.
abbrev pub read_tags : (bytes words : List ℕ) → ListOutcome
read_tags bytes words = list_taken reading bytes words

abbrev pub write_tags : (words bytes : List ℕ) → ListOutcome
write_tags words bytes = list_taken writing words bytes

-- What a call in code gives back, with the out slice that it leaves.
abbrev pub outcome_of : Result ℕ ListError → (out : List ℕ) → ListOutcome
outcome_of r out = outcome (answer_of r) out
