-- Which end for which airline (2026-13): what a list says, or its first faulty line; and where it sends a tag.
use Rattle.std.specs.Prelude.{Bool, true, false, cond, ◌||◌, List, [], ◌∷◌, ◌++◌, map, ℕ, suc, eqb, ltb, take, drop}
use Rattle.tag.specs.Tags.{ten_digits, number_of}
use Rattle.text.specs.Lines.{line_feed, lines_of}
use Rattle.airline_list.specs.declared.End.{End}
use Rattle.airline_list.specs.Outcomes.{Checked, Accepted, Faulty, Sent, To, NotSent}
use Rattle.airline_list.specs.Forms.{Form, Airline, Others, Neither, form_text, form_of}

-- 02: "The second to fourth digits of a tag are the airline's code."
abbrev pub code_of : (tag : ℕ) → ℕ
code_of tag = number_of (take 3 (drop 1 (ten_digits tag)))

-- ---- What a list says.

-- An airline's code, and the end at which it is loaded.
pub record Entry : Type 0 where
  pub code : ℕ
  pub end : End

abbrev pub entry : (code : ℕ) (end : End) → Entry
entry code end = record { code = code; end = end }

-- The airlines in the order of their lines and the closing line's end; or the faulty line, from 1, with its number.
pub data Verdict : Type 0 where
  says : (airlines : List Entry) (closing : End) → Verdict
  faulty : (number line : ℕ) → Verdict

-- Whether one of these airlines has the code.
unfoldable pub named : (code : ℕ) → List Entry → Bool
named code [] = false
named code (e ∷ es) = eqb code e.code || named code es

abbrev pub none_left : List Form → Bool
none_left [] = true
none_left (form ∷ forms) = false

-- 02: "1 to 64 lines with the closing one".
abbrev pub most_lines : ℕ
most_lines = 64

-- 02: "27, a line that is neither form, a 65th line, or no line (named as line 1); 28, a code that an earlier line has;
-- 29, a closing line with a line after it, or a last line that is not one. The first faulty line is named, from 1, with
-- its lowest number". The forms from line n on, after lines that say this. (The first clause is for a list of no line.)
unfoldable pub judged : (n : ℕ) (earlier : List Entry) → List Form → Verdict
judged n earlier [] = faulty 27 n
judged n earlier (Neither ∷ forms) = faulty 27 n
judged n earlier (Airline code end ∷ forms) =
    cond (ltb most_lines n) (faulty 27 n)
    (cond (named code earlier) (faulty 28 n)
    (cond (none_left forms) (faulty 29 n) (judged (suc n) (earlier ++ (entry code end ∷ [])) forms)))
judged n earlier (Others end ∷ forms) =
    cond (ltb most_lines n) (faulty 27 n) (cond (none_left forms) (says earlier end) (faulty 29 n))

-- 02: "a line feed at the very end opens no further line": so does `lines_of` cut.
unfoldable pub verdict : (list : List ℕ) → Verdict
verdict list = judged 1 [] (map form_of (lines_of list))

-- ---- Where it sends a tag.

-- 02: "at the end named for the tag's code, or at the closing line's end".
unfoldable pub end_for : (code : ℕ) → List Entry → (closing : End) → End
end_for code [] closing = closing
end_for code (e ∷ es) closing = cond (eqb code e.code) e.end (end_for code es closing)

abbrev pub sent : Verdict → (tag : ℕ) → Sent
sent (says es closing) tag = To (end_for (code_of tag) es closing)
sent (faulty number line) tag = NotSent number line

-- A list alone, without a tag.
abbrev pub checked : Verdict → Checked
checked (says es closing) = Accepted
checked (faulty number line) = Faulty number line

-- ---- A list written, each line with its line feed.
unfoldable pub list_text : List Entry → (closing : End) → List ℕ
list_text [] closing = form_text (Others closing) ++ (line_feed ∷ [])
list_text (e ∷ es) closing = form_text (Airline e.code e.end) ++ (line_feed ∷ list_text es closing)
