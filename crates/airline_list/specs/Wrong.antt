-- Wrong readings of a list as definitions, each with a list and a tag that tell it from the right one; `proofs/Refuted`
-- computes it.
use Rattle.std.specs.Prelude.{◌≡◌, Bool, true, false, cond, not, ◌&&◌, List, [], ◌∷◌, ◌++◌, map, reverse, ℕ, suc, ◌-◌, eqb, ltb, length, get_or, take, drop}
use Rattle.tag.specs.Tags.{ten_digits, number_of}
use Rattle.text.specs.Text.{bytes}
use Rattle.text.specs.Lines.{line_feed, in_front, lines_of}
use Rattle.airline_list.specs.declared.End.{End}
use Rattle.airline_list.specs.declared.End.TheVariants.{Left, Right}
use Rattle.airline_list.specs.Outcomes.{Sent, To, NotSent}
use Rattle.airline_list.specs.Forms.{Form, Airline, Others, Neither, form_of}
use Rattle.airline_list.specs.Lists.{
  code_of,
  Entry,
  entry,
  Verdict,
  says,
  faulty,
  named,
  none_left,
  most_lines,
  verdict,
  end_for,
  sent,
}

-- ---- A list read and a tag sent, with each of the parts as a parameter.

-- What 28 tests of a code, its end and the lines before; and what a closing line with a line after it comes to.
unfoldable pub judged_by :
    (again : (code : ℕ) (end : End) → List Entry → Bool)
    (early : (n : ℕ) (earlier : List Entry) → End → Verdict)
    → (n : ℕ) (earlier : List Entry) → List Form → Verdict
judged_by again early n earlier [] = faulty 27 n
judged_by again early n earlier (Neither ∷ forms) = faulty 27 n
judged_by again early n earlier (Airline code end ∷ forms) =
    cond (ltb most_lines n) (faulty 27 n)
    (cond (again code end earlier) (faulty 28 n)
    (cond (none_left forms) (faulty 29 n) (judged_by again early (suc n) (earlier ++ (entry code end ∷ [])) forms)))
judged_by again early n earlier (Others end ∷ forms) =
    cond (ltb most_lines n) (faulty 27 n) (cond (none_left forms) (says earlier end) (early n earlier end))

abbrev pub named_before : (code : ℕ) (end : End) → List Entry → Bool
named_before code end earlier = named code earlier

abbrev pub faulty_there : (n : ℕ) (earlier : List Entry) → End → Verdict
faulty_there n earlier end = faulty 29 n

-- The lines of a list, the form of a line, what forms come to, a tag's code, and the end for a code.
pub record Reader : Type 0 where
  pub lines : List ℕ → List (List ℕ)
  pub form : List ℕ → Form
  pub judge : List Form → Verdict
  pub code : (tag : ℕ) → ℕ
  pub end : (code : ℕ) → List Entry → (closing : End) → End

abbrev pub sent_by : Reader → Verdict → (tag : ℕ) → Sent
sent_by R (says es closing) tag = To (R.end (R.code tag) es closing)
sent_by R (faulty number line) tag = NotSent number line

abbrev pub reads : Reader → (list : List ℕ) (tag : ℕ) → Sent
reads R list tag = sent_by R (R.judge (map R.form (R.lines list))) tag

abbrev pub right_reader : Reader
right_reader =
    record {
      lines = lines_of;
      form = form_of;
      judge = judged_by named_before faulty_there 1 [];
      code = code_of;
      end = end_for;
    }

-- The right one but for a part.
abbrev cutting : (List ℕ → List (List ℕ)) → Reader
cutting lines =
    record {
      lines = lines;
      form = right_reader.form;
      judge = right_reader.judge;
      code = right_reader.code;
      end = right_reader.end;
    }

abbrev forming : (List ℕ → Form) → Reader
forming form =
    record {
      lines = right_reader.lines;
      form = form;
      judge = right_reader.judge;
      code = right_reader.code;
      end = right_reader.end;
    }

abbrev judging : (List Form → Verdict) → Reader
judging judge =
    record {
      lines = right_reader.lines;
      form = right_reader.form;
      judge = judge;
      code = right_reader.code;
      end = right_reader.end;
    }

abbrev coding : (ℕ → ℕ) → Reader
coding code =
    record {
      lines = right_reader.lines;
      form = right_reader.form;
      judge = right_reader.judge;
      code = code;
      end = right_reader.end;
    }

-- ---- A tag's code: three of its digits, but those behind this many.
abbrev code_behind : ℕ → Reader
code_behind n = coding (λ tag. number_of (take 3 (drop n (ten_digits tag))))

-- ---- 28 is not tested: the last line that has the code counts, or the first. Then the order of the lines matters.
abbrev takes_again : List Form → Verdict
takes_again forms = judged_by (λ code end earlier. false) faulty_there 1 [] forms

abbrev last_counts : Reader
last_counts =
    record {
      lines = lines_of;
      form = form_of;
      judge = takes_again;
      code = code_of;
      end = λ code es closing. end_for code (reverse es) closing;
    }

abbrev first_counts : Reader
first_counts = judging takes_again

-- 28 where the ends differ alone.
abbrev same_end : End → End → Bool
same_end Left Left = true
same_end Left Right = false
same_end Right Left = false
same_end Right Right = true

abbrev agrees_twice : Reader
agrees_twice =
    judging (λ forms.
    judged_by (λ code end earlier. named code earlier && not (same_end end (end_for code earlier end))) faulty_there 1 []
    forms)

-- ---- 29: a closing line with a line after it is named at that line, or ends the list.
abbrev names_next : Reader
names_next = judging (λ forms. judged_by named_before (λ n earlier end. faulty 29 (suc n)) 1 [] forms)

abbrev stops_at_closing : Reader
stops_at_closing = judging (λ forms. judged_by named_before (λ n earlier end. says earlier end) 1 [] forms)

-- ---- 27 of any line before 28 and 29 of an earlier one.
unfoldable pub neither_from : (n : ℕ) → List Form → Verdict → Verdict
neither_from n [] v = v
neither_from n (Neither ∷ forms) v = faulty 27 n
neither_from n (Airline code end ∷ forms) v = neither_from (suc n) forms v
neither_from n (Others end ∷ forms) v = neither_from (suc n) forms v

abbrev neithers_first : Reader
neithers_first = judging (λ forms. neither_from 1 forms (right_reader.judge forms))

-- ---- A final line feed opens a line.
unfoldable pub lines_fed : List ℕ → List (List ℕ)
lines_fed [] = [] ∷ []
lines_fed (b ∷ bs) = cond (eqb b line_feed) ([] ∷ lines_fed bs) (in_front b (lines_fed bs))

abbrev feed_opens_line : Reader
feed_opens_line = cutting lines_fed

-- ---- A carriage return at the end of a line is left off.
abbrev drops_return : Reader
drops_return =
    forming (λ line.
    let n = length line - 1 in cond (eqb (get_or line n 0) 13) (form_of (take n line)) (form_of line))

-- ---- Each with a list and a tag: where the right one sends it, and where the wrong one does.
pub record Case : Type 0 where
  pub wrong : Reader
  pub list : List ℕ
  pub tag : ℕ
  pub right_sends : Sent
  pub wrong_sends : Sent

abbrev case : Reader → (list : List ℕ) (tag : ℕ) → (right_sends wrong_sends : Sent) → Case
case R list tag r w = record { wrong = R; list = list; tag = tag; right_sends = r; wrong_sends = w }

abbrev one : List ℕ
one = bytes "(airline (code 125) left)\n(others right)\n"

abbrev left_first : List ℕ
left_first = bytes "(airline (code 125) left)\n(airline (code 125) right)\n(others left)\n"

abbrev right_first : List ℕ
right_first = bytes "(airline (code 125) right)\n(airline (code 125) left)\n(others left)\n"

abbrev twice_left : List ℕ
twice_left = bytes "(airline (code 125) left)\n(airline (code 125) left)\n(others right)\n"

unfoldable pub cases : List Case
cases =
    -- Wrong: The code is the first to third digit of a tag.
    case (code_behind 0) one 125_000_051 (To Left) (To Right)
    -- Wrong: The code is the third to fifth digit.
    ∷ case (code_behind 2) one 125_000_051 (To Left) (To Right)
    -- Wrong: 28 is not tested, and the last line that has the code counts.
    ∷ case last_counts left_first 125_000_051 (NotSent 28 2) (To Right)
    -- Wrong: The same, with the two lines in the other order: the tag is sent elsewhere.
    ∷ case last_counts right_first 125_000_051 (NotSent 28 2) (To Left)
    -- Wrong: 28 is not tested, and the first line that has the code counts.
    ∷ case first_counts left_first 125_000_051 (NotSent 28 2) (To Left)
    -- Wrong: The same, with the two lines in the other order: the tag is sent elsewhere.
    ∷ case first_counts right_first 125_000_051 (NotSent 28 2) (To Right)
    -- Wrong: A code seen twice is accepted where the ends agree.
    ∷ case agrees_twice twice_left 125_000_051 (NotSent 28 2) (To Left)
    -- Wrong: 29 of a closing line is named at the line after it.
    ∷ case names_next (bytes "(others left)\n(others left)\n") 51 (NotSent 29 1) (NotSent 29 2)
    -- Wrong: `others` in the middle is accepted: what comes after it is not read.
    ∷ case stops_at_closing (bytes "(others left)\n(airline (code 125) right)\n") 51 (NotSent 29 1) (To Left)
    -- Wrong: 27 of a later line comes before 28 of an earlier one.
    ∷ case neithers_first (twice_left ++ bytes "(up)\n") 51 (NotSent 28 2) (NotSent 27 4)
    -- Wrong: A line feed at the very end opens a line.
    ∷ case feed_opens_line (bytes "(others left)\n") 51 (To Left) (NotSent 29 1)
    -- Wrong: A carriage return at the end of a line is left off.
    ∷ case drops_return (bytes "(others left)\r\n") 51 (NotSent 27 1) (To Left)
    ∷ []

-- ---- The claim: both send as said; and the right one is `sent`.
abbrev pub AllRefuted : Type 0
AllRefuted =
    (map (λ (c : Case). reads right_reader c.list c.tag) cases ≡ map (λ (c : Case). c.right_sends) cases)
    × (map (λ (c : Case). reads c.wrong c.list c.tag) cases ≡ map (λ (c : Case). c.wrong_sends) cases)

abbrev pub RightIsSent : Type 0
RightIsSent = (list : List ℕ) (tag : ℕ) → reads right_reader list tag ≡ sent (verdict list) tag
