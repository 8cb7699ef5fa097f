-- What the code keeps of the lines so far: a bit for each code that one has, and the end of the wanted code.
use Rattle.std.specs.Prelude.{Bool, Option, Some, None, cond, List, [], ◌∷◌, map, ◌≡◌, ℕ, ◌/◌, ◌%◌, ◌^◌, ◌≤◌, ◌<◌, eqb, length, get_or, set, drop}
use Rattle.std.specs.Int.Bits.{bit_or}
use Rattle.text.specs.Lines.{lines_of}
use Rattle.airline_list.specs.declared.End.{End}
use Rattle.airline_list.specs.Outcomes.{Sent, To, NotSent}
use Rattle.airline_list.specs.Forms.{Form, Airline, Others, Neither, form_of}
use Rattle.airline_list.specs.Lists.{Entry, Verdict, says, faulty, named, judged, verdict, end_for}

abbrev pub codes : ℕ
codes = 1_000

-- ---- The codes so far: code n has bit n % 64 of word n / 64.
abbrev pub has_bit : (seen : List ℕ) (code : ℕ) → Bool
has_bit seen code = eqb (get_or seen (code / 64) 0 / 2 ^ (code % 64) % 2) 1

abbrev pub with_bit : (seen : List ℕ) (code : ℕ) → List ℕ
with_bit seen code = set seen (code / 64) (bit_or (get_or seen (code / 64) 0) (2 ^ (code % 64)))

-- ---- The end of the wanted code, where an airline has it.
abbrev pub end_named : (wanted : ℕ) → List Entry → Option End
end_named wanted [] = None
end_named wanted (e ∷ es) = cond (eqb wanted e.code) (Some e.end) (end_named wanted es)

-- ---- Both, after these airlines.
pub record Kept (wanted : ℕ) (seen : List ℕ) (end : Option End) (es : List Entry) : Type 0 where
  pub size : length seen ≡ 16
  pub bits : (code : ℕ) → code < codes → has_bit seen code ≡ named code es
  pub ends : end ≡ end_named wanted es

-- ---- One line.

-- What holds of the form of every line.
abbrev pub InRange : Form → Type 0
InRange (Airline code end) = code < codes
InRange (Others end) = Unit {0}
InRange Neither = Unit {0}

-- ---- The lines before a place are read: what is left, after what they say, comes to what the list comes to.
pub record Reading (wanted : ℕ) (list : List ℕ) (from line : ℕ) (seen : List ℕ) (end : Option End) : Type 0 where
  pub within : from ≤ length list
  pub few : line ≤ 65
  pub earlier : List Entry
  pub kept : Kept wanted seen end earlier
  pub rest : judged line earlier (map form_of (lines_of (drop from list))) ≡ verdict list

-- ---- All lines: the end for the wanted code, or the fault.
abbrev pub sent_to : (wanted : ℕ) → Verdict → Sent
sent_to wanted (says es closing) = To (end_for wanted es closing)
sent_to wanted (faulty number line) = NotSent number line
