-- What the lent words, and what is carried beside them, hold of a session, and what a call makes of it.
use Rattle.std.specs.Prelude.{◌≡◌, Bool, true, false, List, ◌++◌, ℕ, ◌≤◌, ◌<◌, length, take, drop}
use Rattle.text.specs.Writing.{Written}
use Rattle.text_scan.specs.Kept.{Scan, Kept, kept_of, kept_at_first, keep_byte, ScanKept, Represents}
use Rattle.program_command.specs.KeptCommand.{kept_command}
use Rattle.program_print.specs.Room.{room_for}
use Rattle.program_answer.specs.Run.{answer}
use Rattle.program_answer.specs.Space.{largest_table, most_bags}
use Rattle.program_stream.specs.Session.{Step, Service, State}
use Rattle.program_stream.specs.declared.Session.{Session}

-- What is carried from chunk to chunk beside the lent words: how many words of the space are the table, the scan of the
-- line so far, and whether that line has a byte.
pub record Carried : Type 0 where
  pub len : ℕ
  pub scan : Scan
  pub begun : Bool

-- What is lent to a call to hold a session, with what is carried beside it.
pub record Loan : Type 0 where
  pub space : List ℕ
  pub text : List ℕ
  pub numbers : List ℕ
  pub carried : Carried

abbrev pub loan_of : (space text numbers : List ℕ) → Carried → Loan
loan_of space text numbers carried = record { space = space; text = text; numbers = numbers; carried = carried }

-- What is kept of the line so far.
abbrev pub line_of : Loan → Kept
line_of l = kept_of l.text l.numbers l.carried.scan

-- A loan by its space, of which the first len words are the table, and by what is kept of its line.
abbrev pub loan_with : (space : List ℕ) (len : ℕ) → Kept → (begun : Bool) → Loan
loan_with space len k begun =
    loan_of space k.text k.numbers (record { len = len; scan = k.scan; begun = begun })

-- What the code's session holds.
abbrev pub loan : Session → Loan
loan s = loan_with s.space.words.now s.space.len s.line s.begun

-- ---- A session over the lent words: every one of them after a line that ends, and after a byte.

-- The command is answered over the table. The words of the space past the table that it leaves are as before, and so is
-- the array of the text; the numbers are cleared.
unfoldable pub end_line_in : Loan → Step Loan
end_line_in l =
    let done = answer (kept_command (line_of l)) (take l.carried.len l.space) in
    let len = length done.words in
    record {
      state = loan_with (done.words ++ drop len l.space) len (kept_at_first l.text) false;
      text = done.text;
    }

abbrev pub go_on_in : ℕ → Loan → Loan
go_on_in b l = loan_with l.space l.carried.len (keep_byte (line_of l) b) true

abbrev pub lent : Service Loan
lent = record { ended = end_line_in; byte = go_on_in; begun = λ l. l.carried.begun }

-- At first there is no table, and nothing is scanned.
abbrev pub lent_at_first : (space text : List ℕ) → Loan
lent_at_first space text = loan_with space 0 (kept_at_first text) false

-- A step is made on a loan, and the text that it prints stands at its place in the output; every other byte there is as
-- before.
pub record Serves (step : Loan → Step Loan) (before after : Loan) (out : List ℕ) (at : ℕ) (out' : List ℕ) (at' : ℕ)
    : Type 0 where
  pub leaves : after ≡ (step before).state
  pub writes : Written out at (step before).text out' at'

-- ---- What the lent words mean.

-- What every call keeps to: the lengths of what is lent, and the counts within them.
pub record InOrder (l : Loan) : Type 0 where
  pub table_room : l.carried.len ≤ length l.space
  pub largest : largest_table ≤ length l.space
  pub scan_kept : ScanKept (line_of l)

-- The state of a session that a loan holds. The further words of the space are of no account: whatever they are, a call
-- prints the same, and leaves the same state.
pub record Holds (l : Loan) (s : State) : Type 0 where
  pub table : take l.carried.len l.space ≡ s.words
  pub line : Represents (line_of l) s.line
  pub begun : l.carried.begun ≡ s.begun

-- The most bytes that one line prints.
abbrev pub line_room : ℕ
line_room = room_for most_bags

-- Whatever state was held, the state that the step leads to is held afterwards.
abbrev pub Leads : (State → Step State) → (before after : Loan) → Type 0
Leads step before after = (s : State) → Holds before s → Holds after (step s).state

-- A step is made, and the text that it prints stands at its place in the output; every other byte there is as before.
pub record Makes (step : State → Step State) (before after : Loan) (out : List ℕ) (at : ℕ) (out' : List ℕ) (at' : ℕ)
    : Type 0 where
  pub in_order : InOrder after
  pub leads : Leads step before after
  pub prints : (s : State) → Holds before s → Written out at (step s).text out' at'

-- Bytes of the chunk are taken, up to a place within it, and at least one if there is one. How many is the program's
-- choice: it depends on the room for answers.
pub record Onward (chunk : List ℕ) (from to : ℕ) : Type 0 where
  pub forward : from ≤ to
  pub within : to ≤ length chunk
  pub further : from < length chunk → from < to
