-- What the turns of the program do with the bytes that they take. That these are the bytes read, and that what comes to
-- stand at the front of the output is written, no contract can say.
use Rattle.std.specs.Prelude.{◌≡◌, Bool, true, false, cond, ℕ, ◌≤◌, ◌<◌, length, take}
use Rattle.std.specs.declared.ops.ControlFlow.{ControlFlow}
use Rattle.std.specs.declared.ops.ControlFlow.TheVariants.{Continue, Break}
use mathlib.Core.List.{List, [], ◌∷◌, flatten}
use Rattle.std.proofs.lemmas.List.Edits.{sets}
use Rattle.program_answer.specs.Run.{belt_run}
use Rattle.program_stream.specs.Session.{Step, Service, take_bytes, end_input, take_input, at_first, meant}
use Rattle.program_stream.specs.Carried.{Loan, lent, lent_at_first, InOrder, Holds, Onward}

-- Texts laid at the front of the output, one after another.
abbrev pub laid_in : (out : List ℕ) → List (List ℕ) → List ℕ
laid_in out [] = out
laid_in out (text ∷ texts) = laid_in (sets out 0 text) texts

-- There is room for each of the texts.
abbrev pub EachFits : (room : ℕ) → List (List ℕ) → Type 0
EachFits room [] = Unit {0}
EachFits room (text ∷ texts) = (length text ≤ room) × EachFits room texts

-- A step is made on a loan, and its text comes to stand at the front of the output in pieces, one after another. Where
-- it is cut is the program's choice; the pieces are always the whole of it.
pub record Answers (step : Loan → Step Loan) (before after : Loan) (out out' : List ℕ) : Type 0 where
  pub in_order : InOrder after
  pub leaves : after ≡ (step before).state
  pub pieces : List (List ℕ)
  pub whole : flatten pieces ≡ (step before).text
  pub fitting : EachFits (length out) pieces
  pub laid : out' ≡ laid_in out pieces

-- How many bytes are taken, and whether the session goes on.
abbrev pub bytes_taken : ControlFlow ℕ ℕ → ℕ
bytes_taken (Continue taken) = taken
bytes_taken (Break taken) = taken

abbrev pub goes_on : ControlFlow ℕ ℕ → Bool
goes_on (Continue taken) = true
goes_on (Break taken) = false

-- The first bytes of a chunk are answered, and all of them if the session goes on.
pub record Taken (chunk : List ℕ) (taken : ℕ) (going : Bool) (before after : Loan) (out out' : List ℕ) : Type 0 where
  pub onward : Onward chunk 0 taken
  pub all : going ≡ true → taken ≡ length chunk
  pub answers : Answers (take_bytes lent (take taken chunk)) before after out out'

-- A turn with these bytes. Where none came, the input is at its end.
abbrev pub turn_with : List ℕ → Loan → Step Loan
turn_with [] l = end_input lent l
turn_with (b ∷ bs) l = take_bytes lent (b ∷ bs) l

-- A turn took the first bytes of the input. A session goes on only where there was one.
pub record Turned (input : List ℕ) (taken : ℕ) (going : Bool) (before after : Loan) (out out' : List ℕ) : Type 0 where
  pub within : taken ≤ length input
  pub some : going ≡ true → 0 < taken
  pub answers : Answers (turn_with (take taken input)) before after out out'

-- All the bytes of a run, and the end of the input if it came.
abbrev pub input_taken : {S : Type 0} → Service S → (bytes : List ℕ) (ended : Bool) → S → Step S
input_taken v bytes ended s = cond ended (take_input v bytes s) (take_bytes v bytes s)

-- A run from the start of a session: the bytes taken, whether the input came to its end, and what is held then. A run
-- that the end of the input does not end is ended by a write that fails, or by the count of its turns.
pub record Ran (space text out : List ℕ) (after : Loan) (out' : List ℕ) : Type 0 where
  pub bytes : List ℕ
  pub ended : Bool
  pub answers : Answers (input_taken lent bytes ended) (lent_at_first space text) after out out'
  pub holds : Holds after (input_taken meant bytes ended at_first).state
  pub prints : ended ≡ true → flatten answers.pieces ≡ belt_run bytes
