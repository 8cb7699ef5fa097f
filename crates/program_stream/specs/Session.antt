-- A session: what the program prints for the bytes that it reads, byte by byte, as they come in chunks. That it prints
-- the belt run of all its input is shown in proofs/WholeRun.antt.
use Rattle.std.specs.Prelude.{Bool, true, false, cond, List, [], ◌∷◌, ◌++◌, ℕ, eqb}
use Rattle.text.specs.Lines.{line_feed}
use Rattle.text_scan.specs.Scanned.{Scanned, nothing, scan_byte}
use Rattle.program_command.specs.Commands.{command_of}
use Rattle.program_answer.specs.Run.{answer}

-- What bytes come to: where the session stands afterwards, and what it printed.
pub record Step (S : Type 0) : Type 0 where
  pub state : S
  pub text : List ℕ

-- A step that prints nothing.
abbrev pub silent : {S : Type 0} → S → Step S
silent s = record { state = s; text = [] }

-- A text, and then what a step prints.
abbrev pub after : {S : Type 0} → List ℕ → Step S → Step S
after text step = record { state = step.state; text = text ++ step.text }

-- ---- Input taken, whatever stands for the state of a session.

-- A line that ends; a byte of a line; and whether the line is begun, that is, has a byte.
pub record Service (S : Type 0) : Type 0 where
  pub ended : S → Step S
  pub byte : ℕ → S → S
  pub begun : S → Bool

module _ {S : Type 0} (v : Service S) where
  -- 01: "a line ends at a line feed or at the end of input".
  unfoldable pub take_byte : ℕ → S → Step S
  take_byte b s = cond (eqb b line_feed) (v.ended s) (silent (v.byte b s))

  unfoldable pub take_bytes : List ℕ → S → Step S
  take_bytes [] s = silent s
  take_bytes (b ∷ bs) s = let one = take_byte b s in after one.text (take_bytes bs one.state)

  -- The end of the input ends a line that has a byte.
  unfoldable pub end_input : S → Step S
  end_input s = cond (v.begun s) (v.ended s) (silent s)

  -- Bytes, and then the end of the input.
  abbrev pub take_input : List ℕ → S → Step S
  take_input bytes s = let step = take_bytes bytes s in after step.text (end_input step.state)

  -- What chunks print from a state on, one after another, and then the end of the input.
  unfoldable pub printed_from : List (List ℕ) → S → List ℕ
  printed_from [] s = (end_input s).text
  printed_from (chunk ∷ chunks) s =
      let step = take_bytes chunk s in
      step.text ++ printed_from chunks step.state

-- ---- What a session means.

-- The words of the table, none before an accepted start; the line so far, and whether it is begun.
pub record State : Type 0 where
  pub words : List ℕ
  pub line : Scanned
  pub begun : Bool

abbrev pub at_first : State
at_first = record { words = []; line = nothing; begun = false }

-- A line that ends is answered, and the next one has no byte yet.
unfoldable pub end_line : State → Step State
end_line s =
    let done = answer (command_of s.line) s.words in
    record { state = record { words = done.words; line = nothing; begun = false }; text = done.text }

abbrev pub go_on : ℕ → State → State
go_on b s = record { words = s.words; line = scan_byte s.line b; begun = true }

abbrev pub meant : Service State
meant = record { ended = end_line; byte = go_on; begun = λ s. s.begun }

-- All that a session prints for an input that comes in these chunks.
abbrev pub session : List (List ℕ) → List ℕ
session chunks = printed_from meant chunks at_first
