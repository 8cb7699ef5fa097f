-- What the program lends to a command: the space of words, of which the first are its table, and places for the bags of
-- a lane; and what a command leaves there.
use Rattle.std.specs.Prelude.{◌≡◌, List, ℕ, ◌≤◌, length, take, drop, Result, Ok, Err}
use Rattle.machine.specs.declared.refusal.Refusal.{Refusal}
use Rattle.machine.specs.Results.{refusal_number}
use Rattle.machine.specs.Table.{table_length}
use Rattle.program_answer.specs.declared.Space.{Space}
use Rattle.program_answer.specs.Forms.{Answered}

-- The words of the largest table.
abbrev pub largest_table : ℕ
largest_table = table_length 1024 16

-- The most bags of a lane, each of which has two places: no table has more nodes.
abbrev pub most_bags : ℕ
most_bags = 1024

abbrev pub answered_of : (text words : List ℕ) → Answered
answered_of text ws = record { text = text; words = ws }

-- The text and the first len words are what a command comes to; every later word is as before.
pub record Leaves (before after : List ℕ) (len : ℕ) (text : List ℕ) (answered : Answered) : Type 0 where
  pub answers : answered_of text (take len after) ≡ answered
  pub others : drop len after ≡ drop len before
  pub room : len ≤ length after

-- The table of a space.
abbrev pub table_of : Space → List ℕ
table_of s = take s.len s.words.now

-- From space s to space t is what a command comes to.
abbrev pub Changes : (s t : Space) (text : List ℕ) (answered : Answered) → Type 0
Changes s t text answered = Leaves s.words.now t.words.now t.len text answered

-- An answer with its refusal by number, as an outcome holds it.
abbrev pub numbered : {T : Type 0} → Result T Refusal → Result T ℕ
numbered (Ok t) = Ok t
numbered (Err r) = Err (refusal_number r)
