-- A text written into a buffer: the buffer afterwards, and the place after the text.
use Rattle.std.specs.Prelude.{◌≡◌, List, ℕ, ◌+◌, length}
use Rattle.std.proofs.lemmas.List.Edits.{sets}
use Rattle.text.specs.declared.Writer.{Writer}

-- The text stands at its place in the buffer, every other byte is as before, and next is the place after the text.
pub record Written (before : List ℕ) (at : ℕ) (text after : List ℕ) (next : ℕ) : Type 0 where
  pub buffer : after ≡ sets before at text
  pub end : next ≡ at + length text

-- From writer w to writer v the text is written.
abbrev pub Writes : (w : Writer) (text : List ℕ) (v : Writer) → Type 0
Writes w text v = Written w.out.now w.at text v.out.now v.at
