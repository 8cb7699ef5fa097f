-- What a quick look at the rest of a list tells.
use Rattle.std.specs.Prelude.{List, ◌≡◌, ℕ, ◌+◌, ◌≤◌, ◌<◌, length}
use Rattle.text.specs.Lines.{first_line}
use Rattle.airline_list.specs.declared.End.{End}
use Rattle.airline_list.specs.Forms.{Others, form_text, form_of}

-- The text's first line is a closing one with this end, and no other follows.
pub record Closes (text : List ℕ) (end : End) : Type 0 where
  pub some : 0 < length text
  pub form : form_of (first_line text) ≡ Others end
  pub short : length text ≤ length (form_text (Others end)) + 1
