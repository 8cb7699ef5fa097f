-- What a quick look at a text tells of an airline's line.
use Rattle.std.specs.Prelude.{List, ◌≡◌, ℕ, ◌≤◌, length}
use Rattle.text.specs.Lines.{first_line}
use Rattle.airline_list.specs.declared.End.{End}
use Rattle.airline_list.specs.Forms.{Airline, form_of}

-- An airline's line stands first, with this code and end, and the text goes on behind its line feed.
pub record Names (text : List ℕ) (airline : ℕ × End) : Type 0 where
  pub long : 28 ≤ length text
  pub form : form_of (first_line text) ≡ Airline airline.0 airline.1
