-- The lines of an airline list: the two forms, and the form of a line.
use Rattle.std.specs.Prelude.{cond, Option, Some, None, List, [], ◌∷◌, ◌++◌, map, ℕ, ◌+◌, ◌-◌, take, drop}
use Rattle.tag.specs.Tags.{last_digits, number_of}
use Rattle.text.specs.Text.{bytes, same}
use Rattle.text_scan.specs.Scanned.{zero_digit}
use Rattle.airline_list.specs.declared.End.{End}
use Rattle.airline_list.specs.declared.End.TheVariants.{Left, Right}
use Rattle.airline_list.specs.declared.forms.Form.{Form as Read}
use Rattle.airline_list.specs.declared.forms.Form.TheVariants.{Airline as Airline-read, Others as Others-read}

-- What a line says: the end of the airline with a code; that of all others; or neither form.
pub data Form : Type 0 where
  Airline : (code : ℕ) (end : End) → Form
  Others : (end : End) → Form
  Neither : Form

-- The same of a form that the code tells, and of a line that it tells to have none.
abbrev pub said : Read → Form
said (Airline-read code end) = Airline code end
said (Others-read end) = Others end

abbrev pub told : Option Read → Form
told None = Neither
told (Some form) = said form

-- 02: "Each code has three digits".
abbrev pub code_text : (code : ℕ) → List ℕ
code_text code = map (λ (d : ℕ). zero_digit + d) (last_digits 3 code)

abbrev pub end_text : End → List ℕ
end_text Left = bytes "left"
end_text Right = bytes "right"

-- 02: `(airline (code 125) left)`, `(others right)`.
abbrev pub form_text : Form → List ℕ
form_text (Airline code end) = bytes "(airline (code " ++ (code_text code ++ (bytes ") " ++ (end_text end ++ bytes ")")))
form_text (Others end) = bytes "(others " ++ (end_text end ++ bytes ")")
form_text Neither = []

-- The number of the three digits that stand where the first form has its code, behind 15 bytes.
abbrev pub code_in : (line : List ℕ) → ℕ
code_in line = number_of (map (λ (b : ℕ). b - zero_digit) (take 3 (drop 15 line)))

-- The first of some forms whose text the line is.
abbrev pub first_with : (line : List ℕ) → List Form → Form
first_with line [] = Neither
first_with line (form ∷ forms) = cond (same line (form_text form)) form (first_with line forms)

unfoldable pub form_of : (line : List ℕ) → Form
form_of line =
    let code = code_in line in
    first_with line (Airline code Left ∷ Airline code Right ∷ Others Left ∷ Others Right ∷ [])
