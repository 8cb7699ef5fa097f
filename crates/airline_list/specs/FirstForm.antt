-- The form of a text's first line as the code finds it: the code where there is one, and then what stands behind it.
use Rattle.std.specs.Prelude.{Bool, Option, Some, None, cond, ◌&&◌, List, ℕ, get_or, take}
use Rattle.text.specs.Text.{bytes, same}
use Rattle.text_scan.specs.Scanned.{is_digit}
use Rattle.airline_list.specs.declared.End.{End}
use Rattle.airline_list.specs.declared.End.TheVariants.{Left, Right}
use Rattle.airline_list.specs.Forms.{Form, Airline, Others, Neither}

-- Whether three digits stand where the first form has its code; a byte that is missing is none.
abbrev pub three_digits : (text : List ℕ) → Bool
three_digits text = is_digit (get_or text 15 0) && is_digit (get_or text 16 0) && is_digit (get_or text 17 0)

abbrev pub has_code : (text : List ℕ) → Bool
has_code text = same (take 15 text) (bytes "(airline (code ") && three_digits text

-- The end for which a line is the one of two.
unfoldable pub end_of_two : (line left right : List ℕ) → Option End
end_of_two line left right = cond (same line left) (Some Left) (cond (same line right) (Some Right) None)

-- An airline's line with what stands behind its code, and a line that does not begin as an airline's, by the end that
-- is found there.
abbrev pub airline_with : (code : ℕ) → Option End → Form
airline_with code None = Neither
airline_with code (Some end) = Airline code end

abbrev pub others_with : Option End → Form
others_with None = Neither
others_with (Some end) = Others end

unfoldable pub airline_behind : (code : ℕ) (rest : List ℕ) → Form
airline_behind code rest = airline_with code (end_of_two rest (bytes ") left)") (bytes ") right)"))

unfoldable pub others_in : (line : List ℕ) → Form
others_in line = others_with (end_of_two line (bytes "(others left)") (bytes "(others right)"))
