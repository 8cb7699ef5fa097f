-- Lists and tags, with what each comes to; `proofs/Worked` computes them.
use Rattle.std.specs.Prelude.{List, [], ◌∷◌, ◌++◌, ℕ, zero, suc, take}
use Rattle.text.specs.Text.{bytes}
use Rattle.airline_list.specs.declared.End.TheVariants.{Left, Right}
use Rattle.airline_list.specs.Outcomes.{Sent, To, NotSent}
use Rattle.airline_list.specs.Lists.{Entry, entry, Verdict, says, faulty, verdict, sent, list_text}

pub record Example : Type 0 where
  pub given : Verdict
  pub is : Verdict

infix 80 ◌comes-to◌
abbrev ◌comes-to◌ : List ℕ → Verdict → Example
list comes-to v = record { given = verdict list; is = v }

-- n airlines, with the codes from c on.
unfoldable pub airlines : (n c : ℕ) → List Entry
airlines zero c = []
airlines (suc n) c = entry c Right ∷ airlines n (suc c)

unfoldable pub examples : List Example
examples =
    bytes "(airline (code 125) left)\n(others right)\n" comes-to says (entry 125 Left ∷ []) Right
    -- 02: "a line feed at the very end opens no further line", and none need be there.
    ∷ bytes "(airline (code 125) left)\n(others right)" comes-to says (entry 125 Left ∷ []) Right
    ∷ bytes "(others left)" comes-to says [] Left
    ∷ bytes "(airline (code 000) right)\n(airline (code 999) left)\n(others left)\n"
    comes-to says (entry 0 Right ∷ entry 999 Left ∷ []) Left
    -- 27: "a line that is neither form".
    ∷ bytes "(airline (code 25) left)\n(others right)\n" comes-to faulty 27 1
    ∷ bytes "(airline (code 1255) left)\n(others right)\n" comes-to faulty 27 1
    ∷ bytes "(airline (code 12a) left)\n(others right)\n" comes-to faulty 27 1
    ∷ bytes "(airline (code 12:) left)\n(others right)\n" comes-to faulty 27 1
    ∷ bytes "(airline (code 125) up)\n(others right)\n" comes-to faulty 27 1
    ∷ bytes "(airline (code 125) left) \n(others right)\n" comes-to faulty 27 1
    ∷ bytes "(airline (code 125) left)\r\n(others right)\n" comes-to faulty 27 1
    ∷ bytes "(airline (code 125) left)\n\n(others right)\n" comes-to faulty 27 2
    ∷ bytes "(airline (code 125) left)\n(others right" comes-to faulty 27 2
    ∷ bytes "(others right )\n" comes-to faulty 27 1
    -- 27: "or no line (named as line 1)".
    ∷ [] comes-to faulty 27 1
    ∷ bytes "\n" comes-to faulty 27 1
    -- 28: "a code that an earlier line has", with the same end too; before 29.
    ∷ bytes "(airline (code 125) left)\n(airline (code 125) right)\n(others right)\n" comes-to faulty 28 2
    ∷ bytes "(airline (code 125) left)\n(airline (code 125) left)" comes-to faulty 28 2
    -- 29: "a closing line with a line after it, or a last line that is not one".
    ∷ bytes "(others left)\n(airline (code 125) left)\n(others left)\n" comes-to faulty 29 1
    ∷ bytes "(airline (code 125) left)\n(others right)\n\n" comes-to faulty 29 2
    ∷ bytes "(airline (code 125) left)\n" comes-to faulty 29 1
    -- 02: "The first faulty line is named".
    ∷ bytes "(airline (code 125) left)\n(airline (code 125) left)\n(up)\n" comes-to faulty 28 2
    ∷ bytes "(others left)\n(up)\n" comes-to faulty 29 1
    -- 02: "1 to 64 lines with the closing one"; "a 65th line".
    ∷ list_text (airlines 63 100) Left comes-to says (airlines 63 100) Left
    ∷ list_text (airlines 64 100) Left comes-to faulty 27 65
    ∷ take 1_728 (list_text (airlines 64 100) Left) comes-to faulty 29 64
    ∷ (list_text (airlines 63 100) Left ++ bytes "(others left)") comes-to faulty 29 64
    ∷ []

-- ---- Tags.
pub record Sending : Type 0 where
  pub given : Sent
  pub is : Sent

infix 80 ◌goes◌
abbrev ◌goes◌ : (tag : ℕ) → Sent → Sending
tag goes s = record {
  given = sent (verdict (bytes "(airline (code 125) left)\n(airline (code 012) left)\n(others right)\n")) tag;
  is = s;
}

unfoldable pub sendings : List Sending
sendings =
    125_000_000 goes To Left
    ∷ 125_999_999 goes To Left
    ∷ 9_125_000_000 goes To Left
    ∷ 124_999_999 goes To Right
    ∷ 126_000_000 goes To Right
    ∷ 1_250_000_000 goes To Right
    ∷ 12_500_000 goes To Left
    ∷ 51 goes To Right
    ∷ (record { given = sent (verdict (bytes "(others up)\n")) 51; is = NotSent 27 1 })
    ∷ []
