-- What a line's text and numerals are, described without scanning. 01: "a number is digits alone".
use Rattle.std.specs.Prelude.{Bool, true, false, List, [], ◌∷◌, ◌++◌, ◌≡◌, ℕ, ◌+◌, ◌*◌, ◌-◌, length}
use Rattle.text_scan.specs.Scanned.{is_digit, zero_digit}

-- digits, at least one
pub data Numeral : List ℕ → Type 0 where
  last : {d : ℕ} → is_digit d ≡ true → Numeral (d ∷ [])
  then : {d : ℕ} {ds : List ℕ} → is_digit d ≡ true → Numeral ds → Numeral (d ∷ ds)

-- the value of decimal digits that follow a number
unfoldable pub value_after : ℕ → List ℕ → ℕ
value_after n [] = n
value_after n (d ∷ ds) = value_after (10 * n + (d - zero_digit)) ds

unfoldable pub value : List ℕ → ℕ
value ds = value_after 0 ds

unfoldable pub begins_with_digit : List ℕ → Bool
begins_with_digit [] = false
begins_with_digit (b ∷ l) = is_digit b

-- A line, its text and its numerals: a byte that is no digit stands in the text as it is, and a numeral that no further
-- digit follows stands there as the digit 0.
pub data Written : List ℕ → List ℕ → List (List ℕ) → Type 0 where
  ended : Written [] [] []
  byte : {b : ℕ} {line text : List ℕ} {numerals : List (List ℕ)} → is_digit b ≡ false → Written line text numerals
      → Written (b ∷ line) (b ∷ text) numerals
  number : {ds line text : List ℕ} {numerals : List (List ℕ)} → Numeral ds → begins_with_digit line ≡ false
      → Written line text numerals → Written (ds ++ line) (zero_digit ∷ text) (ds ∷ numerals)

-- how many digits the last numeral has, after one of so many
unfoldable pub width_after : ℕ → List (List ℕ) → ℕ
width_after w [] = w
width_after w (ds ∷ numerals) = width_after (length ds) numerals

-- 0 if there is none
unfoldable pub last_width : List (List ℕ) → ℕ
last_width numerals = width_after 0 numerals
