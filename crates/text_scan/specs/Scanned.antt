-- A line scanned from left to right. 01: "a number is digits alone": each longest run of digits is one number, and
-- stands in the line's text as the single digit 0. So a line is a text and a list of numbers, and its form is in its
-- text alone. 02: "a push of another width is `(unread)`": how many digits the last number has is kept for its tag.
use Rattle.std.specs.Prelude.{Bool, true, false, cond, ◌&&◌, List, [], ◌∷◌, ◌++◌, ◌≡◌, ℕ, suc, ◌+◌, ◌*◌, ◌-◌, ◌^◌, ◌<◌, leb, length, get_or, set}

-- what has been scanned: its text, its numbers in order, how many digits the last of them is wide, and whether its last
-- byte is a digit
pub record Scanned : Type 0 where
  pub text : List ℕ
  pub numbers : List ℕ
  pub width : ℕ
  pub in_number : Bool

abbrev pub nothing : Scanned
nothing = record { text = []; numbers = []; width = 0; in_number = false }

-- the byte of the digit 0
abbrev pub zero_digit : ℕ
zero_digit = 48

-- 0 to 9
abbrev pub is_digit : ℕ → Bool
is_digit b = leb 48 b && leb b 57

-- a digit with the value d that opens a number
abbrev pub opened : Scanned → ℕ → Scanned
opened s d =
    record { text = s.text ++ (zero_digit ∷ []); numbers = s.numbers ++ (d ∷ []); width = 1; in_number = true }

-- the number at a place with a further digit: n becomes 10 n + d
abbrev pub with_digit : List ℕ → ℕ → ℕ → ℕ
with_digit numbers place d = 10 * get_or numbers place 0 + d

-- the last number gets a further digit, of value d
abbrev pub extended : Scanned → ℕ → Scanned
extended s d =
    let last = length s.numbers - 1 in
    record {
      text = s.text;
      numbers = set s.numbers last (with_digit s.numbers last d);
      width = s.width + 1;
      in_number = true;
    }

-- any other byte is added to the text
abbrev pub appended : Scanned → ℕ → Scanned
appended s b = record { text = s.text ++ (b ∷ []); numbers = s.numbers; width = s.width; in_number = false }

unfoldable pub scan_byte : Scanned → ℕ → Scanned
scan_byte s b =
    cond (is_digit b) (cond s.in_number (extended s (b - zero_digit)) (opened s (b - zero_digit))) (appended s b)

unfoldable pub scan_bytes : Scanned → List ℕ → Scanned
scan_bytes s [] = s
scan_bytes s (b ∷ bs) = scan_bytes (scan_byte s b) bs

-- how many numbers a text has places for: one for each digit in it
unfoldable pub places_in : List ℕ → ℕ
places_in [] = 0
places_in (b ∷ bs) = cond (is_digit b) (suc (places_in bs)) (places_in bs)

-- What holds of every line scanned: it has one number for each place of its text; its last number is below ten to the
-- power of its width; and a number that is open is among its numbers.
pub record WellScanned (s : Scanned) : Type 0 where
  pub placed : places_in s.text ≡ length s.numbers
  pub narrow : get_or s.numbers (length s.numbers - 1) 0 < 10 ^ s.width
  pub some : s.in_number ≡ true → 0 < length s.numbers
