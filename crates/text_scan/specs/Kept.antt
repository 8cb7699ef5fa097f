-- What the code keeps of a line in constant memory, byte by byte, and what that stands for.
use Rattle.std.specs.Prelude.{Bool, true, false, cond, List, [], ◌∷◌, ◌≡◌, ℕ, ◌+◌, ◌-◌, ◌≤◌, ◌<◌, min, ltb, length, get_or, take, drop, set, replicate}
use Rattle.tag.specs.Tags.{largest_tag}
use Rattle.text.specs.Lines.{first_line}
use Rattle.text_scan.specs.Scanned.{Scanned, zero_digit, is_digit, with_digit, WellScanned}

-- places for the first bytes of a text: one more than the longest form has
abbrev pub text_places : ℕ
text_places = 39

-- places for numbers: one more than any form has
abbrev pub number_places : ℕ
number_places = 4

-- a number above the largest tag is kept as the largest tag: it is unread all the same, as a tag by its width and as
-- any other number by its value
abbrev pub kept_number : ℕ → ℕ
kept_number n = min largest_tag n

-- digits of the last number that are counted: one more than a tag has
abbrev pub counted_digits : ℕ
counted_digits = 11

-- how far a scan is: the bytes of text kept, the numbers counted up to 4, the digits of the last one counted up to 11,
-- and whether the last byte was a digit
pub record Scan : Type 0 where
  pub length : ℕ
  pub count : ℕ
  pub width : ℕ
  pub in_number : Bool

-- the two arrays and the scan
pub record Kept : Type 0 where
  pub text : List ℕ
  pub numbers : List ℕ
  pub scan : Scan

abbrev pub kept_of : (text numbers : List ℕ) → Scan → Kept
kept_of text numbers scan = record { text = text; numbers = numbers; scan = scan }

-- ---- Every word that is kept, by the bytes scanned.

abbrev pub no_numbers : List ℕ
no_numbers = replicate number_places 0

-- the scan of a line of which nothing is scanned
abbrev pub no_scan : Scan
no_scan = record { length = 0; count = 0; width = 0; in_number = false }

-- an array of the text in which nothing stands yet
abbrev pub no_text : List ℕ
no_text = replicate text_places 0

-- at first, whatever stands in the array of the text
abbrev pub kept_at_first : (text : List ℕ) → Kept
kept_at_first text = kept_of text no_numbers no_scan

-- a byte put after the first n of the text, if there is a place left
abbrev pub text_with : (text : List ℕ) (n b : ℕ) → List ℕ
text_with text n b = cond (ltb n text_places) (set text n b) text

-- A byte that is no digit is put after the text so far.
abbrev pub keep_other : Kept → ℕ → Kept
keep_other k b =
    let s = k.scan in
    kept_of (text_with k.text s.length b) k.numbers
    (record { length = min text_places (s.length + 1); count = s.count; width = s.width; in_number = false })

-- A digit of value d opens a number. From the fourth number on they share the last place.
abbrev pub keep_opened : Kept → ℕ → Kept
keep_opened k d =
    let s = k.scan in
    let count = min number_places (s.count + 1) in
    kept_of (text_with k.text s.length zero_digit) (set k.numbers (count - 1) d)
    (record { length = min text_places (s.length + 1); count = count; width = 1; in_number = true })

-- A further digit of value d of the number that is open.
abbrev pub keep_extended : Kept → ℕ → Kept
keep_extended k d =
    let s = k.scan in
    let place = s.count - 1 in
    kept_of k.text (set k.numbers place (kept_number (with_digit k.numbers place d)))
    (record { length = s.length; count = s.count; width = min counted_digits (s.width + 1); in_number = true })

unfoldable pub keep_byte : Kept → ℕ → Kept
keep_byte k b =
    cond (is_digit b)
    (cond k.scan.in_number (keep_extended k (b - zero_digit)) (keep_opened k (b - zero_digit)))
    (keep_other k b)

unfoldable pub keep_bytes : Kept → List ℕ → Kept
keep_bytes k [] = k
keep_bytes k (b ∷ bs) = keep_bytes (keep_byte k b) bs

-- The chunk is scanned from a place up to the next line feed or its end.
pub record ScansLine (chunk : List ℕ) (from : ℕ) (before after : Kept) (at : ℕ) : Type 0 where
  pub stops : at ≡ from + length (first_line (drop from chunk))
  pub keeps : after ≡ keep_bytes before (first_line (drop from chunk))

-- ---- What holds of it at all times.

-- the counts of a scan are within the two arrays, and a number that is open is counted
pub record Counts (s : Scan) : Type 0 where
  pub short : s.length ≤ text_places
  pub few : s.count ≤ number_places
  pub some : s.in_number ≡ true → 0 < s.count

-- no number kept is above the largest tag
abbrev pub UpToTag : List ℕ → Type 0
UpToTag numbers = (i : ℕ) → get_or numbers i 0 ≤ largest_tag

pub record ScanKept (k : Kept) : Type 0 where
  pub text-places : length k.text ≡ text_places
  pub number-places : length k.numbers ≡ number_places
  pub up_to_tag : UpToTag k.numbers
  pub counts : Counts k.scan

-- It stands for what was scanned: the first bytes of its text; how many numbers it has, up to 4, and how many digits
-- the last of them is wide, up to 11; the first three numbers, 0 where there are fewer, and the last at the last place
-- used.
pub record Represents (k : Kept) (σ : Scanned) : Type 0 where
  pub text_kept : take k.scan.length k.text ≡ take text_places σ.text
  pub number_count : k.scan.count ≡ min number_places (length σ.numbers)
  pub width_kept : k.scan.width ≡ min counted_digits σ.width
  pub in-number : k.scan.in_number ≡ σ.in_number
  pub first : (i : ℕ) → i < 3 → get_or k.numbers i 0 ≡ kept_number (get_or σ.numbers i 0)
  pub last : 0 < k.scan.count
      → get_or k.numbers (k.scan.count - 1) 0 ≡ kept_number (get_or σ.numbers (length σ.numbers - 1) 0)
  pub well_scanned : WellScanned σ
