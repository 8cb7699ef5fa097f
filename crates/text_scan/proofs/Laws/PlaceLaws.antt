-- Every line has one number for each 0 in its text, and a number has no more digits than it is wide.
use mathlib.Core.Bool.{Bool, true, false, cond, false≢true}
use mathlib.Core.List.{List, [], ◌∷◌, ◌++◌}
use mathlib.Core.Path.{◌≡◌, refl}
use Prim.Native.Nat.{ℕ, suc, ◌+◌, ◌-◌, ◌<◌, ◌≤◌}
use native.Mathlib.Nat.{pow-suc}
use native.Mathlib.Numerals.{add-one}
use native.Mathlib.Omega.{arith}
use borrow.Author.Tests.{leb-true}
use lib.Dec.{leb}
use lib.ListN.{length, length-append, length-set}
use lib.Seq.{get_or-set_same, get_or-append_seam}
use Rattle.tag.proofs.TagLaws.{both_true}
use Rattle.text_scan.specs.Scanned.{
  Scanned,
  nothing,
  opened,
  extended,
  appended,
  zero_digit,
  is_digit,
  with_digit,
  scan_byte,
  scan_bytes,
  places_in,
  WellScanned,
}

-- ---- The bytes that are digits.
pub digit-range : (b : ℕ) → is_digit b ≡ true → (48 ≤ b) × (b ≤ 57)
digit-range b e =
    let both = both_true (leb 48 b) (leb b 57) e in
    (leb-true 48 b both.0, leb-true b 57 both.1)

pub digit-small : (b : ℕ) → is_digit b ≡ true → b - zero_digit < 10
digit-small b e = let range = digit-range b e in omega arith

-- ---- One byte is of the kind that its value says.
module _ (σ : Scanned) (b : ℕ) where
  pub other_byte : is_digit b ≡ false → scan_byte σ b ≡ appended σ b
  unfolding scan_byte
  other_byte h = rw h

  pub further-digit : is_digit b ≡ true → σ.in_number ≡ true → scan_byte σ b ≡ extended σ (b - zero_digit)
  unfolding scan_byte
  further-digit h e = rw (h, e)

  pub first-digit : is_digit b ≡ true → σ.in_number ≡ false → scan_byte σ b ≡ opened σ (b - zero_digit)
  unfolding scan_byte
  first-digit h e = rw (h, e)

-- ---- The places of a text with a byte more.
places-more : (l : List ℕ) (b : ℕ) → places_in (l ++ (b ∷ [])) ≡ places_in (b ∷ []) + places_in l
unfolding places_in
places-more [] b = omega arith
places-more (x ∷ l) b = rw (places-more l b) (go (is_digit x))
  where
    go : (digit : Bool) → cond digit (suc (places_in (b ∷ []) + places_in l)) (places_in (b ∷ []) + places_in l)
        ≡ places_in (b ∷ []) + cond digit (suc (places_in l)) (places_in l)
    go true = omega arith
    go false = refl

-- ---- At first, and after one byte more of each kind.
pub nothing-well : WellScanned nothing
unfolding places_in
nothing-well = record { placed = refl; narrow = omega arith; some = λ e. absurd (false≢true e) }

module _ {σ : Scanned} (W : WellScanned σ) where
  pub appended-well : (b : ℕ) → is_digit b ≡ false → WellScanned (appended σ b)
  unfolding places_in
  appended-well b h =
      record {
        placed = rw (places-more σ.text b, h) (omega (arith, W.placed));
        narrow = W.narrow;
        some = λ e.
            absurd (false≢true e);
      }

  pub opened-well : (d : ℕ) → d < 10 → WellScanned (opened σ d)
  unfolding places_in
  opened-well d h =
      let e : length (σ.numbers ++ (d ∷ [])) - 1 ≡ length σ.numbers = simp length-append (omega arith) in
      record {
        placed = simp (places-more σ.text zero_digit, length-append) (omega (arith, W.placed));
        narrow = rw (e, get_or-append_seam σ.numbers d [] 0) (omega arith);
        some = λ _. simp length-append (omega arith);
      }

  pub extended-well : (d : ℕ) → d < 10 → σ.in_number ≡ true → WellScanned (extended σ d)
  extended-well d h e =
      let last = length σ.numbers - 1 in
      let v = with_digit σ.numbers last d in
      let some = W.some e in
      let within : last < length σ.numbers = omega arith in
      record {
        placed = rw (length-set σ.numbers last v) W.placed;
        narrow =
            rw (length-set σ.numbers last v, get_or-set_same σ.numbers last v 0 within, add-one σ.width)
            (omega (arith, W.narrow, pow-suc 10 σ.width));
        some = λ _. rw (length-set σ.numbers last v) some;
      }

byte-well : {σ : Scanned} → WellScanned σ → (b : ℕ) → WellScanned (scan_byte σ b)
byte-well {σ} W b = go (is_digit b) σ.in_number refl refl
  where
    go : (digit within : Bool) → is_digit b ≡ digit → σ.in_number ≡ within → WellScanned (scan_byte σ b)
    go true true e f = rw (further-digit σ b e f) (extended-well W (b - zero_digit) (digit-small b e) f)
    go true false e f = rw (first-digit σ b e f) (opened-well W (b - zero_digit) (digit-small b e))
    go false within e f = rw (other_byte σ b e) (appended-well W b e)

-- ---- So of every line.
bytes-well : {σ : Scanned} → WellScanned σ → (bytes : List ℕ) → WellScanned (scan_bytes σ bytes)
unfolding scan_bytes
bytes-well W [] = W
bytes-well {σ} W (b ∷ bs) = bytes-well {σ = scan_byte σ b} (byte-well W b) bs

pub line-well : (line : List ℕ) → WellScanned (scan_bytes nothing line)
line-well line = bytes-well nothing-well line
