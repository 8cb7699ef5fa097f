-- One tag, as five bytes and as two words.
use mathlib.Core.Path.{◌≡◌, refl}
use mathlib.Core.Bool.{true}
use mathlib.Core.List.{List, [], ◌∷◌}
use Prim.Native.Nat.{ℕ, ◌+◌, ◌*◌, ◌≤◌}
use native.Mathlib.Nat.{add-zero}
use native.Mathlib.Omega.{arith}
use lib.Dec.{leb}
use lib.ListN.{length, get_or, take, drop}
use borrow.Author.Tests.{le-leb, leb-true}
use Rattle.tag.specs.Tags.{largest_tag, tag_of, ten_digits, are_digits}
use Rattle.tag.proofs.TagLaws.{clash, both_true}
use Rattle.tag.proofs.DigitLaws.{
  length_last,
  last-are-digits,
  number-of-digits,
  digits-of-number,
  number-at-most,
}
use Rattle.tag_packed.specs.Packed.{halves, tag_bytes, is_packed, packed_number, unpacked, packed}
use Rattle.tag_packed.proofs.Laws.Filling.{part_at}
use Rattle.tag_packed.proofs.Laws.Halves.{length-halves, length_pairs, halves-of-pairs}

-- ---- Five bytes of a tag are ten digits of a number from 1 to the largest tag.
ten-halves : (p : List ℕ) → length p ≡ 5 → length (halves p) ≡ 10
ten-halves p l = omega (arith, length-halves p)

pub packed-are-digits : (p : List ℕ) → is_packed p ≡ true → are_digits (halves p) ≡ true
packed-are-digits p h = (both_true (are_digits (halves p)) (leb 1 (packed_number p)) h).0

pub packed-digits : (p : List ℕ) → length p ≡ 5 → is_packed p ≡ true → ten_digits (packed_number p) ≡ halves p
packed-digits p l h = digits-of-number (halves p) (ten-halves p l) (packed-are-digits p h)

pub packed-range : (p : List ℕ) → length p ≡ 5 → is_packed p ≡ true
    → (1 ≤ packed_number p) × (packed_number p ≤ largest_tag)
packed-range p l h =
    let q = both_true (are_digits (halves p)) (leb 1 (packed_number p)) h in
    (leb-true 1 (packed_number p) q.1, number-at-most (halves p) (ten-halves p l) q.0)

-- ---- The bytes of a number have its digits, and those of a tag are a tag.
bytes-digits : (tag : ℕ) → halves (tag_bytes tag) ≡ ten_digits tag
bytes-digits tag = halves-of-pairs 5 (ten_digits tag) (length_last 10 tag) (last-are-digits 10 tag)

pub bytes-number : (tag : ℕ) → tag ≤ largest_tag → packed_number (tag_bytes tag) ≡ tag
bytes-number tag h = rw (bytes-digits tag) (number-of-digits tag h)

pub bytes_good : (tag : ℕ) → 1 ≤ tag → tag ≤ largest_tag → is_packed (tag_bytes tag) ≡ true
bytes_good tag h k = rw (bytes-number tag k, bytes-digits tag, last-are-digits 10 tag) (le-leb 1 tag h)

-- ---- Two words.
pub two-words : (two : List ℕ) → length two ≡ 2 → get_or two 0 0 ∷ get_or two 1 0 ∷ [] ≡ two
two-words [] e = clash (omega arith)
two-words (d ∷ []) e = clash (omega arith)
two-words (d ∷ l ∷ []) e = refl
two-words (d ∷ l ∷ w ∷ ws) e = clash (omega arith)

-- The two words at a place.
pub words-at : {T : Type 0} (f : ℕ → ℕ → T) (words : List ℕ) (i : ℕ)
    → f (get_or words (2 * i) 0) (get_or words (2 * i + 1) 0)
    ≡ f (get_or (take 2 (drop (2 * i) words)) 0 0) (get_or (take 2 (drop (2 * i) words)) 1 0)
words-at f words i =
    let first = rw (add-zero (2 * i)) at (part_at words (2 * i) 2 0 (omega arith)) in
    rw (first, part_at words (2 * i) 2 1 (omega arith))

-- ---- What is put out has its room.
pub length-unpacked : (five : List ℕ) → length (unpacked five) ≡ 2
length-unpacked five = refl

pub length-packed : (two : List ℕ) → length (packed two) ≡ 5
length-packed two = length_pairs 5 (ten_digits (tag_of (get_or two 0 0) (get_or two 1 0)))
