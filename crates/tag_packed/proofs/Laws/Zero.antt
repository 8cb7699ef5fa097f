-- Bytes tested one by one for one that is not 0: their number is then not 0.
use Rattle.std.proofs.Common.{◌≡◌, ℕ, zero, suc, ◌+◌, ◌*◌, ◌/◌, ◌%◌, not, ◌||◌, leb, eqb, List, [], ◌∷◌, refl, ◌∙◌, sym, arith, le-leb, ne_eqb}
use mathlib.Core.Bool.{or-false, or_assoc}
use Rattle.std.specs.List.{list_any}
use Rattle.tag.specs.Tags.{number_from}
use Rattle.tag_packed.specs.Packed.{halves}

byte_more : (n b : ℕ) → leb 1 n || not (eqb b 0) ≡ leb 1 ((n * 10 + b / 16) * 10 + b % 16)
byte_more zero zero = refl
byte_more zero (suc b) =
    rw (
      ne_eqb (suc b) 0 (omega arith),
      le-leb 1 ((0 * 10 + suc b / 16) * 10 + suc b % 16) (omega arith),
    )
byte_more (suc n) b =
    rw (le-leb 1 (suc n) (omega arith), le-leb 1 ((suc n * 10 + b / 16) * 10 + b % 16) (omega arith))

-- Where the number that stands before is not 0, or a byte is not.
pub some_number : (bytes : List ℕ) (n : ℕ)
    → (leb 1 n || list_any (λ b. not (eqb b 0)) bytes) ≡ leb 1 (number_from n (halves bytes))
unfolding number_from halves
some_number [] n = or-false (leb 1 n)
some_number (b ∷ bs) n =
    sym (or_assoc (leb 1 n) (not (eqb b 0)) (list_any (λ b. not (eqb b 0)) bs))
    ∙ rw (byte_more n b) (some_number bs ((n * 10 + b / 16) * 10 + b % 16))
