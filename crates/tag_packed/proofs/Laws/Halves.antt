-- Bytes and their halves: each gives back the other.
use mathlib.Core.Path.{◌≡◌, refl, ap, ◌∙◌}
use mathlib.Core.Bool.{true, ◌&&◌}
use mathlib.Core.List.{List, [], ◌∷◌}
use Prim.Native.Nat.{ℕ, zero, suc, ◌+◌, ◌*◌, ◌/◌, ◌%◌, ◌<◌}
use native.Mathlib.Omega.{arith}
use lib.Dec.{leb}
use lib.ListN.{length, get_or, set, take, drop}
use lib.Seq.{get_or-drop}
use borrow.Author.Tests.{leb-true}
use Rattle.tag.specs.Tags.{are_digits}
use Rattle.tag.proofs.TagLaws.{clash, both_true}
use Rattle.tag_packed.specs.Packed.{halves, pairs}
use Rattle.tag.proofs.Twofold.{twofold, length-twofold, twofold-next}

-- ---- Lengths.

halves-twofold : (bytes : List ℕ) → halves bytes ≡ twofold (λ b. b / 16) (λ b. b % 16) bytes
unfolding halves twofold
halves-twofold [] = refl
halves-twofold (b ∷ bs) = rw (halves-twofold bs)

pub length-halves : (bytes : List ℕ) → length (halves bytes) ≡ 2 * length bytes
length-halves bytes = rw (halves-twofold bytes) (length-twofold (λ b. b / 16) (λ b. b % 16) bytes)

pub length_pairs : (n : ℕ) (digits : List ℕ) → length (pairs n digits) ≡ n
unfolding pairs
length_pairs zero ds = refl
length_pairs (suc n) ds = ap suc (length_pairs n (drop 2 ds))

-- ---- What is made, and what stands at a place.

-- The halves of one byte more.
pub halves-next : (made bytes : List ℕ) (i : ℕ) → i < length bytes → length made ≡ 2 * length bytes
    → take (2 * i) made ≡ take (2 * i) (halves bytes)
    → take (2 * suc i) (set (set made (2 * i) (get_or bytes i 0 / 16)) (2 * i + 1) (get_or bytes i 0 % 16))
    ≡ take (2 * suc i) (halves bytes)
halves-next made bytes i h long so_far =
    rw (halves-twofold bytes)
    (twofold-next (λ b. b / 16) (λ b. b % 16) made bytes i (get_or bytes i 0 / 16) (get_or bytes i 0 % 16) h long refl refl
    (rw (halves-twofold bytes) at so_far))

pub pair-at : (n : ℕ) (digits : List ℕ) (i : ℕ) → i < n
    → get_or (pairs n digits) i 0 ≡ get_or digits (2 * i) 0 * 16 + get_or digits (2 * i + 1) 0
unfolding pairs
pair-at zero ds i h = clash (omega arith)
pair-at (suc n) ds zero h = refl
pair-at (suc n) ds (suc i) h =
    let high : 2 * suc i ≡ 2 + 2 * i = omega arith in
    let low : 2 * suc i + 1 ≡ 2 + (2 * i + 1) = omega arith in
    pair-at n (drop 2 ds) i (omega arith)
    ∙ rw (low, high, get_or-drop 2 ds (2 * i) 0, get_or-drop 2 ds (2 * i + 1) 0)

-- ---- Halves and pairs undo each other.

pub pairs-of-halves : (n : ℕ) (bytes : List ℕ) → length bytes ≡ n → pairs n (halves bytes) ≡ bytes
unfolding halves pairs
pairs-of-halves zero [] h = refl
pairs-of-halves zero (b ∷ bs) h = clash (omega arith)
pairs-of-halves (suc n) [] h = clash (omega arith)
pairs-of-halves (suc n) (b ∷ bs) h =
    let e : b / 16 * 16 + b % 16 ≡ b = omega arith in
    rw (e, pairs-of-halves n bs (omega arith))

pub halves-of-pairs : (n : ℕ) (digits : List ℕ) → length digits ≡ 2 * n → are_digits digits ≡ true
    → halves (pairs n digits) ≡ digits
unfolding halves pairs are_digits
halves-of-pairs zero [] l h = refl
halves-of-pairs zero (x ∷ xs) l h = clash (omega arith)
halves-of-pairs (suc n) [] l h = clash (omega arith)
halves-of-pairs (suc n) (x ∷ []) l h = clash (omega arith)
halves-of-pairs (suc n) (x ∷ y ∷ ds) l h =
    let p = both_true (leb x 9) (leb y 9 && are_digits ds) h in
    let q = both_true (leb y 9) (are_digits ds) p.1 in
    let small = leb-true y 9 q.0 in
    let high : (x * 16 + y) / 16 ≡ x = omega arith in
    let low : (x * 16 + y) % 16 ≡ y = omega arith in
    rw (high, low, halves-of-pairs n ds (omega arith) q.1)
