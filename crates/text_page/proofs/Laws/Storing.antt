-- Bytes stored over bytes that were stored before.
use mathlib.Core.Path.{◌≡◌, refl, ap, ◌∙◌}
use mathlib.Core.List.{List, [], ◌∷◌, ◌++◌, append-nil}
use Prim.Native.Nat.{ℕ, zero, suc, ◌+◌, ◌≤◌, ◌<◌}
use native.Mathlib.Omega.{arith}
use lib.ListN.{length, set, length-set, drop_of_length-le}
use lib.Seq.{sets, sets-eq, set-set, set_comm}

-- A store before the others may as well be made first.
store-first : (xs l : List ℕ) (j i b : ℕ) → i < j → set (sets l j xs) i b ≡ sets (set l i b) j xs
store-first [] l j i b h = refl
store-first (x ∷ xs) l j i b h =
    store-first xs (set l j x) (suc j) i b (omega arith)
    ∙ ap (λ (m : List ℕ). sets m (suc j) xs) (set_comm l j i x b (λ e. absurd (omega arith)))

store-inside : (xs l : List ℕ) (at i b : ℕ) → i < length xs → set (sets l at xs) (at + i) b ≡ sets l at (set xs i b)
store-inside [] l at i b h = absurd (omega arith)
store-inside (x ∷ xs) l at zero b h =
    let e : at + 0 ≡ at = omega arith in
    rw e
    (store-first xs (set l at x) (suc at) at b (omega arith)
    ∙ ap (λ (m : List ℕ). sets m (suc at) xs) (set-set l at x b))
store-inside (x ∷ xs) l at (suc i) b h =
    let e : at + suc i ≡ suc at + i = omega arith in
    rw e (store-inside xs (set l at x) (suc at) i b (omega arith))

-- Bytes stored inside those stored before.
pub stored-inside : (ys xs l : List ℕ) (at i : ℕ) → i + length ys ≤ length xs
    → sets (sets l at xs) (at + i) ys ≡ sets l at (sets xs i ys)
stored-inside [] xs l at i h = refl
stored-inside (y ∷ ys) xs l at i h =
    let e : suc (at + i) ≡ at + suc i = omega arith in
    rw (store-inside xs l at i y (omega arith), e)
    (stored-inside ys (set xs i y) l at (suc i) (rw (length-set xs i y) (omega arith)))

-- Bytes stored over all of them.
pub stored-whole : (xs l : List ℕ) → length xs ≡ length l → sets l 0 xs ≡ xs
stored-whole xs l same =
    sets-eq xs l 0 (omega arith) ∙ ap (◌++◌ xs) (drop_of_length-le l {i = 0 + length xs} (omega arith)) ∙ append-nil xs

pub stored-over : (ys xs l : List ℕ) (at : ℕ) → length ys ≡ length xs → sets (sets l at xs) at ys ≡ sets l at ys
stored-over ys xs l at same =
    let e : at ≡ at + 0 = omega arith in
    ap (λ (i : ℕ). sets (sets l at xs) i ys) e
    ∙ stored-inside ys xs l at 0 (omega arith)
    ∙ ap (sets l at) (stored-whole ys xs same)
