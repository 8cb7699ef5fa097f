-- Words or bytes stored one after another; the crates above share it.
use mathlib.Core.Path.{◌≡◌, sym, ◌∙◌}
use mathlib.Core.List.{List, [], ◌∷◌, ◌++◌}
use Prim.Native.Nat.{ℕ, suc, ◌+◌, ◌≤◌, ◌<◌}
use native.Mathlib.Omega.{arith}
use lib.ListN.{length, get_or, set, take, drop, drop_of_length-le}
use lib.Seq.{sets, drop-cons, take_all, take-suc, take-suc-set}

-- Two runs of stores, one after the other.
pub sets-append : (xs ys l : List ℕ) (i : ℕ) → sets (sets l i xs) (i + length xs) ys ≡ sets l i (xs ++ ys)
sets-append [] ys l i =
    let e : i + 0 ≡ i = omega arith in
    rw e
sets-append (x ∷ xs) ys l i =
    let e : i + suc (length xs) ≡ suc i + length xs = omega arith in
    rw e (sets-append xs ys (set l i x) (suc i))

-- The first of the elements that are still to be stored.
pub sets-next : (l xs : List ℕ) (at i : ℕ) → i < length xs
    → sets (set l (at + i) (get_or xs i 0)) (at + suc i) (drop (suc i) xs) ≡ sets l (at + i) (drop i xs)
sets-next l xs at i h =
    let e : at + suc i ≡ suc (at + i) = omega arith in
    rw (e, drop-cons xs i 0 h)

-- None is left.
pub sets_end : (l xs : List ℕ) (at i : ℕ) → length xs ≤ i → sets l at (drop i xs) ≡ l
sets_end l xs at i h = rw (drop_of_length-le xs {i = i} h)

-- ---- An array, made from its first element on.
pub filled_next : (made wanted : List ℕ) (i v : ℕ) → i < length made → i < length wanted → v ≡ get_or wanted i 0
    → take i made ≡ take i wanted → take (suc i) (set made i v) ≡ take (suc i) wanted
filled_next made wanted i v h k e so_far = rw (take-suc-set made i v h, take-suc wanted i 0 k, e, so_far)

pub filled-end : (made wanted : List ℕ) (i : ℕ) → length made ≤ i → length wanted ≤ i
    → take i made ≡ take i wanted → made ≡ wanted
filled-end made wanted i h k e = sym (take_all i made h) ∙ e ∙ take_all i wanted k
