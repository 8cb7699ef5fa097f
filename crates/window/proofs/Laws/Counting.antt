-- Words in a list: tested against a bound and added, one after another.
use Rattle.std.proofs.Common.{◌≡◌, ℕ, zero, suc, ◌+◌, ◌%◌, ◌^◌, ◌<◌, ◌≤◌, true, ◌&&◌, eqb, leb, List, [], ◌∷◌, ◌++◌, length, get_or, drop, set, refl, sym, ◌∙◌, arith, drop_of_length-le, drop-cons, eq-eqb, eqb-true, le-leb, leb-true}
use mathlib.Core.Bool.{and-true, and_assoc}
use lib.Bits.{bit_or, or_lt, or_add_and, and_le_l, and_le_r}
use Rattle.std.specs.List.{fold}
use Rattle.window.specs.Window.{at_most, total}
use Rattle.window.proofs.Laws.Tests.{clash, and_left, and_right, both_hold, same_test}

-- ---- The test.

-- Two words gathered are at most m exactly if each is, where m + 1 is a power of 2.
gathered : (k m a b : ℕ) → m + 1 ≡ 2 ^ k → leb (bit_or a b) m ≡ (leb a m && leb b m)
gathered k m a b power =
    same_test (leb (bit_or a b) m) (leb a m && leb b m)
    (λ t.
    let o = leb-true (bit_or a b) m t in
    both_hold (le-leb a m (omega (arith, or_add_and a b, and_le_r a b)))
    (le-leb b m (omega (arith, or_add_and a b, and_le_l a b))))
    (λ t.
    let p = leb-true a m (and_left (leb a m) (leb b m) t) in
    let q = leb-true b m (and_right (leb a m) (leb b m) t) in
    let r : bit_or a b < 2 ^ k = or_lt k a b (omega arith) (omega arith) in
    le-leb (bit_or a b) m (omega arith))

-- All are gathered.
pub gathered-all : (k m : ℕ) (words : List ℕ) (g : ℕ) → m + 1 ≡ 2 ^ k
    → leb (fold bit_or g words) m ≡ (leb g m && at_most m words)
unfolding at_most
gathered-all k m [] g power = sym (and-true (leb g m))
gathered-all k m (w ∷ words) g power =
    gathered-all k m words (bit_or g w) power
    ∙ rw (gathered k m g w power) (and_assoc (leb g m) (leb w m) (at_most m words))

-- The words from i on: one is gathered, and after the last the gathered word decides.
module _ (m : ℕ) (words : List ℕ) (i : ℕ) where
  pub test-passed : (k g : ℕ) → m + 1 ≡ 2 ^ k → i < length words
      → (leb (bit_or g (get_or words i 0)) m && at_most m (drop (suc i) words)) ≡ (leb g m && at_most m (drop i words))
  unfolding at_most
  test-passed k g power h =
      rw (drop-cons words i 0 h, gathered k m g (get_or words i 0) power)
      (and_assoc (leb g m) (leb (get_or words i 0) m) (at_most m (drop (suc i) words)))

  pub test-done : (g : ℕ) → length words ≤ i → (leb g m && at_most m (drop i words)) ≡ leb g m
  unfolding at_most
  test-done g h = rw (drop_of_length-le words h) (and-true (leb g m))

-- At most 0 is 0.
pub is_zero : (n : ℕ) → eqb n 0 ≡ leb n 0
is_zero n =
    same_test (eqb n 0) (leb n 0) (λ t. le-leb n 0 (omega (arith, eqb-true n 0 t)))
    (λ t. eq-eqb n 0 (omega (arith, leb-true n 0 t)))

pub at-most-all : (m : ℕ) (l : List ℕ) → ((i : ℕ) → i < length l → get_or l i 0 ≤ m) → at_most m l ≡ true
unfolding at_most
at-most-all m [] f = refl
at-most-all m (w ∷ l) f = both_hold (le-leb w m (f 0 (omega arith))) (at-most-all m l (λ i h. f (suc i) (omega arith)))

pub at-most-at : (m : ℕ) (l : List ℕ) → at_most m l ≡ true → (i : ℕ) → get_or l i 0 ≤ m
unfolding at_most
at-most-at m [] t i = omega arith
at-most-at m (w ∷ l) t zero = leb-true w m (and_left (leb w m) (at_most m l) t)
at-most-at m (w ∷ l) t (suc i) = at-most-at m l (and_right (leb w m) (at_most m l) t) i

-- ---- The sum.
pub total-append : (l r : List ℕ) → total (l ++ r) ≡ total l + total r
unfolding total
total-append [] r = omega arith
total-append (w ∷ l) r = omega (arith, total-append l r)

pub zero-total : (l : List ℕ) → at_most 0 l ≡ true → total l ≡ 0
unfolding at_most total
zero-total [] t = refl
zero-total (w ∷ l) t =
    omega (arith, leb-true w 0 (and_left (leb w 0) (at_most 0 l) t), zero-total l (and_right (leb w 0) (at_most 0 l) t))

pub total-few : (l : List ℕ) → at_most 1 l ≡ true → total l ≤ length l
unfolding at_most total
total-few [] t = omega arith
total-few (w ∷ l) t =
    omega (arith, leb-true w 1 (and_left (leb w 1) (at_most 1 l) t), total-few l (and_right (leb w 1) (at_most 1 l) t))

-- The words from i on: one is added, and it does not wrap where the whole sum is small; after the last the sum is all.
module _ (words : List ℕ) (i n : ℕ) where
  pub sum-passed : total words < 2 ^ 32 → i < length words → n + total (drop i words) ≡ total words
      → (n + get_or words i 0) % 2 ^ 32 + total (drop (suc i) words) ≡ total words
  unfolding total
  sum-passed small h so_far =
      let split = rw (drop-cons words i 0 h) at so_far in
      omega arith

  pub sum_done : length words ≤ i → n + total (drop i words) ≡ n
  unfolding total
  sum_done h = rw (drop_of_length-le words h) (omega arith)

-- One word set: the sum without what stood there, with what stands there now.
pub total-set : (l : List ℕ) (i v : ℕ) → i < length l → total (set l i v) + get_or l i 0 ≡ total l + v
unfolding total
total-set [] i v h = clash (omega arith)
total-set (w ∷ l) zero v h = omega arith
total-set (w ∷ l) (suc i) v h = omega (arith, total-set l i v (omega arith))

-- A word is no more than the sum.
pub at-total : (l : List ℕ) (i : ℕ) → get_or l i 0 ≤ total l
unfolding total
at-total [] i = omega arith
at-total (w ∷ l) zero = omega arith
at-total (w ∷ l) (suc i) = omega (arith, at-total l i)
