-- A tag and its two words: each gives back the other.
use mathlib.Core.Path.{◌≡◌, refl}
use mathlib.Core.Bool.{Bool, true, false, ◌&&◌}
use mathlib.Core.List.{List, [], ◌∷◌, ◌++◌}
use Prim.Native.Nat.{ℕ, ◌*◌, ◌≤◌, ◌<◌}
use lib.Dec.{leb}
use lib.ListN.{length}
use native.Mathlib.Omega.{arith}
use borrow.Author.Tests.{leb-true, le-leb}
use Rattle.tag.specs.Tags.{billion, largest_tag, tag_of, digit_of, low_of, is_tag, all_tag_words, tags_in}

pub clash : {T : Type 0} → ◌≡◌ {A = ℕ} 0 1 → T
clash h = absurd (omega arith)

pub both_true : (a b : Bool) → a && b ≡ true → (a ≡ true) × (b ≡ true)
both_true true true h = (refl, refl)
both_true true false h = clash (cc)
both_true false b h = clash (cc)

-- ---- The words of a tag.
pub tag-of-words : (n : ℕ) → tag_of (digit_of n) (low_of n) ≡ n
tag-of-words n = omega arith

pub low_small : (n : ℕ) → low_of n < billion
low_small n = omega arith

pub digit-of-tag : (d l : ℕ) → l < billion → digit_of (tag_of d l) ≡ d
digit-of-tag d l h = omega arith

pub low-of-tag : (d l : ℕ) → l < billion → low_of (tag_of d l) ≡ l
low-of-tag d l h = omega arith

-- ---- Words that are a tag.
pub record TagRange (digit low : ℕ) : Type 0 where
  pub digit-small : digit ≤ 9
  pub low_small : low < billion
  pub not-zero : 1 ≤ tag_of digit low
  pub at_most : tag_of digit low ≤ largest_tag

pub tag-range : (d l : ℕ) → is_tag d l ≡ true → TagRange d l
tag-range d l h =
    let p = both_true (leb d 9 && leb l 999_999_999) (leb 1 (tag_of d l)) h in
    let q = both_true (leb d 9) (leb l 999_999_999) p.0 in
    let a = leb-true d 9 q.0 in
    let b = leb-true l 999_999_999 q.1 in
    record {
      digit-small = a;
      low_small = omega arith;
      not-zero = leb-true 1 (tag_of d l) p.1;
      at_most = omega arith;
    }

pub is-tag : (d l : ℕ) → d ≤ 9 → l < billion → 1 ≤ tag_of d l → is_tag d l ≡ true
is-tag d l h k m = rw (le-leb d 9 h, le-leb l 999_999_999 (omega arith), le-leb 1 (tag_of d l) m)

-- A number from 1 to the largest tag is a tag.
pub number-is-tag : (n : ℕ) → 1 ≤ n → n ≤ largest_tag → is_tag (digit_of n) (low_of n) ≡ true
number-is-tag n h k = is-tag (digit_of n) (low_of n) (omega arith) (low_small n) (rw (tag-of-words n) h)

-- ---- The words of several tags.
pub length-tag-words : (ns : List ℕ) → length (all_tag_words ns) ≡ 2 * length ns
unfolding all_tag_words
length-tag-words [] = refl
length-tag-words (n ∷ ns) = let rest = length-tag-words ns in omega arith

pub tags-in-words : (ns rest : List ℕ) → tags_in (length ns) (all_tag_words ns ++ rest) ≡ ns
unfolding all_tag_words tags_in
tags-in-words [] rest = refl
tags-in-words (n ∷ ns) rest = λ i. tag-of-words n i ∷ tags-in-words ns rest i
