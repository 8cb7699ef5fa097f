-- The line that stands first: where it ends, and its bytes, with and without the line feed.
use mathlib.Core.Bool.{Bool, true, false, not}
use mathlib.Core.List.{List, [], ◌∷◌, ◌++◌}
use mathlib.Core.Path.{◌≡◌, refl, ap}
use Prim.Native.Nat.{ℕ, suc, ◌+◌, ◌<◌, ◌≤◌}
use native.Mathlib.Numerals.{add-one}
use native.Mathlib.Omega.{arith}
use borrow.Author.Tests.{eq-eqb, ne_eqb, eqb-true}
use lib.Dec.{eqb}
use lib.ListN.{length, get_or, take, drop, drop_of_length-le, length-drop}
use lib.Seq.{drop-cons}
use Rattle.tag.proofs.TagLaws.{clash, both_true}
use Rattle.text.specs.Lines.{line_feed, first_line, one_line}

-- ---- Where the line ends.
module _ (chunk : List ℕ) (i : ℕ) where
  pub line-goes-on : i < length chunk → (get_or chunk i 0 ≡ line_feed → ⊥)
      → first_line (drop i chunk) ≡ get_or chunk i 0 ∷ first_line (drop (i + 1) chunk)
  unfolding first_line
  line-goes-on h e = rw (add-one, drop-cons chunk i 0 h, ne_eqb _ _ e)

  pub line-fed : i < length chunk → get_or chunk i 0 ≡ line_feed → first_line (drop i chunk) ≡ []
  unfolding first_line
  line-fed h e = rw (drop-cons chunk i 0 h, eq-eqb _ _ e)

  pub chunk-ends : length chunk ≤ i → first_line (drop i chunk) ≡ []
  unfolding first_line
  chunk-ends h = rw (drop_of_length-le chunk {i = i} h)

-- A line ends within its chunk.
first-line-short : (bytes : List ℕ) → length (first_line bytes) ≤ length bytes
unfolding first_line
first-line-short [] = omega arith
first-line-short (b ∷ bs) = go (eqb b line_feed) refl (first-line-short bs)
  where
    go : (fed : Bool) → eqb b line_feed ≡ fed → length (first_line bs) ≤ length bs
        → length (first_line (b ∷ bs)) ≤ length (b ∷ bs)
    go true e h = rw e (omega arith)
    go false e h = rw e (omega arith)

pub line-within : (chunk : List ℕ) (from : ℕ) → from ≤ length chunk
    → from + length (first_line (drop from chunk)) ≤ length chunk
line-within chunk from h =
    let short = first-line-short (drop from chunk) in
    let rest = length-drop from chunk in
    omega arith

-- ---- The bytes that stand there.
pub line-bytes : (bytes : List ℕ) → take (length (first_line bytes)) bytes ≡ first_line bytes
unfolding first_line
line-bytes [] = refl
line-bytes (b ∷ bs) = go (eqb b line_feed) refl (line-bytes bs)
  where
    go : (fed : Bool) → eqb b line_feed ≡ fed → take (length (first_line bs)) bs ≡ first_line bs
        → take (length (first_line (b ∷ bs))) (b ∷ bs) ≡ first_line (b ∷ bs)
    go true e left = rw e
    go false e left = rw e (ap (λ (l : List ℕ). b ∷ l) left)

pub fed-bytes : (bytes : List ℕ) → length (first_line bytes) < length bytes
    → take (suc (length (first_line bytes))) bytes ≡ first_line bytes ++ (line_feed ∷ [])
unfolding first_line
fed-bytes [] h = absurd (omega arith)
fed-bytes (b ∷ bs) h = go (eqb b line_feed) refl (fed-bytes bs) h
  where
    go : (fed : Bool) → eqb b line_feed ≡ fed
        → (length (first_line bs) < length bs → take (suc (length (first_line bs))) bs ≡ first_line bs ++ (line_feed ∷ []))
        → length (first_line (b ∷ bs)) < length (b ∷ bs)
        → take (suc (length (first_line (b ∷ bs)))) (b ∷ bs) ≡ first_line (b ∷ bs) ++ (line_feed ∷ [])
    go true e left = rw e (λ h. ap (λ (x : ℕ). x ∷ []) (eqb-true _ _ e))
    go false e left = rw e (λ h. ap (λ (l : List ℕ). b ∷ l) (left (omega arith)))

-- ---- A text without a line feed in front.
pub no-feed : (fed : Bool) → not fed ≡ true → fed ≡ false
no-feed false h = refl
no-feed true h = clash (cc)

pub front-line : (front text : List ℕ) → one_line front ≡ true → first_line (front ++ text) ≡ front ++ first_line text
unfolding first_line
front-line [] text o = refl
front-line (b ∷ bs) text o =
    let p = both_true (not (eqb b line_feed)) (one_line bs) o in
    rw (no-feed (eqb b line_feed) p.0, front-line bs text p.1)
