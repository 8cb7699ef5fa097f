-- The tags ahead of a node, of which so many are left: the next of them, those of a line, and those after it.
use mathlib.Core.Path.{◌≡◌, refl, sym, ap, ◌∙◌}
use mathlib.Core.Bool.{true}
use mathlib.Core.List.{List, [], ◌∷◌, ◌++◌}
use mathlib.Core.Option.{Option, some, none}
use Prim.Native.Nat.{ℕ, suc, ◌-◌, ◌≤◌, ◌<◌, min}
use native.Mathlib.Omega.{arith}
use native.Mathlib.Decide.{dec_lt}
use lib.ListN.{length, take, drop, length-drop, drop_of_length-le}
use lib.Seq.{take_all, take-suc, length-take-le}
use Rattle.tag.specs.Tags.{billion, largest_tag, tag_of, digit_of, low_of}
use Rattle.tag.proofs.TagLaws.{tag-of-words, low_small}
use Rattle.machine.specs.declared.Stored.{Stored}
use Rattle.machine.specs.Values.{number, bag_ok}
use Rattle.machine.specs.Table.{node_count, value_words}
use Rattle.machine.proofs.Basics.Contradiction.{clash}
use Rattle.machine.proofs.Words.ValueLaws.{bag-range}
use Rattle.lane_walk.specs.Walks.{ahead, count_of, node_after}
use Rattle.lane_walk.proofs.Laws.Places.{TagAt, ahead_after, tag_at}
use Rattle.call_sheet.specs.Found.{tags_found}

-- ---- A walk that is counted ends, and its tags are as many.
tags-ahead : (l : Option (List ℕ)) (n : ℕ) → count_of l ≡ some n → l ≡ some (tags_found l)
tags-ahead none n h = clash (cc)
tags-ahead (some bags) n h = refl

pub tags-left : (l : Option (List ℕ)) (n : ℕ) → count_of l ≡ some n → length (tags_found l) ≡ n
tags-left none n h = clash (cc)
tags-left (some bags) n h = cc

-- Those before a place, or all where there are fewer.
pub fewer-taken : (n : ℕ) (l : List ℕ) → take (min (length l) n) l ≡ take n l
fewer-taken n l = go (dec_lt (length l) n)
  where
    go : Dec (length l < n) → take (min (length l) n) l ≡ take n l
    go (yes h) =
        let e : min (length l) n ≡ length l = omega arith in
        rw e (take_all (length l) l (omega arith) ∙ sym (take_all n l (omega arith)))
    go (no h) = let e : min (length l) n ≡ n = omega arith in rw e

pub fewer-dropped : (n : ℕ) (l : List ℕ) → drop (min n (length l)) l ≡ drop n l
fewer-dropped n l = go (dec_lt n (length l))
  where
    go : Dec (n < length l) → drop (min n (length l)) l ≡ drop n l
    go (yes h) = let e : min n (length l) ≡ n = omega arith in rw e
    go (no h) =
        let e : min n (length l) ≡ length l = omega arith in
        rw e (drop_of_length-le l {i = length l} (omega arith) ∙ sym (drop_of_length-le l {i = n} (omega arith)))

-- ---- Ahead of node x are tags, and so many are left.
module _ (ws : List ℕ) (x left : ℕ) (counted : count_of (ahead ws x) ≡ some left) where
  abbrev tags : List ℕ
  tags = tags_found (ahead ws x)

  long : length tags ≡ left
  long = tags-left (ahead ws x) left counted

  pub next-tag : (n : ℕ) → n < left → TagAt ws x tags n
  next-tag n h = tag_at ws x tags (tags-ahead (ahead ws x) left counted) n (omega (arith, long))

  -- At the node that the walk has come to.
  module _ (n : ℕ) {y : ℕ} (more : n < left) (reached : y ≡ node_after ws n x) where
    pub node-here : y < node_count ws
    node-here = rw reached (next-tag n more).is_node

    pub tag-here : {u : Stored} → u ≡ value_words ws y → bag_ok u ≡ true
    tag-here read = rw (read, reached) (next-tag n more).is-tag

  pub one-more-taken : (n : ℕ) → n < left
      → take n tags ++ (number (value_words ws (node_after ws n x)) ∷ []) ≡ take (suc n) tags
  one-more-taken n h =
      ap (λ (tag : ℕ). take n tags ++ (tag ∷ [])) (next-tag n h).tag ∙ sym (take-suc tags n 0 (omega (arith, long)))

  pub taken-long : (n : ℕ) → n ≤ left → length (take n tags) ≡ n
  taken-long n h = length-take-le n tags (omega (arith, long))

  -- After the tags before a place, the others are ahead.
  others-ahead : (n : ℕ) → ahead ws (node_after ws (min left n) x) ≡ some (drop n tags)
  others-ahead n =
      let e : min left n ≡ min n (length tags) = omega (arith, long) in
      ap (λ (m : ℕ). ahead ws (node_after ws m x)) e
      ∙ ahead_after ws x tags (tags-ahead (ahead ws x) left counted) (min n (length tags)) (omega arith)
      ∙ ap some (fewer-dropped n tags)

  module _ (n : ℕ) {y : ℕ} (gone : y ≡ node_after ws (min left n) x) where
    pub others-left : count_of (ahead ws y) ≡ some (left - n)
    others-left =
        ap (λ (z : ℕ). count_of (ahead ws z)) gone
        ∙ ap count_of (others-ahead n)
        ∙ ap some (length-drop n tags ∙ ap (λ (m : ℕ). m - n) long)

    pub walked_others : tags_found (ahead ws y) ≡ drop n tags
    walked_others = ap (λ (z : ℕ). tags_found (ahead ws z)) gone ∙ ap tags_found (others-ahead n)

pub ruleset readable = (node-here, tag-here)

-- ---- The words of a tag.
module _ {v u : Stored} {digit low : ℕ}
    (read : u ≡ v) (ok : bag_ok v ≡ true) (is_digit : digit ≡ digit_of (number u)) (is-low : low ≡ low_of (number u)) where
  tag_small : number v ≤ largest_tag
  tag_small = (bag-range v ok).1

  pub digit-fits : digit ≤ 9
  digit-fits = let small = tag_small in rw (is_digit, read) (omega arith)

  pub low_fits : low < billion
  low_fits = rw is-low (low_small (number u))

  pub words-tag : tag_of digit low ≡ number v
  words-tag = rw (is_digit, is-low) (tag-of-words (number u)) ∙ ap number read
