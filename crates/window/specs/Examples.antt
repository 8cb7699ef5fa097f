-- Windows fed, with what each feed comes to, and the pairs that are lost; `proofs/Worked` computes them.
use Rattle.std.specs.Prelude.{ℕ, zero, suc, cond, List, [], ◌∷◌, ◌++◌}
use Rattle.window.specs.Lost.{is_lost}
use Rattle.window.specs.Window.{lost, refused, FeedOutcome, outcome, feed, fresh_words}

-- An outcome as the definitions give it, and as it is.
pub record Example : Type 0 where
  pub given : FeedOutcome
  pub is : FeedOutcome

infix 80 ◌gives◌
abbrev pub ◌gives◌ : FeedOutcome → FeedOutcome → Example
given gives is = record { given = given; is = is }

-- A refusal leaves the window.
abbrev refuses : (number : ℕ) → (words : List ℕ) → (count : ℕ) → Example
refuses number ws count = feed ws count 5 8 gives outcome (refused number) ws

unfoldable pub examples : List Example
examples =
    -- A fresh window of two, fed four times over the last number: lost, not, lost, lost.
    feed (fresh_words 2) 4_294_967_294 5 8 gives outcome (lost 1) (2 ∷ 1 ∷ 1 ∷ 4_294_967_294 ∷ 1 ∷ 0 ∷ [])
    ∷ feed (2 ∷ 1 ∷ 1 ∷ 4_294_967_294 ∷ 1 ∷ 0 ∷ []) 4_294_967_295 5 0
    gives outcome (lost 1) (2 ∷ 2 ∷ 0 ∷ 4_294_967_295 ∷ 1 ∷ 0 ∷ [])
    ∷ feed (2 ∷ 2 ∷ 0 ∷ 4_294_967_295 ∷ 1 ∷ 0 ∷ []) 0 62 0 gives outcome (lost 1) (2 ∷ 2 ∷ 1 ∷ 0 ∷ 1 ∷ 0 ∷ [])
    ∷ feed (2 ∷ 2 ∷ 1 ∷ 0 ∷ 1 ∷ 0 ∷ []) 1 48 39 gives outcome (lost 2) (2 ∷ 2 ∷ 0 ∷ 1 ∷ 1 ∷ 1 ∷ [])
    -- A window of one has the last tick alone.
    ∷ feed (fresh_words 1) 9 51 39 gives outcome (lost 1) (1 ∷ 1 ∷ 0 ∷ 9 ∷ 1 ∷ [])
    ∷ feed (1 ∷ 1 ∷ 0 ∷ 9 ∷ 1 ∷ []) 10 51 0 gives outcome (lost 0) (1 ∷ 1 ∷ 0 ∷ 10 ∷ 0 ∷ [])
    -- 24: the same count, one left out.
    ∷ refuses 24 (2 ∷ 1 ∷ 1 ∷ 7 ∷ 1 ∷ 0 ∷ []) 7
    ∷ refuses 24 (2 ∷ 1 ∷ 1 ∷ 7 ∷ 1 ∷ 0 ∷ []) 9
    -- 23: W of 0 and of 4,097, a word too few, a word too many, no word; before 24.
    ∷ refuses 23 (fresh_words 0) 1
    ∷ refuses 23 (fresh_words 4_097) 1
    ∷ refuses 23 (2 ∷ 1 ∷ 1 ∷ 7 ∷ 1 ∷ []) 7
    ∷ refuses 23 (2 ∷ 1 ∷ 1 ∷ 7 ∷ 1 ∷ 0 ∷ 0 ∷ []) 7
    ∷ refuses 23 [] 1
    -- 23: three of two places fed; a next place that is not the number fed; one that is no place; a last count while
    -- none is fed; a place of 2; a place that is not fed and not 0.
    ∷ refuses 23 (2 ∷ 3 ∷ 1 ∷ 7 ∷ 1 ∷ 0 ∷ []) 8
    ∷ refuses 23 (2 ∷ 1 ∷ 0 ∷ 7 ∷ 1 ∷ 0 ∷ []) 8
    ∷ refuses 23 (2 ∷ 2 ∷ 2 ∷ 7 ∷ 1 ∷ 0 ∷ []) 8
    ∷ refuses 23 (2 ∷ 0 ∷ 0 ∷ 7 ∷ 0 ∷ 0 ∷ []) 8
    ∷ refuses 23 (2 ∷ 2 ∷ 1 ∷ 7 ∷ 1 ∷ 2 ∷ []) 8
    ∷ refuses 23 (2 ∷ 1 ∷ 1 ∷ 7 ∷ 1 ∷ 1 ∷ []) 8
    ∷ []

-- ---- Which pairs are lost.
pub record Pair : Type 0 where
  pub before : ℕ
  pub after : ℕ

infix 80 ◌to◌
abbrev pub ◌to◌ : (before after : ℕ) → Pair
before to after = record { before = before; after = after }

-- Of the pairs that begin with a step and end below n.
unfoldable pub lost_from : (before n : ℕ) → List Pair
lost_from before zero = []
lost_from before (suc n) = lost_from before n ++ cond (is_lost before n) ((before to n) ∷ []) []

-- Of all pairs of steps below m and n.
unfoldable pub lost_pairs : (m n : ℕ) → List Pair
lost_pairs zero n = []
lost_pairs (suc m) n = lost_pairs m n ++ lost_from m n

-- 02's five.
abbrev pub named_pairs : List Pair
named_pairs = (5 to 8) ∷ (25 to 15) ∷ (48 to 39) ∷ (51 to 39) ∷ (62 to 0) ∷ []
