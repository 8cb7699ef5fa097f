-- All lines of a text: the first and those behind it, and all of them put together again.
use mathlib.Core.Bool.{Bool, true, false, cond, not}
use mathlib.Core.List.{List, [], ◌∷◌, ◌++◌}
use mathlib.Core.Logic.{◌⊎◌, inl, inr}
use mathlib.Core.Path.{◌≡◌, refl, sym, ap, subst}
use Prim.Native.Nat.{ℕ, suc, ◌<◌}
use native.Mathlib.Omega.{arith}
use borrow.Author.Tests.{eqb-true}
use lib.Dec.{eqb}
use lib.ListN.{length, drop}
use Rattle.tag.proofs.TagLaws.{clash, both_true}
use Rattle.text.specs.Lines.{line_feed, first_line, in_front, lines_of, one_line}
use Rattle.text.proofs.Laws.FirstLine.{no-feed}

-- The first line, and the lines behind its line feed.
pub first-of-lines : (xs : List ℕ) → 0 < length xs
    → lines_of xs ≡ first_line xs ∷ lines_of (drop (suc (length (first_line xs))) xs)
unfolding lines_of first_line
first-of-lines [] h = absurd (omega arith)
first-of-lines (b ∷ []) h = go (eqb b line_feed) refl
  where
    go : (fed : Bool) → eqb b line_feed ≡ fed
        → lines_of (b ∷ []) ≡ first_line (b ∷ []) ∷ lines_of (drop (suc (length (first_line (b ∷ [])))) (b ∷ []))
    go true e = rw e
    go false e = rw e
first-of-lines (b ∷ c ∷ cs) h = go (eqb b line_feed) refl (first-of-lines (c ∷ cs) (omega arith))
  where
    go : (fed : Bool) → eqb b line_feed ≡ fed
        → lines_of (c ∷ cs) ≡ first_line (c ∷ cs) ∷ lines_of (drop (suc (length (first_line (c ∷ cs)))) (c ∷ cs))
        → lines_of (b ∷ c ∷ cs)
        ≡ first_line (b ∷ c ∷ cs) ∷ lines_of (drop (suc (length (first_line (b ∷ c ∷ cs)))) (b ∷ c ∷ cs))
    go true e r = rw e
    go false e r = rw (e, r)

-- A text without a line feed is one line.
pub line-cut : (text rest : List ℕ) → one_line text ≡ true → lines_of (text ++ (line_feed ∷ rest)) ≡ text ∷ lines_of rest
unfolding lines_of
line-cut [] rest o = refl
line-cut (b ∷ bs) rest o =
    let p = both_true (not (eqb b line_feed)) (one_line bs) o in
    rw (no-feed (eqb b line_feed) p.0, line-cut bs rest p.1)

-- ---- Lines put together again.
unfoldable pub joined : List (List ℕ) → List ℕ
joined [] = []
joined (line ∷ lines) = line ++ (line_feed ∷ joined lines)

abbrev pub Joins : (list text : List ℕ) → Type 0
Joins list text = (list ≡ text) ⊎ (list ++ (line_feed ∷ []) ≡ text)

pub lines-joined : (list : List ℕ) → Joins list (joined (lines_of list))
unfolding lines_of joined
lines-joined [] = inl refl
lines-joined (b ∷ bs) = go (eqb b line_feed) refl (lines_of bs) refl (lines-joined bs)
  where
    behind : (byte : ℕ) {xs ys : List ℕ} → Joins xs ys → Joins (byte ∷ xs) (byte ∷ ys)
    behind byte (inl e) = inl (ap (λ (t : List ℕ). byte ∷ t) e)
    behind byte (inr e) = inr (ap (λ (t : List ℕ). byte ∷ t) e)

    alone : (xs : List ℕ) → Joins xs [] → Joins (b ∷ xs) (b ∷ line_feed ∷ [])
    alone [] j = inr refl
    alone (x ∷ xs) (inl e) = clash (cc)
    alone (x ∷ xs) (inr e) = clash (cc)

    go : (fed : Bool) → eqb b line_feed ≡ fed → (ls : List (List ℕ)) → lines_of bs ≡ ls
        → Joins bs (joined (lines_of bs))
        → Joins (b ∷ bs) (joined (cond fed ([] ∷ lines_of bs) (in_front b (lines_of bs))))
    go true e ls f j =
        let feed : b ≡ line_feed = eqb-true b line_feed e in
        subst (λ (x : ℕ). Joins (x ∷ bs) (line_feed ∷ joined (lines_of bs))) (sym feed) (behind line_feed j)
    go false e [] f j = rw f (alone bs (rw f at j))
    go false e (l ∷ ls) f j = rw f (behind b (rw f at j))
