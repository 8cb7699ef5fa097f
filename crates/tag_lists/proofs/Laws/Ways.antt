-- The tags of a list, one after another.
use mathlib.Core.Path.{◌≡◌, refl, sym}
use mathlib.Core.Bool.{Bool, true, false, cond}
use mathlib.Core.List.{List}
use Prim.Native.Nat.{ℕ, zero, suc, ◌*◌, ◌≤◌}
use native.Mathlib.Omega.{arith}
use native.Mathlib.Nat.{mul-suc, mul-zero}
use lib.ListN.{length, take, drop, length-append}
use Rattle.tag.proofs.TagLaws.{clash}
use Rattle.tag_lists.specs.TagLists.{Way, first_bad, turned_all}

-- All tags are good: so are the first and all those after it.
pub first_good : (w : Way) (n : ℕ) (list : List ℕ) → first_bad w (suc n) list ≡ suc n
    → (w.good (take w.width list) ≡ true) × (first_bad w n (drop w.width list) ≡ n)
unfolding first_bad
first_good w n list e = go (w.good (take w.width list)) refl e
  where
    go :
        (b : Bool)
        → w.good (take w.width list) ≡ b
        → cond b (suc (first_bad w n (drop w.width list))) 0 ≡ suc n
        → (w.good (take w.width list) ≡ true) × (first_bad w n (drop w.width list) ≡ n)
    go true g e = (g, omega arith)
    go false g e = clash (omega arith)

pub first-at-most : (w : Way) (n : ℕ) (list : List ℕ) → first_bad w n list ≤ n
unfolding first_bad
first-at-most w zero list = omega arith
first-at-most w (suc n) list = go (w.good (take w.width list)) (first-at-most w n (drop w.width list))
  where
    go : (b : Bool) {m : ℕ} → m ≤ n → cond b (suc m) 0 ≤ suc n
    go true h = omega arith
    go false h = omega arith

pub length-turned : (w : Way) (n : ℕ) (list : List ℕ) → ((p : List ℕ) → length (w.turned p) ≡ w.room)
    → length (turned_all w n list) ≡ w.room * n
unfolding turned_all
length-turned w zero list sized = sym (mul-zero w.room)
length-turned w (suc n) list sized =
    let p = take w.width list in
    let rest = drop w.width list in
    simp length-append (omega (arith, sized p, length-turned w n rest sized, mul-suc w.room n))
