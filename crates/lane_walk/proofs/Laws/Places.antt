-- The walk to a place: n bags are counted, and the node of the place is had, or the last that was gone to.
use mathlib.Core.Path.{◌≡◌, refl, sym, ap, ◌∙◌}
use mathlib.Core.Logic.{◌≢◌}
use mathlib.Core.Bool.{true, false}
use mathlib.Core.List.{List, [], ◌∷◌}
use mathlib.Core.Option.{Option, some, none, map}
use Prim.Native.Nat.{ℕ, zero, suc, ◌+◌, ◌-◌, ◌≤◌, ◌<◌, min}
use native.Mathlib.Omega.{arith}
use native.Mathlib.Numerals.{add-one}
use native.Mathlib.Nat.{add-zero, zero-add, sub-zero}
use lib.ListN.{length, get_or, drop}
use lib.Seq.{drop-cons}
use Rattle.std.specs.Prelude.{Ok, Err}
use Rattle.machine.specs.Sides.{left, right}
use Rattle.machine.specs.Choice.{◌≟◌}
use Rattle.machine.specs.Values.{Value, never, bag, N, X, Y, number, bag_ok}
use Rattle.machine.specs.Tasks.{no_node}
use Rattle.machine.specs.Table.{node_count, hat, link, value, value_words}
use Rattle.machine.specs.Calls.{lane_from, lane}
use Rattle.machine.proofs.Basics.Contradiction.{clash}
use Rattle.machine.proofs.Words.LaneLaws.{at_value}
use Rattle.machine.specs.declared.refusal.Refusal.TheVariants.{NoSlot}
use Rattle.lane_walk.specs.Walks.{ahead, count_of, node_after, located_of}
use Rattle.lane_walk.proofs.Laws.Turns.{after, no-turn, no-node, at-node, no-bag, one-bag}
use Rattle.lane_walk.proofs.Laws.Ahead.{BagAhead, bag-ahead}

-- ---- The loop that counts.
abbrev pub counted : ℕ → Option (List ℕ) → Option ℕ
counted n l = map (λ (bags : List ℕ). n + length bags) l

one-counted : (n b : ℕ) (l : Option (List ℕ)) → counted (n + 1) l ≡ counted n (map (◌∷◌ b) l)
one-counted n b none = refl
one-counted n b (some bags) =
    let e : n + 1 + length bags ≡ n + suc (length bags) = omega arith in
    ap some e

module _ (ws : List ℕ) where
  pub counting-begins : (l x : ℕ) → x ≡ link ws right (hat ws l left)
      → counted 0 (lane_from ws (node_count ws - 0) x) ≡ count_of (lane ws l)
  unfolding lane
  counting-begins l x first = rw (sub-zero (node_count ws), first) (go (lane ws l))
    where
      go : (l : Option (List ℕ)) → counted 0 l ≡ count_of l
      go none = refl
      go (some bags) = ap some (zero-add (length bags))

  module _ (n x : ℕ) where
    -- What the count comes to from here.
    abbrev onward : Option ℕ
    onward = counted n (lane_from ws (node_count ws - n) x)

    pub counting-ends : node_count ws ≤ n → onward ≡ none
    counting-ends h = ap (counted n) (no-turn ws (node_count ws - n) x (omega arith))

    pub counting-at-none : x ≡ no_node → onward ≡ none
    counting-at-none e = ap (counted n) (no-node ws (node_count ws - n) x e)

    module _ (turn : n < node_count ws) (node : x ≢ no_node) (is_node : x < node_count ws) where
      pub counting-at-no-bag : bag_ok (value_words ws x) ≡ false → onward ≡ some n
      counting-at-no-bag h =
          ap (counted n) (no-bag ws (node_count ws - n) (node_count ws - (n + 1)) x (omega arith) node is_node h)
          ∙ ap some (add-zero n)

      pub counting-at-bag : bag_ok (value_words ws x) ≡ true
          → counted (n + 1) (after ws (node_count ws - (n + 1)) x) ≡ onward
      counting-at-bag h =
          one-counted n (number (value_words ws x)) (after ws (node_count ws - (n + 1)) x)
          ∙ ap (counted n) (sym (one-bag ws (node_count ws - n) (node_count ws - (n + 1)) x (omega arith) node is_node h))

  -- ---- The node where the walk is, and the one that is had.
  pub begins-at : (first : ℕ) → first ≡ node_after ws 0 first
  unfolding node_after
  begins-at first = refl

  pub begins-there : (place first : ℕ) → first ≡ node_after ws (min place 0) first
  begins-there place first =
      let e : min place 0 ≡ 0 = omega arith in
      rw e (begins-at first)

  pub gone-on : (n first : ℕ) {x : ℕ} → x ≡ node_after ws n first → link ws right x ≡ node_after ws (n + 1) first
  unfolding node_after
  gone-on n first at = rw add-one (ap (link ws right) at)

  pub had-next : (place n first : ℕ) → n < place → node_after ws (n + 1) first ≡ node_after ws (min place (n + 1)) first
  had-next place n first h = let e : min place (n + 1) ≡ n + 1 = omega arith in rw e

  pub had-before : (place n first : ℕ) → place ≤ n
      → node_after ws (min place n) first ≡ node_after ws (min place (n + 1)) first
  had-before place n first h = let e : min place (n + 1) ≡ min place n = omega arith in rw e

  -- ---- What the walk answers, by its count.
  module _ (place first : ℕ) where
    pub located-nowhere : (l : Option (List ℕ)) → count_of l ≡ none → Err NoSlot ≡ located_of ws place first l
    located-nowhere none h = refl
    located-nowhere (some bags) h = clash (cc)

    pub located-there : (l : Option (List ℕ)) (n : ℕ) {there : ℕ} → count_of l ≡ some n
        → there ≡ node_after ws (min place n) first → Ok (record { bags = n; node = there }) ≡ located_of ws place first l
    located-there none n h had = clash (cc)
    located-there (some bags) n h had = let e : length bags ≡ n = cc in rw (e, had)

-- ---- The tags from a place on.
module _ (ws : List ℕ) (x : ℕ) (bags : List ℕ) where
  pub record TagAt (n : ℕ) : Type 0 where
    pub is_node : node_after ws n x < node_count ws
    pub is-tag : bag_ok (value_words ws (node_after ws n x)) ≡ true
    pub tag : number (value_words ws (node_after ws n x)) ≡ get_or bags n 0
    pub rest : ahead ws (node_after ws (suc n) x) ≡ some (drop (suc n) bags)

  tag-here : (n : ℕ) → n < length bags → ahead ws (node_after ws n x) ≡ some (drop n bags) → TagAt n
  unfolding node_after
  tag-here n h here = go (after ws (node_count ws) y) refl
    where
      y : ℕ
      y = node_after ws n x

      here-first : ahead ws y ≡ some (get_or bags n 0 ∷ drop (suc n) bags)
      here-first = here ∙ ap some (drop-cons bags n 0 h)

      bag : BagAhead ws (node_count ws) y (length (drop (suc n) bags))
      bag = bag-ahead ws y (length (drop (suc n) bags)) (node_count ws) (ap count_of here-first)

      go : (r : Option (List ℕ)) → after ws (node_count ws) y ≡ r → TagAt n
      go none e =
          let z = sym here-first ∙ bag.first-bag ∙ ap (map (◌∷◌ (number (value_words ws y)))) e in clash (cc)
      go (some r) e =
          let z = sym here-first ∙ bag.first-bag ∙ ap (map (◌∷◌ (number (value_words ws y)))) e in
          record { is_node = bag.is_node; is-tag = bag.is-tag; tag = cc; rest = cc }

  module _ (is-ahead : ahead ws x ≡ some bags) where
    pub ahead_after : (n : ℕ) → n ≤ length bags → ahead ws (node_after ws n x) ≡ some (drop n bags)
    unfolding node_after
    ahead_after zero h = is-ahead
    ahead_after (suc n) h = (tag-here n (omega arith) (ahead_after n (omega arith))).rest

    pub tag_at : (n : ℕ) → n < length bags → TagAt n
    tag_at n h = tag-here n h (ahead_after n (omega arith))

-- ---- A walk that ends has no more bags than it goes through nodes.
pub few-bags : (ws : List ℕ) (n x : ℕ) (bags : List ℕ) → lane_from ws n x ≡ some bags → length bags ≤ n
few-bags ws zero x bags h = let e = no-turn ws 0 x refl in clash (cc)
few-bags ws (suc n) x bags h = go (x ≟ no_node) (few-bags ws n (link ws right x))
  where
    ended : some [] ≡ some bags → length bags ≤ suc n
    ended e = let z = ap count_of e in let y : 0 ≡ length bags = cc in omega arith

    by : (v : Value) → ((r : List ℕ) → after ws n x ≡ some r → length r ≤ n)
        → at_value v (after ws n x) ≡ some bags → length bags ≤ suc n
    by never few e = ended e
    by (bag b) few e = on (after ws n x) refl
      where
        on : (r : Option (List ℕ)) → after ws n x ≡ r → length bags ≤ suc n
        on none f = let z = ap (map (◌∷◌ b)) (sym f) ∙ e in clash (cc)
        on (some r) f =
            let z = ap count_of (ap (map (◌∷◌ b)) (sym f) ∙ e) in
            let y : suc (length r) ≡ length bags = cc in
            omega (arith, few r f)
    by (N s) few e = ended e
    by (X s) few e = ended e
    by (Y s) few e = ended e

    go : Dec (x ≡ no_node) → ((r : List ℕ) → after ws n x ≡ some r → length r ≤ n) → length bags ≤ suc n
    go (yes e) few = let z = no-node ws (suc n) x e in clash (cc)
    go (no node) few = by (value ws x) few (sym (at-node ws n x node) ∙ h)

-- ---- Where the walk to a place ends.
pub ruleset ends = (
  counting-ends,
  counting-at-none,
  counting-at-no-bag,
  located-nowhere,
  located-there,
)
