-- While a bag is ahead of a node, the node holds one, and ahead of the next there is one fewer.
use mathlib.Core.Path.{◌≡◌, refl, sym, ap, ◌∙◌}
use mathlib.Core.Logic.{◌≢◌}
use mathlib.Core.Bool.{true}
use mathlib.Core.List.{List, ◌∷◌}
use mathlib.Core.Option.{Option, some, none, map}
use Prim.Native.Nat.{ℕ, zero, suc, ◌<◌}
use Rattle.machine.specs.Choice.{◌≟◌, ◌<?◌}
use Rattle.machine.specs.Sides.{left, right}
use Rattle.machine.specs.Values.{Value, never, bag, N, X, Y, number, encode, decode, bag_ok}
use Rattle.machine.specs.Tasks.{no_node}
use Rattle.machine.specs.Table.{node_count, hat, link, value, value_words}
use Rattle.machine.specs.Calls.{lane_from, lane}
use Rattle.machine.proofs.Basics.Choices.{if_yes, if_no}
use Rattle.machine.proofs.Basics.Contradiction.{clash}
use Rattle.machine.proofs.Words.ValueLaws.{decoded-bag, never-has-word}
use Rattle.machine.proofs.Words.LaneLaws.{at_value}
use Rattle.lane_walk.specs.Walks.{ahead, count_of}
use Rattle.lane_walk.proofs.Laws.Turns.{after, no-turn, no-node, at-node}

-- A lane is what is ahead of its first node.
pub lane-ahead : (ws : List ℕ) (l : ℕ) {x : ℕ} → x ≡ link ws right (hat ws l left) → ahead ws x ≡ lane ws l
unfolding lane
lane-ahead ws l first = ap (ahead ws) first

-- A walk that ends within so many nodes ends in the same way within one node more.
value-more : (v : Value) {k l : Option (List ℕ)} {bags : List ℕ} → ((r : List ℕ) → k ≡ some r → l ≡ some r)
    → at_value v k ≡ some bags → at_value v l ≡ some bags
value-more never more h = h
value-more (bag b) {k} {l} {bags} more h = go k refl h
  where
    go : (r : Option (List ℕ)) → k ≡ r → map (◌∷◌ b) r ≡ some bags → map (◌∷◌ b) l ≡ some bags
    go none e h = clash (cc)
    go (some r) e h = ap (map (◌∷◌ b)) (more r e) ∙ h
value-more (N s) more h = h
value-more (X s) more h = h
value-more (Y s) more h = h

node-more : (ws : List ℕ) (m x : ℕ) (bags : List ℕ) → lane_from ws m x ≡ some bags → lane_from ws (suc m) x ≡ some bags
node-more ws zero x bags h = let e = no-turn ws 0 x refl in clash (cc)
node-more ws (suc m) x bags h = go (x ≟ no_node) (node-more ws m (link ws right x))
  where
    go : Dec (x ≡ no_node) → ((r : List ℕ) → after ws m x ≡ some r → after ws (suc m) x ≡ some r)
        → lane_from ws (suc (suc m)) x ≡ some bags
    go (yes e) more = let z = no-node ws (suc m) x e in clash (cc)
    go (no node) more = at-node ws (suc m) x node ∙ value-more (value ws x) more (sym (at-node ws m x node) ∙ h)

-- ---- A bag, and k more after it, are ahead of node x, within n nodes.
pub record BagAhead (ws : List ℕ) (n x k : ℕ) : Type 0 where
  pub is_node : x < node_count ws
  pub is-tag : bag_ok (value_words ws x) ≡ true
  pub first-bag : lane_from ws n x ≡ map (◌∷◌ (number (value_words ws x))) (after ws n x)
  pub fewer : count_of (after ws n x) ≡ some k

module _ (ws : List ℕ) (x k : ℕ) where
  -- A number that is no node holds no bag.
  holds : {b : ℕ} → value ws x ≡ bag b
      → (x < node_count ws) × (bag_ok (value_words ws x) ≡ true) × (number (value_words ws x) ≡ b)
  unfolding value
  holds {b} e = go (x <? node_count ws)
    where
      go : Dec (x < node_count ws)
          → (x < node_count ws) × (bag_ok (value_words ws x) ≡ true) × (number (value_words ws x) ≡ b)
      go (yes h) =
          let words = if_yes (x <? node_count ws) (value_words ws x) (encode never) h in
          let told = decoded-bag (value_words ws x) b (ap decode (sym words) ∙ e) in
          (h, told.0, told.1)
      go (no h) =
          let words = if_no (x <? node_count ws) (value_words ws x) (encode never) h in
          let z : never ≡ bag b = sym never-has-word ∙ ap decode (sym words) ∙ e in
          clash (cc)

  bag-held : (m : ℕ) {b : ℕ} → x ≢ no_node → value ws x ≡ bag b → count_of (lane_from ws (suc m) x) ≡ some (suc k)
      → BagAhead ws (suc m) x k
  bag-held m {b} node e counted = go (after ws m x) refl
    where
      here : lane_from ws (suc m) x ≡ map (◌∷◌ b) (after ws m x)
      here = at-node ws m x node ∙ ap (λ (v : Value). at_value v (after ws m x)) e

      go : (rest : Option (List ℕ)) → after ws m x ≡ rest → BagAhead ws (suc m) x k
      go none f =
          let z = ap count_of here ∙ ap (λ (l : Option (List ℕ)). count_of (map (◌∷◌ b) l)) f in clash (cc)
      go (some bags) f =
          let z = ap count_of here ∙ ap (λ (l : Option (List ℕ)). count_of (map (◌∷◌ b) l)) f in
          let g : after ws (suc m) x ≡ some bags = node-more ws m (link ws right x) bags f in
          let is-bag = holds e in
          record {
            is_node = is-bag.0;
            is-tag = is-bag.1;
            first-bag = here ∙ rw (is-bag.2, f, g);
            fewer = rw g (cc);
          }

  pub bag-ahead : (n : ℕ) → count_of (lane_from ws n x) ≡ some (suc k) → BagAhead ws n x k
  bag-ahead zero h = let e = no-turn ws 0 x refl in clash (cc)
  bag-ahead (suc m) h = go (x ≟ no_node)
    where
      at : x ≢ no_node → (v : Value) → value ws x ≡ v → BagAhead ws (suc m) x k
      at node v e = by v e (at-node ws m x node ∙ ap (λ (v : Value). at_value v (after ws m x)) e)
        where
          by : (v : Value) → value ws x ≡ v → lane_from ws (suc m) x ≡ at_value v (after ws m x) → BagAhead ws (suc m) x k
          by never e f = let z = ap count_of f in clash (cc)
          by (bag b) e f = bag-held m node e h
          by (N s) e f = let z = ap count_of f in clash (cc)
          by (X s) e f = let z = ap count_of f in clash (cc)
          by (Y s) e f = let z = ap count_of f in clash (cc)

      go : Dec (x ≡ no_node) → BagAhead ws (suc m) x k
      go (yes e) = let z = no-node ws (suc m) x e in clash (cc)
      go (no node) = at node (value ws x) refl
