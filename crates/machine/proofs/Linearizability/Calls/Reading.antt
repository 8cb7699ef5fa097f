-- Reading the deque from the far hat along the outward links gives the row, and the row is shorter than the table.
use mathlib.Core.Path.{◌≡◌, refl, ap, sym, ◌∙◌}
use mathlib.Core.Logic.{◌≢◌, inl, inr}
use mathlib.Core.List.{List, [], ◌∷◌}
use mathlib.Core.Option.{some, none, map}
use lib.ListN.{length}
use Prim.Native.Nat.{ℕ, suc, zero, ◌+◌, ◌-◌, ◌≤◌, ◌<◌}
use native.Mathlib.Omega.{arith}
use Rattle.machine.specs.Choice.{◌≟◌, ◌<?◌}
use Rattle.machine.specs.Sides.{Side, left, right}
use Rattle.machine.specs.Values.{Value, never, bag, N, X, Y, encode, decode}
use Rattle.machine.specs.Tasks.{no_node}
use Rattle.machine.specs.Table.{node_count, hat, link, value_words, value}
use Rattle.machine.specs.Calls.{lane_from, lane}
use Rattle.machine.proofs.Words.ValueLaws.{never-has-word}
use Rattle.machine.proofs.Basics.Contradiction.{clash, less?}
use Rattle.machine.proofs.Basics.Choices.{if_no}
use Rattle.machine.proofs.Words.Memories.{View, viewed}
use Rattle.machine.proofs.Linearizability.Model.Classes.{Class, main, of, owner}
use Rattle.machine.proofs.Linearizability.Model.Nodes.{main-not-never, at_some}
use Rattle.machine.proofs.Linearizability.Model.Segments.{segment, segment-length}
use Rattle.machine.proofs.Linearizability.Model.Invariant.{Lane}
use Rattle.machine.proofs.Linearizability.Calls.Pigeonhole.{pigeonhole}

-- Walking from x along the links `out` reads the bags l, through nodes that are not none, up to a mark.
pub data Reads (out : ℕ → ℕ) (val : ℕ → Value) : (x : ℕ) → List ℕ → Type 0 where
  at_mark : {x : ℕ} (z : Side) → x ≢ no_node → owner (val x) ≡ of z → Reads out val x []
  at-bag : {x : ℕ} {l : List ℕ} (b : ℕ) → x ≢ no_node → val x ≡ bag b → Reads out val (out x) l → Reads out val x (b ∷ l)

module _ {ℓ : ℕ} {s o : Side} {m : View} {class : ℕ → Class} {r : List ℕ} (L : Lane ℓ s o m class r) where
  open L.frame use {at, n, a, b, bags}

  reads-from : (d i : ℕ) → a < i → i + d ≡ b → Reads m.out m.val (at i) (segment bags i d)
  unfolding segment
  reads-from zero i h e =
      let S = L.structure in
      let i≤n : i ≤ n = omega (arith, S.b≤n) in
      at_mark s (at_some L.structure i i≤n)
      (elim (less? i n) [
        | inl q ↦ cc (S.values.N-near i (omega arith) q)
        | inr q ↦ let z : i ≡ n = omega arith in cc S.values.X-last
      ])
  reads-from (suc d) i h e =
      let S = L.structure in
      let i<n : i < n = omega (arith, S.b≤n) in
      let v = S.values.bag-between i h (omega arith) in
      at-bag {l = segment bags (suc i) d} (bags i) (at_some L.structure i (omega arith)) v
      (rw (S.links.links-out i i<n) (reads-from d (suc i) (omega arith) (omega arith)))

  -- The far hat leads to the first place after index a.
  first-place : m.out (m.hats ℓ o) ≡ at (suc a)
  first-place =
      let S = L.structure in
      elim S.far-hat [
        | inl q ↦ cc (S.links.links-out a (omega (arith, S.a<b, S.b≤n)))
        | inr y ↦ y.leads-back
      ]

  reads-row : Reads m.out m.val (m.out (m.hats ℓ o)) r
  reads-row =
      rw (first-place, ← L.row_is)
      (reads-from (b - suc a) (suc a) (omega arith) (omega (arith, L.structure.a<b)))

  -- The nodes of main are no more than the numbers that bound them.
  pub main-size : (S : ℕ) → ((x : ℕ) → class x ≡ main ℓ → x < S) → suc n ≤ S
  main-size S below =
      let M = L.structure.main_list in
      pigeonhole S (suc n) at (λ i h. below (at i) (M.is-main i (omega arith)))
      (λ i j hi hj e. cc (M.index_at i (omega arith), M.index_at j (omega arith)))

  -- The row and the two ends of main are different nodes of main.
  pub row-length : (S : ℕ) → ((x : ℕ) → class x ≡ main ℓ → x < S) → length r + 2 ≤ S
  row-length S below = omega (arith, length-row, main-size S below, L.structure.a<b, L.structure.b≤n)
    where
      length-row : length r ≡ b - suc a
      length-row = ap length (sym L.row_is) ∙ segment-length bags (suc a) (b - suc a)

-- ---- The definition that reads the lane of a table.
module _ (ws : List ℕ) where
  lane_from-bag : (n x b : ℕ)
      → x ≢ no_node
      → value ws x ≡ bag b
      → lane_from ws (suc n) x ≡ map (◌∷◌ b) (lane_from ws n (link ws right x))
  unfolding lane_from
  lane_from-bag n x b ne v = rw (v, lane_from) (if_no (x ≟ no_node) none _ ne)

  lane_from-mark : (n x : ℕ) (z : Side) → x ≢ no_node → owner (value ws x) ≡ of z → lane_from ws (suc n) x ≡ some []
  unfolding lane_from
  lane_from-mark n x z ne e = go (value ws x) refl
    where
      go : (v : Value) → value ws x ≡ v → lane_from ws (suc n) x ≡ some []
      go never q = clash (cc)
      go (bag b) q = clash (cc)
      go (N y) q = rw (q, lane_from) (if_no (x ≟ no_node) none (some []) ne)
      go (X y) q = rw (q, lane_from) (if_no (x ≟ no_node) none (some []) ne)
      go (Y y) q = rw (q, lane_from) (if_no (x ≟ no_node) none (some []) ne)

  lane_from-reads : (n x : ℕ) {l : List ℕ}
      → Reads (link ws right) (value ws) x l
      → length l < n
      → lane_from ws n x ≡ some l
  lane_from-reads zero x R h = absurd (omega arith)
  lane_from-reads (suc n) x (at_mark z ne e) h = lane_from-mark n x z ne e
  lane_from-reads (suc n) x (at-bag b ne v R) h =
      lane_from-bag n x b ne v
      ∙ ap (map (◌∷◌ b)) (lane_from-reads n (link ws right x) R (omega arith))

  lane_from-row : {ℓ : ℕ} {class : ℕ → Class} {r : List ℕ}
      → Lane ℓ right left (viewed right ws) class r
      → (n : ℕ)
      → length r < n
      → lane_from ws n (link ws right (hat ws ℓ left)) ≡ some r
  lane_from-row {ℓ} L n h = lane_from-reads n (link ws right (hat ws ℓ left)) (reads-row L) h

  -- A number that is no node reads as never used, so main has nodes only.
  value-outside : (x : ℕ) → ¬ (x < node_count ws) → value ws x ≡ never
  unfolding value
  value-outside x h = ap decode (if_no (x <? node_count ws) (value_words ws x) (encode never) h) ∙ never-has-word

  pub main-is-node : {ℓ : ℕ} {class : ℕ → Class} {r : List ℕ}
      → Lane ℓ right left (viewed right ws) class r
      → (x : ℕ)
      → class x ≡ main ℓ
      → x < node_count ws
  main-is-node L x c =
      elim (x <? node_count ws) [
        | yes l ↦ l
        | no l ↦ absurd (main-not-never L.structure x c (value-outside x l))
      ]

  pub lane_row : {ℓ : ℕ} {class : ℕ → Class} {r : List ℕ} → Lane ℓ right left (viewed right ws) class r
      → lane ws ℓ ≡ some r
  unfolding lane
  lane_row L = lane_from-row L (node_count ws) (omega (arith, row-length L (node_count ws) (main-is-node L)))
