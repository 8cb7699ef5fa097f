-- What allocate gives: the first free node from the hint upward, going round, or none where every node is reachable.
use mathlib.Core.Path.{◌≡◌, refl, sym, ◌∙◌}
use mathlib.Core.Logic.{◌≢◌}
use mathlib.Core.Bool.{false}
use mathlib.Core.List.{List}
use Prim.Native.Nat.{ℕ, zero, suc, ◌<◌, ◌≤◌, ◌+◌, ◌-◌}
use native.Mathlib.Omega.{arith}
use native.Mathlib.Nat.{not-suc-le-zero}
use lib.ListN.{get_or}
use Rattle.machine.specs.Choice.{◌≟◌, ◌<?◌, ◌≤?◌}
use Rattle.machine.specs.Tasks.{no_node}
use Rattle.machine.specs.Table.{node_count}
use Rattle.machine.specs.Reach.{Reachable}
use Rattle.machine.specs.Round.{following}
use Rattle.machine.specs.Allocate.{largest_count, marked, first_unmarked, allocate}
use Rattle.machine.specs.FirstFree.{nth, FirstFreeFrom}
use Rattle.machine.proofs.Basics.Rounds.{following-up, following-round, following-below}
use Rattle.machine.proofs.SlotRule.Marking.{first_unmarked-here, first_unmarked-next, first_unmarked-end}
use Rattle.machine.proofs.SlotRule.Reached.{
  WellLinked,
  node-not-none,
  marked-reachable,
  reachable-marked,
  keeps,
  unreached-not-kept,
}

-- ---- The way in closed form.
module _ (S : ℕ) where
  nth-node : (i x : ℕ) → x < S → nth S x i < S
  nth-node zero x h = h
  nth-node (suc i) x h = nth-node i (following S x) (following-below S x h)

  -- Up to S - 1 each step adds one.
  nth_up : (i x : ℕ) → x + i < S → nth S x i ≡ x + i
  nth_up zero x h = omega arith
  nth_up (suc i) x h = rw (following-up S x (omega arith)) (nth_up i (x + 1) (omega arith) ∙ omega arith)

  -- Past S - 1 it goes on from 0.
  nth-round : (i x : ℕ) → x < S → i < S → S ≤ x + i → nth S x i ≡ x + i - S
  nth-round zero x h l r = absurd (omega arith)
  nth-round (suc i) x h l r = by (x + 1 <? S) (λ h'. nth-round i (x + 1) h' (omega arith) (omega arith))
    where
      by : Dec (x + 1 < S) → (x + 1 < S → nth S (x + 1) i ≡ x + 1 + i - S) → nth S (following S x) i ≡ x + suc i - S
      by (yes h') later = rw (following-up S x h') (later h' ∙ omega arith)
      by (no h') later = rw (following-round S x (omega arith)) (nth_up i 0 (omega arith) ∙ omega arith)

  -- So the S nodes met from any node on, itself the first, are all nodes.
  nth-meets : (x y : ℕ) → x < S → y < S → (i : ℕ) × (i < S) × (nth S x i ≡ y)
  nth-meets x y h l = by (x ≤? y)
    where
      by : Dec (x ≤ y) → (i : ℕ) × (i < S) × (nth S x i ≡ y)
      by (yes a) = (y - x, omega arith, nth_up (y - x) x (omega arith) ∙ omega arith)
      by (no a) = (y + S - x, omega arith, nth-round (y + S - x) x h (omega arith) (omega arith) ∙ omega arith)

-- ---- The search, in terms of the way and the marks.
module _ (S : ℕ) (marks : List ℕ) where
  -- The nodes met in fewer than n steps from x all have a mark.
  abbrev MetMarked : (n x : ℕ) → Type 0
  MetMarked n x = (j : ℕ) → j < n → get_or marks (nth S x j) 0 ≢ 0

  met-none : (x : ℕ) → MetMarked 0 x
  met-none x j b = absurd (not-suc-le-zero b)

  met-one-more : (n x : ℕ) → get_or marks x 0 ≢ 0 → MetMarked n (following S x) → MetMarked (suc n) x
  met-one-more n x e f zero b = e
  met-one-more n x e f (suc j) b = f j (omega arith)

  -- y is the first node without a mark on the way from x, fewer than n steps on.
  record FirstUnmarked (n x y : ℕ) : Type 0 where
    pub steps : ℕ
    pub few_steps : steps < n
    pub there : y ≡ nth S x steps
    pub no_mark : get_or marks y 0 ≡ 0
    pub passed : MetMarked steps x

  search-found : (n x : ℕ) → first_unmarked S marks n x ≢ no_node → FirstUnmarked n x (first_unmarked S marks n x)
  search-found zero x f = absurd (f (first_unmarked-end S marks x))
  search-found (suc n) x f = by (get_or marks x 0 ≟ 0) (search-found n (following S x))
    where
      by : Dec (get_or marks x 0 ≡ 0)
          → (first_unmarked S marks n (following S x) ≢ no_node
          → FirstUnmarked n (following S x) (first_unmarked S marks n (following S x)))
          → FirstUnmarked (suc n) x (first_unmarked S marks (suc n) x)
      by (yes e) later =
          rw (first_unmarked-here S marks n x e)
          (record { steps = 0; few_steps = omega arith; there = refl; no_mark = e; passed = met-none x })
      by (no e) later =
          let q = first_unmarked-next S marks n x e in
          let k = later (λ z. f (q ∙ z)) in
          let b = k.few_steps in
          rw q
          (record {
            steps = suc k.steps;
            few_steps = omega arith;
            there = k.there;
            no_mark = k.no_mark;
            passed = met-one-more k.steps x e k.passed;
          })

  -- The search from a node meets nodes only, and none is no node: so it gives none only if all that it met have a mark.
  search-none : S ≤ largest_count → (n x : ℕ) → x < S → first_unmarked S marks n x ≡ no_node → MetMarked n x
  search-none few zero x h q = met-none x
  search-none few (suc n) x h q = by (get_or marks x 0 ≟ 0) (search-none few n (following S x) (following-below S x h))
    where
      by : Dec (get_or marks x 0 ≡ 0)
          → (first_unmarked S marks n (following S x) ≡ no_node → MetMarked n (following S x))
          → MetMarked (suc n) x
      by (yes e) later = absurd (node-not-none few h (sym (first_unmarked-here S marks n x e) ∙ q))
      by (no e) later = met-one-more n x e (later (sym (first_unmarked-next S marks n x e) ∙ q))

-- ---- What allocate gives.
module _ {ws : List ℕ} (W : WellLinked ws) {hint : ℕ} (low : hint < node_count ws) where
  pub allocate-first-free : allocate ws hint ≢ no_node → FirstFreeFrom ws hint (allocate ws hint)
  unfolding allocate
  allocate-first-free f =
      record {
        free = record { is_node = is_node; unreached = λ c. reachable-marked W c k.no_mark };
        steps = k.steps;
        few_steps = k.few_steps;
        there = k.there;
        passed = λ j b. marked-reachable W (k.passed j b);
      }
    where
      k : FirstUnmarked (node_count ws) (marked ws).marks (node_count ws) hint (allocate ws hint)
      k = search-found (node_count ws) (marked ws).marks (node_count ws) hint f

      is_node : allocate ws hint < node_count ws
      is_node = rw k.there (nth-node (node_count ws) k.steps hint low)

  pub allocate-none : allocate ws hint ≡ no_node → (x : ℕ) → x < node_count ws → Reachable ws x
  unfolding allocate
  allocate-none q x h =
      let m = nth-meets (node_count ws) hint x low h in
      rw m.2 at
      (marked-reachable W
      (search-none (node_count ws) (marked ws).marks W.few (node_count ws) hint low q m.0 m.1))

  pub allocate-not-kept : allocate ws hint ≢ no_node → keeps ws (allocate ws hint) ≡ false
  allocate-not-kept f = unreached-not-kept W (allocate-first-free f).free.unreached
