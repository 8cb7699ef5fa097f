-- The free nodes after a call: all nodes are counted before and after it, and only its own lane has other numbers.
use mathlib.Core.Path.{◌≡◌, refl, ap, subst}
use mathlib.Core.Logic.{◌≢◌, inl, inr}
use mathlib.Core.List.{List}
use Prim.Native.Nat.{ℕ, zero, suc, ◌+◌, ◌≤◌, ◌<◌}
use native.Mathlib.Omega.{arith}
use lib.ListN.{length}
use Rattle.machine.specs.Sides.{Side, left, right, opposite}
use Rattle.machine.specs.Table.{node_count, lane_count}
use Rattle.machine.specs.Reach.{Reachable, Free}
use Rattle.machine_capacity.specs.NoLeak.{
  LaneShape,
  lane_size,
  IdleTable,
  CountBelow,
  none_below,
  one_more,
  not_this,
  total,
  AllCounted,
}
use Rattle.machine_capacity.specs.Alone.{CallOutcome, spare_of, spur_of, SameNumbers, LeavesIdle}
use Rattle.machine.proofs.Basics.Contradiction.{equal?}
use Rattle.machine_capacity.proofs.Counting.{total-same}
use Rattle.machine_capacity.proofs.Theorem.{no-leak}

-- ---- Sums that differ at one place.
total-one : (f h : ℕ → ℕ) (n ℓ : ℕ) → ℓ < n → ((j : ℕ) → j < n → j ≢ ℓ → f j ≡ h j)
    → total f n + h ℓ ≡ total h n + f ℓ
unfolding total
total-one f h zero ℓ l same = absurd (omega arith)
total-one f h (suc n) ℓ l same =
    elim (equal? n ℓ) [
      | inl e ↦
          let below = total-same f h n (λ j q. same j (omega arith) (λ u. omega arith)) in
          let a : f n ≡ f ℓ = ap f e in
          let b : h n ≡ h ℓ = ap h e in
          omega arith
      | inr ne ↦
          let below = total-one f h n ℓ (omega arith) (λ j q. same j (omega arith)) in
          let here = same n (omega arith) ne in
          omega arith
    ]

-- A lane's size, seen from a side.
size-from : (s : Side) (I : LaneShape)
    → lane_size I
    ≡ spare_of s I + spur_of s I + (spare_of (opposite s) I + spur_of (opposite s) I + length I.bags)
size-from left I = omega arith
size-from right I = omega arith

module _ {ws vs : List ℕ} (T : IdleTable ws) (C : AllCounted ws T) (ℓ : ℕ) (is_lane : ℓ < lane_count ws) (s : Side)
    (o : CallOutcome) (K : LeavesIdle ws vs T ℓ s o) where
  same_size : (I J : LaneShape) → SameNumbers I J → lane_size J ≡ lane_size I
  same_size I J N =
      let a = N.same_spare left in
      let b = N.same_spare right in
      let c = N.same_spur left in
      let d = N.same_spur right in
      let e = ap length N.same-bags in
      omega arith

  -- What the own lane has more, is not free.
  pub balance : (T' : IdleTable vs) (C' : AllCounted vs T')
      → C'.free + (o.spare + o.spur + length o.bags)
      ≡ C.free + (spare_of s (T.shape ℓ) + spur_of s (T.shape ℓ) + length (T.shape ℓ).bags)
  balance T' C' =
      let nodes = K.same_nodes in
      let before = C.all_counted in
      let f : ℕ → ℕ = λ j. lane_size (T.shape j) in
      let h : ℕ → ℕ = λ j. lane_size (T'.shape j) in
      let after : C'.free + total h (lane_count ws) ≡ node_count vs =
      subst (λ (n : ℕ). C'.free + total h n ≡ node_count vs) K.same-lanes C'.all_counted in
      let one = total-one h f (lane_count ws) ℓ is_lane (λ j l ne. same_size _ _ (K.others T' j l ne)) in
      let a = K.own_spare T' in
      let b = K.own_spur T' in
      let c = ap length (K.own_bags T') in
      let d = K.far_spare T' in
      let e = K.far_spur T' in
      let x = size-from s (T.shape ℓ) in
      let y = size-from s (T'.shape ℓ) in
      omega arith

  -- The table afterwards, counted.
  pub counted-then : AllCounted vs (no-leak vs K.begun K.idle_now).0
  counted-then = (no-leak vs K.begun K.idle_now).1

  pub sum_then : counted-then.free + (o.spare + o.spur + length o.bags)
      ≡ C.free + (spare_of s (T.shape ℓ) + spur_of s (T.shape ℓ) + length (T.shape ℓ).bags)
  sum_then = balance (no-leak vs K.begun K.idle_now).0 counted-then

-- ---- How many are free.
pub none_free : {vs : List ℕ} {n c : ℕ} → CountBelow (Free vs) n c → ((x : ℕ) → x < n → Reachable vs x) → c ≡ 0
none_free none_below all = refl
none_free (one_more {n} p C) all = absurd (p.unreached (all n (omega arith)))
none_free (not_this p C) all = none_free C (λ x l. all x (omega arith))

-- All but one are in use.
pub one_free : {vs : List ℕ} {n c : ℕ} (y : ℕ) → CountBelow (Free vs) n c
    → ((x : ℕ) → x < n → x ≢ y → Reachable vs x)
    → c ≤ 1
one_free y none_below all = omega arith
one_free y (not_this p C) all = one_free y C (λ x l. all x (omega arith))
one_free y (one_more {n} p C) all =
    elim (equal? n y) [
      | inl e ↦ let z = none_free C (λ x l. all x (omega arith) (λ q. omega arith)) in omega arith
      | inr ne ↦ absurd (p.unreached (all n (omega arith) ne))
    ]

-- One is free.
pub some-free : {vs : List ℕ} {n c : ℕ} (y : ℕ) → CountBelow (Free vs) n c → y < n → Free vs y → 1 ≤ c
some-free y none_below l F = absurd (omega arith)
some-free y (one_more p C) l F = omega arith
some-free y (not_this {n} p C) l F =
    elim (equal? y n) [
      | inl e ↦ absurd (p (subst (Free _) e F))
      | inr ne ↦ some-free y C (omega arith) F
    ]
