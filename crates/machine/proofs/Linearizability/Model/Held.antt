-- A set of nodes that is closed under links and holds the hats of the lanes holds main of each.
use mathlib.Core.Path.{◌≡◌, refl}
use mathlib.Core.Logic.{◌≢◌, inl, inr}
use mathlib.Core.Bool.{Bool, true}
use Prim.Native.Nat.{ℕ, suc, zero, ◌+◌, ◌-◌, ◌≤◌, ◌<◌}
use native.Mathlib.Omega.{arith}
use Rattle.machine.specs.Sides.{Side, left, right}
use Rattle.machine.specs.Tasks.{no_node}
use Rattle.machine.proofs.Words.Memories.{View, swapped, view}
use Rattle.machine.proofs.Linearizability.Model.Classes.{Class, main}
use Rattle.machine.proofs.Linearizability.Model.Structure.{Frame, Linked, Structure}
use Rattle.machine.proofs.Linearizability.Model.Nodes.{at_some}

abbrev pub Closed : (ℕ → Bool) → (ℕ → ℕ) → Type 0
Closed held link = (x : ℕ) → held x ≡ true → link x ≢ no_node → held (link x) ≡ true

-- The set is closed under links and has the hats of the L lanes.
pub record ClosedSet (L : ℕ) (held : ℕ → Bool) (m : View) : Type 0 where
  pub out-closed : Closed held m.out
  pub inn-closed : Closed held m.inn
  pub hats-held : (l : ℕ) (z : Side) → l < L → held (m.hats l z) ≡ true

pub all_closed : {L : ℕ} {m : View} → ClosedSet L (λ _. true) m
all_closed = record { out-closed = λ _ _ _. refl; inn-closed = λ _ _ _. refl; hats-held = λ _ _ _. refl }

pub closed-swapped : {L : ℕ} {held : ℕ → Bool} {m : View} → ClosedSet L held m → ClosedSet L held (swapped m)
closed-swapped H = record { out-closed = H.inn-closed; inn-closed = H.out-closed; hats-held = H.hats-held }

pub closed-view : (s : Side) {L : ℕ} {held : ℕ → Bool} {M : View} → ClosedSet L held M → ClosedSet L held (view s M)
closed-view left H = closed-swapped H
closed-view right H = H

-- One node of a linked line brings all of them.
module _ {L : ℕ} {held : ℕ → Bool} {m : View} (H : ClosedSet L held m)
    {at : ℕ → ℕ} {n : ℕ} (K : Linked m.out m.inn at n) (some : (i : ℕ) → i ≤ n → at i ≢ no_node) where
  held-outward : (i d : ℕ) → i + d ≤ n → held (at i) ≡ true → held (at (i + d)) ≡ true
  held-outward i zero h r = let e : i + 0 ≡ i = omega arith in cc
  held-outward i (suc d) h r =
      let e : i + suc d ≡ suc (i + d) = omega arith in
      let l = K.links-out (i + d) (omega arith) in
      let before = held-outward i d (omega arith) r in
      cc (H.out-closed (at (i + d)) before (λ z. some (suc (i + d)) (omega arith) (cc)))

  held-inward : (d : ℕ) → d ≤ n → held (at d) ≡ true → held (at 0) ≡ true
  held-inward zero h r = r
  held-inward (suc d) h r =
      let l = K.links-in d h in
      held-inward d (omega arith) (cc (H.inn-closed (at (suc d)) r (λ z. some d (omega arith) (cc))))

  pub line-held : (i j : ℕ) → i ≤ n → j ≤ n → held (at i) ≡ true → held (at j) ≡ true
  line-held i j h l r =
      let e : 0 + j ≡ j = omega arith in
      cc (held-outward 0 j (omega arith) (held-inward i h r))

module _ {ℓ : ℕ} {s o : Side} {m : View} {class : ℕ → Class} {F : Frame} (S : Structure ℓ s o m class F) where
  open F use {at, index, n, b}

  pub main-held : {L : ℕ} {held : ℕ → Bool} → ClosedSet L held m → ℓ < L → (x : ℕ) → class x ≡ main ℓ → held x ≡ true
  main-held {L} {held} H is_lane x h =
      elim (S.near-hat j e) [
        | inl q ↦ from b S.b≤n (cc (H.hats-held ℓ s is_lane))
        | inr y ↦ from j l (cc (H.inn-closed (m.hats ℓ s) (H.hats-held ℓ s is_lane) (λ z. at_some S j l (cc))))
      ]
    where
      j : ℕ
      j = b - 1

      e : suc j ≡ b
      e = omega (arith, S.a<b)

      l : j ≤ n
      l = omega (arith, S.b≤n)

      from : (i : ℕ) → i ≤ n → held (at i) ≡ true → held x ≡ true
      from i p r =
          let k = S.main_list.index-le x h in
          cc (line-held H S.links (at_some S) i (index x) p k r, S.main_list.at-index x h)
