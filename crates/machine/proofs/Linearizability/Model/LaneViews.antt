-- A lane seen from either side: the row is reversed with it; and all lanes.
use mathlib.Core.Path.{◌≡◌, ap, ◌∙◌}
use mathlib.Core.List.{List, reverse}
use Prim.Native.Nat.{ℕ, suc, ◌+◌, ◌-◌, ◌≤◌, ◌<◌}
use native.Mathlib.Omega.{arith}
use Rattle.machine.specs.Sides.{Side, left, right, opposite}
use Rattle.machine.proofs.Words.Memories.{View, swapped, view}
use Rattle.machine.proofs.Linearizability.Model.Classes.{Class}
use Rattle.machine.proofs.Linearizability.Model.RowViews.{row_from}
use Rattle.machine.proofs.Linearizability.Model.Reversal.{reversed_frame, reversed}
use Rattle.machine.proofs.Linearizability.Model.Segments.{segment-reverse}
use Rattle.machine.proofs.Linearizability.Model.Invariant.{row_of, Lane, Lanes}

module _ {ℓ : ℕ} {s o : Side} {m : View} {class : ℕ → Class} {r : List ℕ} (N : Lane ℓ s o m class r) where
  open N.frame use {n, a, b, bags}

  row-reversed : row_of (reversed_frame N.frame) ≡ reverse r
  row-reversed =
      rw same_length
      (segment-reverse bags (reversed_frame N.frame).bags (suc a) (suc (n - b)) (b - suc a) same-bags
      ∙ ap reverse N.row_is)
    where
      l : a < b
      l = N.structure.a<b

      h : b ≤ n
      h = N.structure.b≤n

      same_length : (n - a) - suc (n - b) ≡ b - suc a
      same_length = omega (arith, l, h)

      same-bags : (x y : ℕ) → suc (x + y) ≡ b - suc a → bags (n - (suc (n - b) + x)) ≡ bags (suc a + y)
      same-bags x y q = ap bags (omega (arith, l, h))

  lane-reversed : Lane ℓ o s (swapped m) class (reverse r)
  lane-reversed =
      record { frame = reversed_frame N.frame; structure = reversed N.structure; row_is = row-reversed }

-- From the right to side s, and back.
pub lane-view : (s : Side) {ℓ : ℕ} {M : View} {class : ℕ → Class} {r : List ℕ}
    → Lane ℓ right left M class r
    → Lane ℓ s (opposite s) (view s M) class (row_from s r)
lane-view left N = lane-reversed N
lane-view right N = N

lane-unview : (s : Side) {ℓ : ℕ} {m : View} {class : ℕ → Class} {r : List ℕ}
    → Lane ℓ s (opposite s) m class r
    → Lane ℓ right left (view s m) class (row_from s r)
lane-unview left N = lane-reversed N
lane-unview right N = N

-- All lanes.
pub lanes-view : (s : Side) {L : ℕ} {M : View} {class : ℕ → Class} {r : ℕ → List ℕ}
    → Lanes L right left M class r
    → Lanes L s (opposite s) (view s M) class (λ l. row_from s (r l))
lanes-view s D = record { lane = λ l h. lane-view s (D.lane l h); below = D.below }

pub lanes-unview : (s : Side) {L : ℕ} {m : View} {class : ℕ → Class} {r : ℕ → List ℕ}
    → Lanes L s (opposite s) m class r
    → Lanes L right left (view s m) class (λ l. row_from s (r l))
lanes-unview s D = record { lane = λ l h. lane-unview s (D.lane l h); below = D.below }
