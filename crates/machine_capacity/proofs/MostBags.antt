-- How many bags there are room for at every moment: the nodes of all lists are different, and the two ends of each
-- carry no bag.
use mathlib.Core.Path.{◌≡◌, refl, sym, ap, ◌∙◌, subst}
use mathlib.Core.Bool.{false}
use mathlib.Core.List.{List}
use Prim.Native.Nat.{ℕ, suc, ◌+◌, ◌*◌, ◌-◌, ◌≤◌, ◌<◌}
use native.Mathlib.Omega.{arith}
use lib.ListN.{length}
use Rattle.machine.specs.Choice.{◌<?◌}
use Rattle.machine.specs.Sides.{left, right}
use Rattle.machine.specs.Table.{node_count, lane_count}
use Rattle.machine.specs.Row.{Row}
use Rattle.machine.specs.Twice.{all_bags}
use Rattle.machine_capacity.specs.NoLeak.{total}
use Rattle.machine_capacity.specs.Capacity.{MostBags}
use Rattle.machine.proofs.Words.Memories.{viewed}
use Rattle.machine.proofs.Linearizability.Model.Classes.{main}
use Rattle.machine.proofs.Linearizability.Model.Structure.{Frame, Structure}
use Rattle.machine.proofs.Linearizability.Model.Segments.{segment-length}
use Rattle.machine.proofs.Linearizability.Model.Invariant.{row_of}
use Rattle.machine.proofs.Linearizability.Calls.Reading.{main-is-node}
use Rattle.machine.proofs.Linearizability.Calls.Agreement.{Agrees, all-lanes-are-rows}
use Rattle.machine.proofs.Linearizability.Corollaries.{begun-agrees}
use Rattle.machine_capacity.proofs.Counting.{
  add_lanes,
  lanes_count,
  count-le,
  total-two,
  total-le,
  length-rows,
  total-const,
}
use Rattle.machine_capacity.proofs.Alone.Left.{same_some}

same_lane : {l j : ℕ} → main l ≡ main j → l ≡ j
same_lane e = cc

module _ {ws : List ℕ} {ρ : Row} (A : Agrees ws ρ) where
  abbrev L : ℕ
  L = lane_count ws

  -- The frame of a lane; past the lanes, any.
  record FrameOf (ℓ : ℕ) (F : Frame) : Type 0 where
    pub structure : Structure ℓ right left (viewed right ws) A.class F
    pub row_is : row_of F ≡ ρ.bags ℓ

  frame_if : (ℓ : ℕ) → Dec (ℓ < L) → (F : Frame) × (ℓ < L → FrameOf ℓ F)
  frame_if ℓ (yes h) =
      let N = A.invariant.lanes.lane ℓ h in
      (N.frame, (λ _. record { structure = N.structure; row_is = N.row_is }))
  frame_if ℓ (no h) =
      (record { at = λ i. 0; index = λ x. 0; n = 0; a = 0; b = 0; bags = λ i. 0 }, (λ l. absurd (h l)))

  abbrev frame : ℕ → Frame
  frame ℓ = (frame_if ℓ (ℓ <? L)).0

  there : (ℓ : ℕ) → ℓ < L → FrameOf ℓ (frame ℓ)
  there ℓ h = (frame_if ℓ (ℓ <? L)).1 h

  is-main : (ℓ i : ℕ) → ℓ < L → i < suc (frame ℓ).n → A.class ((frame ℓ).at i) ≡ main ℓ
  is-main ℓ i h l = (there ℓ h).structure.main_list.is-main i (omega arith)

  apart : (ℓ j a b : ℕ) → ℓ < L → j < L → a < suc (frame ℓ).n → b < suc (frame j).n
      → (frame ℓ).at a ≡ (frame j).at b
      → (ℓ ≡ j) × (a ≡ b)
  apart ℓ j a b hℓ hj ha hb e =
      let same = same_lane (sym (is-main ℓ a hℓ ha) ∙ ap A.class e ∙ is-main j b hj hb) in
      let M = (there ℓ hℓ).structure.main_list in
      let b_here : b < suc (frame ℓ).n = subst (λ (k : ℕ). b < suc (frame k).n) (sym same) hb in
      let at_here : (frame ℓ).at a ≡ (frame ℓ).at b = subst (λ (k : ℕ). (frame ℓ).at a ≡ (frame k).at b) (sym same) e in
      (same, cc (M.index_at a (omega arith), M.index_at b (omega arith)))

  mains : total (λ ℓ. suc (frame ℓ).n) L ≤ node_count ws
  mains =
      let S = node_count ws in
      let counted =
      lanes_count (λ x. false) (λ ℓ. (frame ℓ).at) (λ ℓ. suc (frame ℓ).n) S L
      (λ ℓ i h l. main-is-node ws (A.invariant.lanes.lane ℓ h) ((frame ℓ).at i) (is-main ℓ i h l))
      (λ ℓ i h l. refl) apart in
      omega
      (arith, counted, count-le (add_lanes (λ x. false) (λ ℓ. (frame ℓ).at) (λ ℓ. suc (frame ℓ).n) L) S)

  row_fits : (ℓ : ℕ) → ℓ < L → length (ρ.bags ℓ) + 2 ≤ suc (frame ℓ).n
  row_fits ℓ h =
      let F = frame ℓ in
      let S = (there ℓ h).structure in
      let e = ap length (sym (there ℓ h).row_is) ∙ segment-length F.bags (suc F.a) (F.b - suc F.a) in
      omega (arith, S.a<b, S.b≤n)

  all_fit : length (all_bags ρ) + 2 * lane_count ws ≤ node_count ws
  all_fit =
      let lengths : ℕ → ℕ = λ ℓ. length (ρ.bags ℓ) in
      let e = length-rows ρ.bags ρ.lanes in
      let same = ap (total lengths) A.same-lanes in
      let both = total-two lengths (λ ℓ. 2) L in
      omega
      (arith, mains, total-le (λ ℓ. lengths ℓ + 2) (λ ℓ. suc (frame ℓ).n) L row_fits, total-const 2 L)

pub most-bags : MostBags
most-bags ws bags B is_all =
    let A = (begun-agrees B).1 in
    let same : all_bags (begun-agrees B).0 ≡ bags = same_some (sym (all-lanes-are-rows A) ∙ is_all) in
    subst (λ (l : List ℕ). length l + 2 * lane_count ws ≤ node_count ws) same (all_fit A)
