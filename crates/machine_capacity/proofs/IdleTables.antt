-- A table that our calls lead to, at a moment when no task is in a call: the main list and the hats of each lane, and
-- what is held.
use mathlib.Core.Path.{◌≡◌, refl, sym, ap, ◌∙◌, subst}
use mathlib.Core.Logic.{◌≢◌, inl, inr}
use mathlib.Core.List.{List, []}
use Prim.Native.Nat.{ℕ, zero, suc, ◌+◌, ◌-◌, ◌≤◌, ◌<◌}
use native.Mathlib.Omega.{arith}
use lib.ListN.{length, get_or}
use Rattle.machine.specs.Choice.{◌≟◌, ◌<?◌}
use Rattle.machine.specs.Sides.{Side, left, right, opposite}
use Rattle.machine.specs.Values.{bag, N, X, Y}
use Rattle.machine.specs.Tasks.{Task, fresh, no_node, Register, register, in_a, in_b, in_c, in_d}
use Rattle.machine.specs.Table.{lane_count, hat, link, value, task}
use Rattle.machine.specs.Reach.{Reachable, from_hat, from_register, along}
use Rattle.machine.specs.Begun.{Begun}
use Rattle.machine_capacity.specs.NoLeak.{
  Idle,
  list_size,
  MainList,
  HatPlace,
  in_list,
  beside,
  LaneShape,
  list_of,
  IdleLane,
  Held,
  listed,
  under_hat,
  IdleTable,
}
use Rattle.machine.proofs.Basics.Contradiction.{less?}
use Rattle.machine.proofs.Words.Memories.{viewed}
use Rattle.machine.proofs.Shape.ShapeLaws.{well-shaped}
use Rattle.machine.proofs.Shape.TickKeeps.{idle-fresh}
use Rattle.machine.proofs.SlotRule.Reached.{keeps-reachable}
use Rattle.machine.proofs.Linearizability.Model.Classes.{Class, main}
use Rattle.machine.proofs.Linearizability.Model.Structure.{Structure}
use Rattle.machine.proofs.Linearizability.Model.Segments.{segment, segment-length}
use Rattle.machine.proofs.Linearizability.Model.Held.{main-held}
use Rattle.machine.proofs.Linearizability.Model.Invariant.{Lane}
use Rattle.machine.proofs.Linearizability.Calls.Agreement.{Agrees, lanes-are-rows}
use Rattle.machine.proofs.Linearizability.Calls.MadeTicks.{well-linked, kept-roots}
use Rattle.machine.proofs.Linearizability.Corollaries.{begun-agrees}
use Rattle.machine_capacity.proofs.Removers.{duty, Mark, end, cut, marked, Cuts, CutBy}
use Rattle.machine_capacity.proofs.BegunRemovers.{begun-removers}

segment-at : (f : ℕ → ℕ) (i k j : ℕ) → j < k → get_or (segment f i k) j 0 ≡ f (i + j)
unfolding segment
segment-at f i zero j h = absurd (omega arith)
segment-at f i (suc k) zero h = let e : i + 0 ≡ i = omega arith in rw e
segment-at f i (suc k) (suc j) h =
    let e : i + suc j ≡ suc i + j = omega arith in rw e (segment-at f (suc i) k j (omega arith))

-- Lane ℓ is there: its list is main.
pub record LaneThere (ws : List ℕ) (class : ℕ → Class) (ℓ : ℕ) (I : LaneShape) : Type 0 where
  pub idle : IdleLane ws ℓ I
  pub is-main : (i : ℕ) → i < list_of I → class (I.at i) ≡ main ℓ

same_lane : {l j : ℕ} → main l ≡ main j → l ≡ j
same_lane e = cc

-- ---- What is reachable: in a list, or under a hat and leading into the list only.
data Spot (ws : List ℕ) (shape : ℕ → LaneShape) (x : ℕ) : Type 0 where
  in-main : (ℓ : ℕ) → ℓ < lane_count ws → (i : ℕ) → i < list_of (shape ℓ) → (shape ℓ).at i ≡ x → Spot ws shape x
  hung :
      (ℓ : ℕ)
      → ℓ < lane_count ws
      → (z : Side) (i : ℕ)
      → i < list_of (shape ℓ)
      → hat ws ℓ z ≡ x
      → value ws x ≡ Y z
      → link ws z x ≡ no_node
      → link ws (opposite z) x ≡ (shape ℓ).at i
      → Spot ws shape x

module _ (ws : List ℕ) (shape : ℕ → LaneShape) (lanes : (ℓ : ℕ) → ℓ < lane_count ws → IdleLane ws ℓ (shape ℓ)) where
  -- A hat is at a place of the list, or beside it.
  placed : (ℓ : ℕ) → ℓ < lane_count ws → (z : Side) (i j : ℕ) {c : ℕ}
      → i < list_of (shape ℓ)
      → j < list_of (shape ℓ)
      → HatPlace ws ℓ z ((shape ℓ).at i) ((shape ℓ).at j) c
      → Spot ws shape (hat ws ℓ z)
  placed ℓ h z i j hi hj (in_list e) = in-main ℓ h i hi (sym e)
  placed ℓ h z i j hi hj (beside y o e) = hung ℓ h z j hj refl y o e

  hat-spot : (ℓ : ℕ) → ℓ < lane_count ws → (z : Side) → Spot ws shape (hat ws ℓ z)
  hat-spot ℓ h left =
      let I = shape ℓ in
      let M = (lanes ℓ h).main_list in
      placed ℓ h left (I.l - 1) I.l (omega (arith, M.some_left, M.some_right)) (omega (arith, M.some_right))
      (lanes ℓ h).left_hat
  hat-spot ℓ h right =
      let I = shape ℓ in
      let M = (lanes ℓ h).main_list in
      placed ℓ h right (I.l + length I.bags) (I.l + length I.bags - 1) (omega (arith, M.some_right))
      (omega (arith, M.some_left, M.some_right)) (lanes ℓ h).right_hat

  from-main : (z : Side) (ℓ : ℕ) → ℓ < lane_count ws → (i x : ℕ) → i < list_of (shape ℓ) → (shape ℓ).at i ≡ x
      → link ws z x ≢ no_node
      → Spot ws shape (link ws z x)
  from-main left ℓ h zero x l e ne =
      absurd (ne (ap (link ws left) (sym e) ∙ (lanes ℓ h).main_list.left_end))
  from-main left ℓ h (suc i) x l e ne =
      in-main ℓ h i (omega arith) (sym ((lanes ℓ h).main_list.leads_left i l) ∙ ap (link ws left) e)
  from-main right ℓ h i x l e ne =
      elim (less? (suc i) (list_of (shape ℓ))) [
        | inl k ↦ in-main ℓ h (suc i) k (sym ((lanes ℓ h).main_list.leads_right i k) ∙ ap (link ws right) e)
        | inr k ↦
            absurd (ne (ap (link ws right) (sym e) ∙ (lanes ℓ h).main_list.right_end i (omega arith)))
      ]

  from-hung : (s z : Side) (ℓ : ℕ) → ℓ < lane_count ws → (i x : ℕ)
      → i < list_of (shape ℓ)
      → link ws z x ≡ no_node
      → link ws (opposite z) x ≡ (shape ℓ).at i
      → link ws s x ≢ no_node
      → Spot ws shape (link ws s x)
  from-hung left left ℓ h i x l o e ne = absurd (ne o)
  from-hung left right ℓ h i x l o e ne = in-main ℓ h i l (sym e)
  from-hung right left ℓ h i x l o e ne = in-main ℓ h i l (sym e)
  from-hung right right ℓ h i x l o e ne = absurd (ne o)

  link-spot : (z : Side) (x : ℕ) → Spot ws shape x → link ws z x ≢ no_node → Spot ws shape (link ws z x)
  link-spot z x (in-main ℓ h i l e) ne = from-main z ℓ h i x l e ne
  link-spot z x (hung ℓ h y i l q v o e) ne = from-hung z y ℓ h i x l o e ne

module _ {ws : List ℕ} (B : Begun ws) (idle_now : Idle ws) where
  A : Agrees ws (begun-agrees B).0
  A = (begun-agrees B).1

  tasks-fresh : (k : ℕ) → task ws k ≡ fresh
  tasks-fresh k = idle-fresh ws (well-shaped ws A.accepted.length_passes A.accepted.shape_passes) k (idle_now k)

  -- ---- No task is a remover, so X and Y lead nowhere.
  no-cutter : {s : Side} (μ : Mark) (n l : ℕ) → CutBy (task ws) s μ n l → ⊥
  no-cutter μ n l c = subst (λ (t : Task). Cuts (duty t.step) μ t n l) (tasks-fresh c.cutter) c.cuts

  leads-nowhere : (s : Side) (μ : Mark) (n : ℕ) → value ws n ≡ marked μ s → link ws s n ≡ no_node
  leads-nowhere s μ n v = elim (link ws s n ≟ no_node) [ yes e ↦ e | no ne ↦ absurd (no-cutter μ n _ (cutter s v ne)) ]
    where
      cutter : (s : Side) → value ws n ≡ marked μ s → link ws s n ≢ no_node → CutBy (task ws) s μ n (link ws s n)
      cutter left v ne = ((begun-removers B).has-removers left).remover μ n v ne
      cutter right v ne = ((begun-removers B).has-removers right).remover μ n v ne

  -- ---- Lane ℓ. The places, by the indices of the structure: a the left hat's, b the right hat's, n the last.
  module _ (ℓ : ℕ) (is_lane : ℓ < lane_count ws) where
    abbrev row : List ℕ
    row = (begun-agrees B).0.bags ℓ

    L : Lane ℓ right left (viewed right ws) A.class ((begun-agrees B).0.bags ℓ)
    L = A.invariant.lanes.lane ℓ is_lane

    open L.frame use {at, n, a, b, bags}

    S : Structure ℓ right left (viewed right ws) A.class L.frame
    S = L.structure

    abbrev place : ℕ → ℕ
    place = at

    abbrev left_spare : ℕ
    left_spare = suc a

    abbrev right_spare : ℕ
    right_spare = suc (n - b)

    a<b : a < b
    a<b = S.a<b

    b≤n : b ≤ n
    b≤n = S.b≤n

    row-length : length row ≡ b - suc a
    row-length = ap length (sym L.row_is) ∙ segment-length bags (suc a) (b - suc a)

    bags-end : left_spare + length row ≡ b
    bags-end = omega (arith, row-length, a<b)

    size_is : list_size left_spare row right_spare ≡ suc n
    size_is = omega (arith, bags-end, b≤n)

    bag-there : (i : ℕ) → i < length row → value ws (place (left_spare + i)) ≡ bag (get_or row i 0)
    bag-there i h =
        let v = S.values.bag-between (left_spare + i) (omega arith) (omega (arith, bags-end)) in
        let at_i = segment-at bags (suc a) (b - suc a) i (omega (arith, row-length)) in
        let same : get_or row i 0 ≡ bags (left_spare + i) =
        ap (λ (l : List ℕ). get_or l i 0) (sym L.row_is) ∙ at_i in
        v ∙ ap bag (sym same)

    N-there : (i : ℕ) → suc i < right_spare → value ws (place (left_spare + length row + i)) ≡ N right
    N-there i h =
        S.values.N-near (left_spare + length row + i) (omega (arith, bags-end)) (omega (arith, bags-end, b≤n))

    X-there : (i : ℕ) → suc i ≡ right_spare → value ws (place (left_spare + length row + i)) ≡ X right
    X-there i h =
        let e : left_spare + length row + i ≡ n = omega (arith, bags-end, b≤n) in
        ap (λ (j : ℕ). value ws (place j)) e ∙ S.values.X-last

    first-nowhere : link ws left (place 0) ≡ no_node
    first-nowhere = leads-nowhere left end (place 0) S.values.X-first

    last-nowhere : link ws right (place n) ≡ no_node
    last-nowhere = leads-nowhere right end (place n) S.values.X-last

    apart : (i j : ℕ) → i ≤ n → j ≤ n → place i ≡ place j → i ≡ j
    apart i j hi hj e = cc (S.main_list.index_at i hi, S.main_list.index_at j hj)

    idle-main-list : MainList ws place left_spare row right_spare
    idle-main-list =
        record {
          some_left = omega arith;
          some_right = omega arith;
          X-left = S.values.X-first;
          N-left = λ i h q. S.values.N-far i h (omega arith);
          bag_at = bag-there;
          N-right = N-there;
          X-right = X-there;
          leads_right = λ i h. S.links.links-out i (omega (arith, size_is));
          leads_left = λ i h. S.links.links-in i (omega (arith, size_is));
          left_end = first-nowhere;
          right_end =
              λ i h.
              let e : i ≡ n = omega (arith, size_is) in
              ap (λ (j : ℕ). link ws right (place j)) e ∙ last-nowhere;
          different = λ i j hi hj e. apart i j (omega (arith, size_is)) (omega (arith, size_is)) e;
        }

    -- ---- The hats.
    idle-left-hat : (x : ℕ) × HatPlace ws ℓ left (place (left_spare - 1)) (place left_spare) x
    idle-left-hat =
        let e : suc a - 1 ≡ a = omega arith in
        subst (λ (i : ℕ). (x : ℕ) × HatPlace ws ℓ left (place i) (place left_spare) x) (sym e)
        (elim S.far-hat [
          | inl h ↦ (0, in_list h)
          | inr c ↦ (1, beside c.is-Y (leads-nowhere left cut (hat ws ℓ left) c.is-Y) c.leads-back)
        ])

    idle-right-hat :
        (y : ℕ) × HatPlace ws ℓ right (place (left_spare + length row)) (place (left_spare + length row - 1)) y
    idle-right-hat =
        subst (λ (i : ℕ). (y : ℕ) × HatPlace ws ℓ right (place i) (place (i - 1)) y) (sym bags-end)
        (elim (S.near-hat (b - 1) (omega (arith, a<b))) [
          | inl h ↦ (0, in_list h)
          | inr c ↦ (1, beside c.is-Y (leads-nowhere right cut (hat ws ℓ right) c.is-Y) c.leads-back)
        ])

    -- All of the list is reachable.
    idle-reached : (i : ℕ) → i < list_size left_spare row right_spare → Reachable ws (place i)
    idle-reached i h =
        let W = well-linked A.accepted in
        let is-main = S.main_list.is-main i (omega (arith, size_is)) in
        keeps-reachable W (main-held S (kept-roots A.accepted).closed is_lane (place i) is-main)

    abbrev lane-shape : LaneShape
    lane-shape =
        record {
          at = place;
          l = left_spare;
          bags = row;
          r = right_spare;
          x = idle-left-hat.0;
          y = idle-right-hat.0;
        }

    lane-there : LaneThere ws A.class ℓ lane-shape
    lane-there =
        record {
          idle =
              record {
                lane_is = lanes-are-rows A ℓ (subst (λ (k : ℕ). ℓ < k) (sym A.same-lanes) is_lane);
                main_list = idle-main-list;
                left_hat = idle-left-hat.1;
                right_hat = idle-right-hat.1;
                reached = idle-reached;
              };
          is-main = λ i h. S.main_list.is-main i (omega (arith, size_is));
        }

  -- ---- All lanes; past them, any shape.
  no-shape : LaneShape
  no-shape = record { at = λ i. 0; l = 0; bags = []; r = 0; x = 0; y = 0 }

  abbrev shape_if : (ℓ : ℕ) → Dec (ℓ < lane_count ws) → LaneShape
  shape_if ℓ (yes h) = lane-shape ℓ h
  shape_if ℓ (no h) = no-shape

  abbrev shape : ℕ → LaneShape
  shape ℓ = shape_if ℓ (ℓ <? lane_count ws)

  there : (ℓ : ℕ) → ℓ < lane_count ws → LaneThere ws A.class ℓ (shape ℓ)
  there ℓ is_lane = go (ℓ <? lane_count ws)
    where
      go : (d : Dec (ℓ < lane_count ws)) → LaneThere ws A.class ℓ (shape_if ℓ d)
      go (yes h) = lane-there ℓ h
      go (no h) = absurd (h is_lane)

  fresh-register : (k : ℕ) (r : Register) → register (task ws k) r ≡ no_node
  fresh-register k r = ap (λ (t : Task). register t r) (tasks-fresh k) ∙ of-fresh r
    where
      of-fresh : (r : Register) → register fresh r ≡ no_node
      of-fresh in_a = refl
      of-fresh in_b = refl
      of-fresh in_c = refl
      of-fresh in_d = refl

  reachable-spot : {x : ℕ} → Reachable ws x → Spot ws shape x
  reachable-spot (from_hat ℓ z h) = hat-spot ws shape (λ j q. (there j q).idle) ℓ h z
  reachable-spot (from_register k r h ne) = absurd (ne (fresh-register k r))
  reachable-spot (along {x} z c ne) = link-spot ws shape (λ j q. (there j q).idle) z x (reachable-spot c) ne

  idle-held : (x : ℕ) → Reachable ws x → (ℓ : ℕ) × (ℓ < lane_count ws) × Held ws ℓ (shape ℓ) x
  idle-held x c =
      elim (reachable-spot c) [
        | in-main ℓ h i l e ↦ (ℓ, h, listed i l e)
        | hung ℓ h z i l q v o e ↦ (ℓ, h, under_hat z q v)
      ]

  pub idle-table : IdleTable ws
  idle-table =
      record {
        shape = shape;
        idle_lane = λ ℓ h. (there ℓ h).idle;
        held = idle-held;
        lists_apart = λ ℓ j p q hℓ hj hp hq e. same_lane (cc ((there ℓ hℓ).is-main p hp, (there j hj).is-main q hq));
      }
