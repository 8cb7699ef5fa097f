-- The two ends of a lane in a table with no task in a call, seen from their sides; and that a table has just one such
-- number of spare nodes at an end.
use mathlib.Core.Path.{◌≡◌, refl, sym, ap, ◌∙◌, subst}
use mathlib.Core.Logic.{◌≢◌, ◌⊎◌, inl, inr}
use mathlib.Core.List.{List}
use Prim.Native.Nat.{ℕ, zero, suc, ◌+◌, ◌-◌, ◌≤◌, ◌<◌}
use native.Mathlib.Omega.{arith}
use lib.ListN.{length}
use Rattle.machine.specs.Sides.{Side, left, right, opposite}
use Rattle.machine.specs.Values.{N, X, Y}
use Rattle.machine.specs.Tasks.{no_node}
use Rattle.machine.specs.Table.{hat, link, value}
use Rattle.machine_capacity.specs.NoLeak.{MainList, HatPlace, in_list, beside, LaneShape, list_of, IdleLane}
use Rattle.machine_capacity.specs.Alone.{spare_of, spur_of}
use Rattle.machine.proofs.Basics.Contradiction.{refute, equal?, less?}
use Rattle.machine.proofs.Basics.Updates.{update_hat, update_hat-elsewhere}
use Rattle.machine.proofs.Linearizability.Model.Sides.{Opposite, update_hat-far}

-- Another end than the one of lane ℓ on the side whose opposite is o.
abbrev pub OtherEnd : (ℓ : ℕ) → (o : Side) → (j : ℕ) → (z : Side) → Type 0
OtherEnd ℓ o j z = (j ≢ ℓ) ⊎ (z ≡ o)

-- Its hat is not written with ours.
pub other-hat : (hats : ℕ → Side → ℕ) {ℓ : ℕ} {s o : Side} (v : ℕ) → Opposite s o → {j : ℕ} {z : Side}
    → OtherEnd ℓ o j z
    → update_hat hats ℓ s v j z ≡ hats j z
other-hat hats {ℓ} {s} {o} v w {j} {z} (inl ne) =
    ap (λ (f : Side → ℕ). f z) (update_hat-elsewhere hats ℓ s v j ne)
other-hat hats {ℓ} {s} {o} v w {j} {z} (inr e) =
    elim (equal? j ℓ) [
      | inl q ↦
          subst (λ (i : ℕ). update_hat hats ℓ s v i z ≡ hats i z) (sym q)
          (subst (λ (y : Side). update_hat hats ℓ s v ℓ y ≡ hats ℓ y) (sym e) (update_hat-far hats ℓ s o v w))
      | inr ne ↦ ap (λ (f : Side → ℕ). f z) (update_hat-elsewhere hats ℓ s v j ne)
    ]

-- c spare nodes of side z, from the innermost one outward.
pub record Spares (ws : List ℕ) (z : Side) (at : ℕ → ℕ) (c : ℕ) : Type 0 where
  pub some : 1 ≤ c
  pub N-before : (i : ℕ) → suc i < c → value ws (at i) ≡ N z
  pub X-last : (i : ℕ) → suc i ≡ c → value ws (at i) ≡ X z
  pub leads : (i : ℕ) → suc i < c → link ws z (at i) ≡ at (suc i)

-- An end of lane ℓ: inner is the node before its spare ones.
pub record EndIs (ws : List ℕ) (ℓ : ℕ) (z : Side) (at : ℕ → ℕ) (inner c y : ℕ) : Type 0 where
  pub spares : Spares ws z at c
  pub leads-out : value ws (hat ws ℓ z) ≡ Y z → link ws z inner ≡ at 0
  pub hat-place : HatPlace ws ℓ z (at 0) inner y

-- ---- Just one.
module _ {ws : List ℕ} {z : Side} {at at' : ℕ → ℕ} {c c' : ℕ} (S : Spares ws z at c) (S' : Spares ws z at' c')
    (same : at 0 ≡ at' 0) where
  same_at : (i : ℕ) → i < c → i < c' → at i ≡ at' i
  same_at zero l h = same
  same_at (suc i) l h =
      sym (S.leads i l) ∙ ap (link ws z) (same_at i (omega arith) (omega arith)) ∙ S'.leads i h

  no_longer : c < c' → ⊥
  no_longer l =
      let i : ℕ = c - 1 in
      let e : suc i ≡ c = omega (arith, S.some) in
      let q = same_at i (omega arith) (omega arith) in
      refute (cc (S.X-last i e, S'.N-before i (omega arith)))

pub not-Y : {ws : List ℕ} {z : Side} {at : ℕ → ℕ} {c : ℕ} → Spares ws z at c → value ws (at 0) ≢ Y z
not-Y {c = c} S v =
    elim (less? 1 c) [
      | inl l ↦ refute (cc (S.N-before 0 l))
      | inr l ↦ let e : 1 ≡ c = omega (arith, S.some) in refute (cc (S.X-last 0 e))
    ]

module _ {ws : List ℕ} {ℓ : ℕ} {z : Side} {at at' : ℕ → ℕ} {inner inner' c c' y y' : ℕ}
    (E : EndIs ws ℓ z at inner c y) (E' : EndIs ws ℓ z at' inner' c' y') where
  same_start : (at 0 ≡ at' 0) × (y ≡ y')
  same_start = go E.hat-place E'.hat-place
    where
      go : {n n' : ℕ} → HatPlace ws ℓ z (at 0) inner n → HatPlace ws ℓ z (at' 0) inner' n' → (at 0 ≡ at' 0) × (n ≡ n')
      go (in_list e) (in_list e') = (sym e ∙ e', refl)
      go (in_list e) (beside v o i) = absurd (not-Y E.spares (ap (value ws) (sym e) ∙ v))
      go (beside v o i) (in_list e) = absurd (not-Y E'.spares (ap (value ws) (sym e) ∙ v))
      go (beside v o i) (beside v' o' i') =
          (sym (E.leads-out v) ∙ ap (link ws z) (sym i ∙ i') ∙ E'.leads-out v', refl)

  pub same-spares : c ≡ c'
  same-spares =
      let q = same_start.0 in
      elim (less? c c') [
        | inl l ↦ absurd (no_longer E.spares E'.spares q l)
        | inr l ↦
            elim (less? c' c) [
              | inl k ↦ absurd (no_longer E'.spares E.spares (sym q) k)
              | inr k ↦ omega arith
            ]
      ]

  pub same-spurs : y ≡ y'
  same-spurs = same_start.1

-- The spur is there just where the hat is at a Y.
pub spur-by-hat : {ws : List ℕ} {ℓ : ℕ} {z : Side} {at : ℕ → ℕ} {inner c y : ℕ} → EndIs ws ℓ z at inner c y
    → (value ws (hat ws ℓ z) ≡ Y z → y ≡ 1)
    × (value ws (hat ws ℓ z) ≢ Y z → y ≡ 0)
    × (y ≤ 1)
spur-by-hat {ws} {ℓ} {z} {at} {inner} E = go E.hat-place
  where
    go : {y : ℕ} → HatPlace ws ℓ z (at 0) inner y
        → (value ws (hat ws ℓ z) ≡ Y z → y ≡ 1)
        × (value ws (hat ws ℓ z) ≢ Y z → y ≡ 0)
        × (y ≤ 1)
    go (in_list e) = ((λ u. absurd (not-Y E.spares (ap (value ws) (sym e) ∙ u))), (λ _. refl), omega arith)
    go (beside u o i) = ((λ _. refl), (λ ne. absurd (ne u)), omega arith)

-- ---- The ends of an idle lane.

-- The place in the list of the i-th spare node of a side, and of the node before them.
abbrev pub spare_place : Side → LaneShape → (i : ℕ) → ℕ
spare_place left I i = I.l - suc i
spare_place right I i = I.l + length I.bags + i

pub places-differ : (I : LaneShape) (s : Side) (i j : ℕ) → i < spare_of s I → j < spare_of s I
    → spare_place s I i ≡ spare_place s I j
    → i ≡ j
places-differ I left i j hi hj e = omega arith
places-differ I right i j hi hj e = omega arith

abbrev inner_place : Side → LaneShape → ℕ
inner_place left I = I.l
inner_place right I = I.l + length I.bags - 1

abbrev pub spare_at : Side → LaneShape → (i : ℕ) → ℕ
spare_at z I i = I.at (spare_place z I i)

abbrev pub inner_at : Side → LaneShape → ℕ
inner_at z I = I.at (inner_place z I)

module _ {ws : List ℕ} {ℓ : ℕ} {I : LaneShape} (K : IdleLane ws ℓ I) where
  M : MainList ws I.at I.l I.bags I.r
  M = K.main_list

  pub spare-listed : (z : Side) (i : ℕ) → i < spare_of z I → spare_place z I i < list_of I
  spare-listed left i l = omega (arith, M.some_right)
  spare-listed right i l = omega arith

  pub inner-listed : (z : Side) → inner_place z I < list_of I
  inner-listed left = omega (arith, M.some_right)
  inner-listed right = omega (arith, M.some_left, M.some_right)

  pub inner-leads : (z : Side) → link ws z (inner_at z I) ≡ spare_at z I 0
  inner-leads left =
      let e : I.l ≡ suc (I.l - 1) = omega (arith, M.some_left) in
      ap (λ (j : ℕ). link ws left (I.at j)) e ∙ M.leads_left (I.l - 1) (omega (arith, M.some_left, M.some_right))
  inner-leads right =
      let e : suc (I.l + length I.bags - 1) ≡ I.l + length I.bags + 0 = omega (arith, M.some_left) in
      M.leads_right (I.l + length I.bags - 1) (omega (arith, M.some_left, M.some_right)) ∙ ap I.at e

  pub idle-end : (z : Side) → EndIs ws ℓ z (spare_at z I) (inner_at z I) (spare_of z I) (spur_of z I)
  idle-end left =
      record {
        spares =
            record {
              some = M.some_left;
              N-before = λ i h. M.N-left (I.l - suc i) (omega arith) (omega arith);
              X-last =
                  λ i h.
                  let e : I.l - suc i ≡ 0 = omega arith in
                  ap (λ (j : ℕ). value ws (I.at j)) e ∙ M.X-left;
              leads =
                  λ i h.
                  let e : I.l - suc i ≡ suc (I.l - suc (suc i)) = omega arith in
                  ap (λ (j : ℕ). link ws left (I.at j)) e
                  ∙ M.leads_left (I.l - suc (suc i)) (omega (arith, M.some_right));
            };
        leads-out = λ _. inner-leads left;
        hat-place = K.left_hat;
      }
  idle-end right =
      let e0 : I.l + length I.bags + 0 ≡ I.l + length I.bags = omega arith in
      record {
        spares =
            record {
              some = M.some_right;
              N-before = M.N-right;
              X-last = M.X-right;
              leads =
                  λ i h.
                  let e : I.l + length I.bags + suc i ≡ suc (I.l + length I.bags + i) = omega arith in
                  M.leads_right (I.l + length I.bags + i) (omega arith) ∙ ap I.at (sym e);
            };
        leads-out = λ _. inner-leads right;
        hat-place =
            subst (λ (j : ℕ). HatPlace ws ℓ right (I.at j) (inner_at right I) I.y) (sym e0) K.right_hat;
      }

  -- The last spare node leads to none, and the first one inward to the node before.
  pub last_none : (z : Side) (i : ℕ) → suc i ≡ spare_of z I → link ws z (spare_at z I i) ≡ no_node
  last_none left i h = let e : I.l - suc i ≡ 0 = omega arith in ap (λ (j : ℕ). link ws left (I.at j)) e ∙ M.left_end
  last_none right i h = M.right_end (I.l + length I.bags + i) (omega arith)

  pub leads-in : (z : Side) → link ws (opposite z) (spare_at z I 0) ≡ inner_at z I
  leads-in left =
      let e : suc (I.l - 1) ≡ I.l = omega (arith, M.some_left) in
      M.leads_right (I.l - 1) (omega (arith, M.some_left, M.some_right)) ∙ ap I.at e
  leads-in right =
      let e : I.l + length I.bags + 0 ≡ suc (I.l + length I.bags - 1) = omega (arith, M.some_left) in
      ap (λ (j : ℕ). link ws left (I.at j)) e
      ∙ M.leads_left (I.l + length I.bags - 1) (omega (arith, M.some_left, M.some_right))

-- ---- An end whose nodes are as they were.
pub record EndKept (ws vs : List ℕ) (ℓ : ℕ) (z : Side) (at : ℕ → ℕ) (inner c : ℕ) : Type 0 where
  pub same-hat : hat vs ℓ z ≡ hat ws ℓ z
  pub same_value : (i : ℕ) → i < c → value vs (at i) ≡ value ws (at i)
  pub same-link : (i : ℕ) → i < c → link vs z (at i) ≡ link ws z (at i)
  pub same-inner : link vs z inner ≡ link ws z inner
  pub hat-value : value ws (hat ws ℓ z) ≡ Y z → value vs (hat ws ℓ z) ≡ Y z
  pub hat-links : value ws (hat ws ℓ z) ≡ Y z → (y : Side) → link vs y (hat ws ℓ z) ≡ link ws y (hat ws ℓ z)

pub end_kept : {ws vs : List ℕ} {ℓ : ℕ} {z : Side} {at : ℕ → ℕ} {inner c y : ℕ} → EndIs ws ℓ z at inner c y
    → EndKept ws vs ℓ z at inner c
    → EndIs vs ℓ z at inner c y
end_kept {ws} {vs} {ℓ} {z} {at} {inner} {c} {y} E K =
    record {
      spares =
          record {
            some = E.spares.some;
            N-before = λ i h. K.same_value i (omega arith) ∙ E.spares.N-before i h;
            X-last = λ i h. K.same_value i (omega arith) ∙ E.spares.X-last i h;
            leads = λ i h. K.same-link i (omega arith) ∙ E.spares.leads i h;
          };
      leads-out = λ v. K.same-inner ∙ E.leads-out (was-Y E.hat-place v);
      hat-place = go E.hat-place;
    }
  where
    was-Y : {y : ℕ} → HatPlace ws ℓ z (at 0) inner y → value vs (hat vs ℓ z) ≡ Y z → value ws (hat ws ℓ z) ≡ Y z
    was-Y (in_list e) v =
        ap (value ws) e ∙ sym (K.same_value 0 E.spares.some) ∙ ap (value vs) (sym (K.same-hat ∙ e)) ∙ v
    was-Y (beside u o i) v = u

    go : {y : ℕ} → HatPlace ws ℓ z (at 0) inner y → HatPlace vs ℓ z (at 0) inner y
    go (in_list e) = in_list (K.same-hat ∙ e)
    go (beside v o i) =
        beside (ap (value vs) K.same-hat ∙ K.hat-value v)
        (ap (link vs z) K.same-hat ∙ K.hat-links v z ∙ o)
        (ap (link vs (opposite z)) K.same-hat ∙ K.hat-links v (opposite z) ∙ i)
