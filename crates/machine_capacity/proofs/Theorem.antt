-- No node leaks: at a table with no task in a call, all nodes but the lists' and those beside them are free.
use mathlib.Core.Path.{◌≡◌, sym, ap, ◌∙◌, subst}
use mathlib.Core.Logic.{◌≢◌, inl, inr}
use mathlib.Core.Bool.{Bool, true, false, not}
use mathlib.Core.List.{List}
use Prim.Native.Nat.{ℕ, suc, ◌+◌, ◌-◌, ◌<◌}
use native.Mathlib.Omega.{arith}
use lib.ListN.{length}
use Rattle.machine.specs.Sides.{Side, left, right, opposite}
use Rattle.machine.specs.Values.{Y}
use Rattle.machine.specs.Table.{node_count, lane_count, hat, link, value}
use Rattle.machine.specs.Reach.{Free}
use Rattle.machine_capacity.specs.NoLeak.{
  list_size,
  MainList,
  HatPlace,
  in_list,
  beside,
  LaneShape,
  list_of,
  Held,
  listed,
  under_hat,
  IdleTable,
  total,
  AllCounted,
  NoLeak,
}
use Rattle.machine.proofs.Basics.Contradiction.{clash, refute, less?}
use Rattle.machine.proofs.SlotRule.Reached.{
  WellLinked,
  reachable-node,
  keeps,
  reachable-keeps,
  keeps-reachable,
  keeps-hat,
}
use Rattle.machine.proofs.Linearizability.Calls.MadeTicks.{well-linked}
use Rattle.machine.proofs.Linearizability.Corollaries.{begun-agrees}
use Rattle.machine_capacity.proofs.IdleTables.{idle-table}
use Rattle.machine_capacity.proofs.Counting.{
  count,
  true-or-false,
  count-all,
  add_lanes,
  lanes-is,
  lanes_keep,
  lanes-have,
  lanes_count,
  total-two,
  count-decides,
}

-- ---- No node of the list is Y.
pub list-not-Y : {ws : List ℕ} {at : ℕ → ℕ} {l : ℕ} {bags : List ℕ} {r : ℕ} → MainList ws at l bags r
    → (i : ℕ)
    → i < list_size l bags r
    → (z : Side)
    → value ws (at i) ≢ Y z
list-not-Y {ws} {at} {l} {bags} {r} M i h z v =
    elim (less? i l) [
      | inl p ↦
          elim (less? 0 i) [
            | inl q ↦ refute (cc (M.N-left i q p))
            | inr q ↦ let e : i ≡ 0 = omega arith in refute (cc M.X-left)
          ]
      | inr p ↦
          elim (less? i (l + length bags)) [
            | inl q ↦
                let e : l + (i - l) ≡ i = omega arith in
                refute (cc (M.bag_at (i - l) (omega arith)))
            | inr q ↦
                let e : l + length bags + (i - (l + length bags)) ≡ i = omega arith in
                elim (less? (suc (i - (l + length bags))) r) [
                  | inl k ↦ refute (cc (M.N-right (i - (l + length bags)) k))
                  | inr k ↦ refute (cc (M.X-right (i - (l + length bags)) (omega arith)))
                ]
          ]
    ]

-- ---- A hat is in the list, or holds a node beside it.
by_place : {Q : Type 0} {ws : List ℕ} {ℓ : ℕ} {s : Side} {spare next c : ℕ} → HatPlace ws ℓ s spare next c
    → (hat ws ℓ s ≡ spare → Q)
    → (0 < c → Q)
    → Q
by_place (in_list e) f g = f e
by_place (beside y o i) f g = g (omega arith)

-- The node beside the list.
record Beside (ws : List ℕ) (ℓ : ℕ) (s : Side) (next i : ℕ) : Type 0 where
  pub is-Y : value ws (hat ws ℓ s) ≡ Y s
  pub leads : link ws (opposite s) (hat ws ℓ s) ≡ next
  pub only_one : i ≡ 0

is-beside : {ws : List ℕ} {ℓ : ℕ} {s : Side} {spare next c : ℕ} → HatPlace ws ℓ s spare next c → (i : ℕ) → i < c
    → Beside ws ℓ s next i
is-beside (in_list e) i h = absurd (omega arith)
is-beside (beside y o e) i h = record { is-Y = y; leads = e; only_one = omega arith }

-- ---- The count.
module _ {ws : List ℕ} (W : WellLinked ws) (T : IdleTable ws) where
  abbrev S : ℕ
  S = node_count ws

  abbrev L : ℕ
  L = lane_count ws

  abbrev I : ℕ → LaneShape
  I = T.shape

  abbrev is_free : ℕ → Bool
  is_free x = not (keeps ws x)

  free-test : (x : ℕ) → is_free x ≡ false → keeps ws x ≡ true
  free-test x h = true-or-false (keeps ws x) (λ e. e) (λ e. clash (cc))

  held_test : (x : ℕ) → keeps ws x ≡ true → is_free x ≡ false
  held_test x h = cc

  -- How many nodes beside the list a hat holds, and where they lead.
  abbrev besides : Side → ℕ → ℕ
  besides left ℓ = (I ℓ).x
  besides right ℓ = (I ℓ).y

  abbrev next_to : Side → ℕ → ℕ
  next_to left ℓ = (I ℓ).l
  next_to right ℓ = (I ℓ).l + length (I ℓ).bags - 1

  abbrev spare_of : Side → ℕ → ℕ
  spare_of left ℓ = (I ℓ).l - 1
  spare_of right ℓ = (I ℓ).l + length (I ℓ).bags

  place_of : (z : Side) (ℓ : ℕ) → ℓ < L
      → HatPlace ws ℓ z ((I ℓ).at (spare_of z ℓ)) ((I ℓ).at (next_to z ℓ)) (besides z ℓ)
  place_of left ℓ h = (T.idle_lane ℓ h).left_hat
  place_of right ℓ h = (T.idle_lane ℓ h).right_hat

  next-listed : (z : Side) (ℓ : ℕ) → ℓ < L → next_to z ℓ < list_of (I ℓ)
  next-listed left ℓ h = let M = (T.idle_lane ℓ h).main_list in omega (arith, M.some_right)
  next-listed right ℓ h = let M = (T.idle_lane ℓ h).main_list in omega (arith, M.some_left, M.some_right)

  spare-listed : (z : Side) (ℓ : ℕ) → ℓ < L → spare_of z ℓ < list_of (I ℓ)
  spare-listed left ℓ h = let M = (T.idle_lane ℓ h).main_list in omega (arith, M.some_left, M.some_right)
  spare-listed right ℓ h = let M = (T.idle_lane ℓ h).main_list in omega (arith, M.some_right)

  node-beside : (z : Side) (ℓ i : ℕ) → ℓ < L → i < besides z ℓ → Beside ws ℓ z ((I ℓ).at (next_to z ℓ)) i
  node-beside z ℓ i h l = is-beside (place_of z ℓ h) i l

  -- ---- The test, passed by the nodes of the lists too, then by those beside them: then all pass.
  abbrev with_lists : ℕ → Bool
  with_lists = add_lanes is_free (λ ℓ. (I ℓ).at) (λ ℓ. list_of (I ℓ)) L

  abbrev with_left : ℕ → Bool
  with_left = add_lanes with_lists (λ ℓ i. hat ws ℓ left) (λ ℓ. besides left ℓ) L

  abbrev with_right : ℕ → Bool
  with_right = add_lanes with_left (λ ℓ i. hat ws ℓ right) (λ ℓ. besides right ℓ) L

  count-lists : count with_lists S ≡ count is_free S + total (λ ℓ. list_of (I ℓ)) L
  count-lists =
      lanes_count is_free (λ ℓ. (I ℓ).at) (λ ℓ. list_of (I ℓ)) S L
      (λ ℓ i h l. reachable-node W ((T.idle_lane ℓ h).reached i l))
      (λ ℓ i h l. held_test ((I ℓ).at i) (reachable-keeps W ((T.idle_lane ℓ h).reached i l)))
      apart
    where
      apart : (ℓ j a b : ℕ) → ℓ < L → j < L → a < list_of (I ℓ) → b < list_of (I j) → (I ℓ).at a ≡ (I j).at b
          → (ℓ ≡ j) × (a ≡ b)
      apart ℓ j a b hℓ hj ha hb e =
          let same = T.lists_apart ℓ j a b hℓ hj ha hb e in
          let b_here : b < list_of (I ℓ) = subst (λ (k : ℕ). b < list_of (I k)) (sym same) hb in
          let at_here : (I ℓ).at a ≡ (I ℓ).at b = subst (λ (k : ℕ). (I ℓ).at a ≡ (I k).at b) (sym same) e in
          (same, (T.idle_lane ℓ hℓ).main_list.different a b ha b_here at_here)

  -- A node beside a list is held, and in no list.
  beside-fails : (z : Side) (ℓ i : ℕ) → ℓ < L → i < besides z ℓ → with_lists (hat ws ℓ z) ≡ false
  beside-fails z ℓ i h l =
      true-or-false (with_lists (hat ws ℓ z))
      (λ q.
      elim (lanes-is is_free (λ ℓ. (I ℓ).at) (λ ℓ. list_of (I ℓ)) L (hat ws ℓ z) q) [
        | inl g ↦ clash (cc (held_test (hat ws ℓ z) (keeps-hat W ℓ z h)))
        | inr (j, k, (p, m, e)) ↦
            absurd (list-not-Y (T.idle_lane j k).main_list p m z (ap (value ws) e ∙ (node-beside z ℓ i h l).is-Y))
      ])
      (λ q. q)

  -- Two hats of a side do not hold the same one: it leads to one list.
  hats-apart : (z : Side) (ℓ j a b : ℕ) → ℓ < L → j < L → a < besides z ℓ → b < besides z j
      → hat ws ℓ z ≡ hat ws j z
      → (ℓ ≡ j) × (a ≡ b)
  hats-apart z ℓ j a b hℓ hj ha hb e =
      let x = node-beside z ℓ a hℓ ha in
      let y = node-beside z j b hj hb in
      let same = sym x.leads ∙ ap (link ws (opposite z)) e ∙ y.leads in (
        T.lists_apart ℓ j (next_to z ℓ) (next_to z j) hℓ hj (next-listed z ℓ hℓ) (next-listed z j hj) same,
        x.only_one ∙ sym y.only_one,
      )

  -- So a node with Y is under one hat of its side.
  pub one-hat : (z : Side) (ℓ j : ℕ) → ℓ < lane_count ws → j < lane_count ws → value ws (hat ws ℓ z) ≡ Y z
      → hat ws ℓ z ≡ hat ws j z
      → ℓ ≡ j
  one-hat z ℓ j hℓ hj y e =
      by_place (place_of z ℓ hℓ) (in-no-list ℓ hℓ (hat ws ℓ z) y) (λ a.
      by_place (place_of z j hj) (in-no-list j hj (hat ws j z) (cc)) (λ b. (hats-apart z ℓ j 0 0 hℓ hj a b e).0))
    where
      in-no-list : {Q : Type 0} (i : ℕ) → i < L → (x : ℕ) → value ws x ≡ Y z → x ≡ (I i).at (spare_of z i) → Q
      in-no-list i h x v q =
          absurd (list-not-Y (T.idle_lane i h).main_list (spare_of z i) (spare-listed z i h) z
          (ap (value ws) (sym q) ∙ v))

  count_left : count with_left S ≡ count with_lists S + total (λ ℓ. besides left ℓ) L
  count_left =
      lanes_count with_lists (λ ℓ i. hat ws ℓ left) (λ ℓ. besides left ℓ) S L
      (λ ℓ i h l. W.hats ℓ left h) (beside-fails left) (hats-apart left)

  right-fails : (ℓ i : ℕ) → ℓ < L → i < besides right ℓ → with_left (hat ws ℓ right) ≡ false
  right-fails ℓ i h l =
      true-or-false (with_left (hat ws ℓ right))
      (λ q.
      elim (lanes-is with_lists (λ ℓ i. hat ws ℓ left) (λ ℓ. besides left ℓ) L (hat ws ℓ right) q) [
        | inl g ↦ clash (cc (beside-fails right ℓ i h l))
        | inr (j, k, (p, m, e)) ↦ clash (cc ((node-beside left j p k m).is-Y, (node-beside right ℓ i h l).is-Y))
      ])
      (λ q. q)

  count-right : count with_right S ≡ count with_left S + total (λ ℓ. besides right ℓ) L
  count-right =
      lanes_count with_left (λ ℓ i. hat ws ℓ right) (λ ℓ. besides right ℓ) S L
      (λ ℓ i h l. W.hats ℓ right h) right-fails (hats-apart right)

  -- ---- All pass.
  from-lists : (x : ℕ) → with_lists x ≡ true → with_right x ≡ true
  from-lists x h =
      lanes_keep with_left (λ ℓ i. hat ws ℓ right) (λ ℓ. besides right ℓ) L x
      (lanes_keep with_lists (λ ℓ i. hat ws ℓ left) (λ ℓ. besides left ℓ) L x h)

  list-passes : (ℓ i : ℕ) → ℓ < L → i < list_of (I ℓ) → with_right ((I ℓ).at i) ≡ true
  list-passes ℓ i h l =
      from-lists ((I ℓ).at i) (lanes-have is_free (λ ℓ. (I ℓ).at) (λ ℓ. list_of (I ℓ)) L ℓ i h l)

  beside-passes : (z : Side) (ℓ : ℕ) → ℓ < L → 0 < besides z ℓ → with_right (hat ws ℓ z) ≡ true
  beside-passes left ℓ h l =
      lanes_keep with_left (λ ℓ i. hat ws ℓ right) (λ ℓ. besides right ℓ) L (hat ws ℓ left)
      (lanes-have with_lists (λ ℓ i. hat ws ℓ left) (λ ℓ. besides left ℓ) L ℓ 0 h l)
  beside-passes right ℓ h l = lanes-have with_left (λ ℓ i. hat ws ℓ right) (λ ℓ. besides right ℓ) L ℓ 0 h l

  hat-passes : (z : Side) (ℓ : ℕ) → ℓ < L → with_right (hat ws ℓ z) ≡ true
  hat-passes z ℓ h =
      by_place (place_of z ℓ h)
      (λ e. ap with_right e ∙ list-passes ℓ (spare_of z ℓ) h (spare-listed z ℓ h))
      (beside-passes z ℓ h)

  all_pass : (x : ℕ) → with_right x ≡ true
  all_pass x =
      true-or-false (keeps ws x)
      (λ e. go (T.held x (keeps-reachable W e)))
      (λ e. from-lists x (lanes_keep is_free (λ ℓ. (I ℓ).at) (λ ℓ. list_of (I ℓ)) L x (cc)))
    where
      go : (ℓ : ℕ) × (ℓ < L) × Held ws ℓ (I ℓ) x → with_right x ≡ true
      go (ℓ, h, listed i l e) = ap with_right (sym e) ∙ list-passes ℓ i h l
      go (ℓ, h, under_hat z e v) = ap with_right (sym e) ∙ hat-passes z ℓ h

  is-free : (x : ℕ) → x < node_count ws → is_free x ≡ true → Free ws x
  is-free x l h = record { is_node = l; unreached = λ c. refute (cc (reachable-keeps W c)) }

  not_free : (x : ℕ) → x < node_count ws → is_free x ≡ false → Free ws x → ⊥
  not_free x l h F = F.unreached (keeps-reachable W (free-test x h))

  counted : AllCounted ws T
  counted =
      let all = count-all with_right S (λ x _. all_pass x) in
      let in_all = total-two (λ ℓ. list_of (I ℓ)) (λ ℓ. (I ℓ).x + (I ℓ).y) L in
      let beside = total-two (λ ℓ. (I ℓ).x) (λ ℓ. (I ℓ).y) L in
      record {
        free = count is_free S;
        free_nodes = count-decides (Free ws) is_free S is-free not_free;
        all_counted = omega (arith, count-lists, count_left, count-right);
      }

pub no-leak : NoLeak
no-leak ws B idle_now =
    let T = idle-table B idle_now in
    (T, counted (well-linked (begun-agrees B).1.accepted) T)
