-- A pop alone: the bag at its end, or "empty".
use mathlib.Core.Path.{◌≡◌, refl, sym, ap, ◌∙◌, subst}
use mathlib.Core.Logic.{◌≢◌, inl, inr}
use mathlib.Core.List.{List}
use Prim.Native.Nat.{ℕ, zero, suc, ◌+◌, ◌-◌, ◌<◌}
use native.Mathlib.Omega.{arith}
use lib.ListN.{length, get_or}
use Rattle.machine.specs.Outcomes.Answer.{Answer, Bag, Empty}
use Rattle.machine.specs.Choice.{◌≟◌}
use Rattle.machine.specs.Sides.{Side, left, right, opposite}
use Rattle.machine.specs.Values.{Value, never, bag, N, X, Y, ◌≟ᵛ◌}
use Rattle.machine.specs.Operations.{pop}
use Rattle.machine.specs.Steps.{line40, line42, line48, line51}
use Rattle.machine.specs.Tasks.{Task, no_node, goto, with_a, with_b, with_value}
use Rattle.machine.specs.Table.{node_count, growth, lane_count, hat, link, value}
use Rattle.machine.specs.Lines.{Effect, next, after_read, act}
use Rattle.machine.specs.Calls.{begun_task}
use Rattle.machine.specs.Begun.{Begun}
use Rattle.machine.specs.Reach.{from_hat}
use Rattle.machine_capacity.specs.NoLeak.{HatPlace, in_list, beside, LaneShape, IdleLane, IdleTable}
use Rattle.machine_capacity.specs.Alone.{spare_of, spur_of}
use Rattle.machine.proofs.Basics.Contradiction.{clash, refute, less?}
use Rattle.machine.proofs.Basics.Updates.{update, update_same, update_other, update_hat, update_hat-same}
use Rattle.machine.proofs.Words.Memories.{View, viewed}
use Rattle.machine.proofs.Linearizability.Model.Sides.{sides}
use Rattle.machine.proofs.Lines.Connectives.{ok-if, ok-through, ok-swap}
use Rattle.machine_capacity.proofs.Alone.Ends.{
  OtherEnd,
  other-hat,
  EndIs,
  spare_at,
  inner_at,
  idle-end,
  inner-leads,
  inner-listed,
  leads-in,
}
use Rattle.machine_capacity.proofs.Alone.Runs.{Leads, Answered, Next, going, ending, line-leads}
use Rattle.machine_capacity.proofs.Alone.Left.{
  OtherKept,
  Left,
  val_is,
  hat_is,
  same-either,
  left-unchanged,
  reached-some,
}

-- What stands before the spare nodes of an end: a bag, or a mark of the other side.
data Inner (z : Side) (v : Value) : Type 0 where
  a-bag : (b : ℕ) → v ≡ bag b → Inner z v
  far-N : v ≡ N (opposite z) → Inner z v
  far-X : v ≡ X (opposite z) → Inner z v

inner-value : {ws : List ℕ} {ℓ : ℕ} {I : LaneShape} → IdleLane ws ℓ I → (z : Side)
    → Inner z (value ws (inner_at z I))
inner-value {ws} {ℓ} {I} K left =
    let M = K.main_list in
    let e : I.l + 0 ≡ I.l = omega arith in
    elim (less? 0 (length I.bags)) [
      | inl h ↦ a-bag (get_or I.bags 0 0) (ap (λ (j : ℕ). value ws (I.at j)) (sym e) ∙ M.bag_at 0 h)
      | inr h ↦
          let q : I.l + length I.bags + 0 ≡ I.l = omega arith in
          elim (less? 1 I.r) [
            | inl u ↦ far-N (ap (λ (j : ℕ). value ws (I.at j)) (sym q) ∙ M.N-right 0 u)
            | inr u ↦ far-X (ap (λ (j : ℕ). value ws (I.at j)) (sym q) ∙ M.X-right 0 (omega (arith, M.some_right)))
          ]
    ]
inner-value {ws} {ℓ} {I} K right =
    let M = K.main_list in
    elim (less? 0 (length I.bags)) [
      | inl h ↦
          let e : I.l + length I.bags - 1 ≡ I.l + (length I.bags - 1) = omega arith in
          a-bag (get_or I.bags (length I.bags - 1) 0)
          (ap (λ (j : ℕ). value ws (I.at j)) e ∙ M.bag_at (length I.bags - 1) (omega arith))
      | inr h ↦
          elim (less? 0 (I.l - 1)) [
            | inl u ↦
                let e : I.l + length I.bags - 1 ≡ I.l - 1 = omega arith in
                far-N (ap (λ (j : ℕ). value ws (I.at j)) e ∙ M.N-left (I.l - 1) u (omega (arith, M.some_left)))
            | inr u ↦
                let e : I.l + length I.bags - 1 ≡ 0 = omega (arith, M.some_left) in
                far-X (ap (λ (j : ℕ). value ws (I.at j)) e ∙ M.X-left)
          ]
    ]

-- The hat leads inward to it, wherever the hat is.
pub hat-inward : {ws : List ℕ} {ℓ : ℕ} {I : LaneShape} → IdleLane ws ℓ I → (z : Side)
    → link ws (opposite z) (hat ws ℓ z) ≡ inner_at z I
hat-inward {ws} {ℓ} {I} K z = go (idle-end K z).hat-place
  where
    go : {y : ℕ} → HatPlace ws ℓ z (spare_at z I 0) (inner_at z I) y → link ws (opposite z) (hat ws ℓ z) ≡ inner_at z I
    go (in_list e) = ap (link ws (opposite z)) e ∙ leads-in K z
    go (beside v o i) = i

module _ {ws : List ℕ} (B : Begun ws) (T : IdleTable ws) (k ℓ : ℕ) (is_lane : ℓ < lane_count ws) (s : Side) where
  abbrev I : LaneShape
  I = T.shape ℓ

  K : IdleLane ws ℓ (T.shape ℓ)
  K = T.idle_lane ℓ is_lane

  abbrev m : View
  m = viewed s ws

  abbrev H : ℕ
  H = hat ws ℓ s

  abbrev p : ℕ
  p = inner_at s I

  abbrev r : ℕ
  r = spare_of s I

  -- What it answers and leaves.
  pub data PopLeaves (a : Answer) (vs : List ℕ) : Type 0 where
    gives-bag : (b : ℕ) → a ≡ Bag b → Left ws T ℓ s (suc (spare_of s (T.shape ℓ))) 0 vs → PopLeaves a vs
    says-empty : a ≡ Empty → Left ws T ℓ s (spare_of s (T.shape ℓ)) (spur_of s (T.shape ℓ)) vs → PopLeaves a vs

  abbrev Leads' : Task → View → Type 0
  Leads' = Leads k ℓ s (node_count ws) (lane_count ws) (growth ws) PopLeaves

  abbrev Next' : Effect → Type 0
  Next' = Next k ℓ s (node_count ws) (lane_count ws) (growth ws) PopLeaves m

  abbrev Answered' : View → List ℕ → Type 0
  Answered' = Answered s (node_count ws) (lane_count ws) (growth ws)

  p-some : p ≢ no_node
  p-some = reached-some B (K.reached _ (inner-listed K s))

  p-behind : link ws (opposite s) H ≡ p
  p-behind = hat-inward K s

  -- ---- "Empty": all is as it was.
  unchanged : {vs : List ℕ} → Answered' m vs → Left ws T ℓ s (spare_of s (T.shape ℓ)) (spur_of s (T.shape ℓ)) vs
  unchanged A =
      left-unchanged T ℓ is_lane s A

  -- ---- A bag: its node is spare now.
  module _ {b : ℕ} (p-bag : value ws p ≡ bag b) where
    abbrev m' : View
    m' =
        record {
          out = link ws s;
          inn = link ws (opposite s);
          val = update (value ws) p (N s);
          hats = update_hat (hat ws) ℓ s p;
        }

    popped : {vs : List ℕ} → Answered' m' vs → Left ws T ℓ s (suc (spare_of s (T.shape ℓ))) 0 vs
    popped {vs} A =
        record {
          begun = A.begun;
          idle_now = A.idle_now;
          same_nodes = A.same_nodes;
          same_growth = A.same_growth;
          same-lanes = A.same-lanes;
          at = at';
          inner = 0;
          own-end = own;
          others-kept = λ j z h other. kept j z h other;
        }
      where
        sees : viewed s vs ≡ m'
        sees = A.sees

        at' : ℕ → ℕ
        at' zero = p
        at' (suc i) = spare_at s I i

        -- Marks are where they were.
        same-val : (x : ℕ) → value ws x ≢ bag b → value vs x ≡ value ws x
        same-val x ne = val_is s vs sees x ∙ update_other (value ws) p (N s) x (λ e. ne (ap (value ws) e ∙ p-bag))

        same-link : (x : ℕ) (z : Side) → link vs z x ≡ link ws z x
        same-link x z = same-either s vs sees ws x refl refl z

        -- A spare node holds no bag.
        no-bag : (j : ℕ) (z : Side) (h : j < lane_count ws) (i : ℕ) → i < spare_of z (T.shape j)
            → value ws (spare_at z (T.shape j) i) ≢ bag b
        no-bag j z h i l v =
            let S = (idle-end (T.idle_lane j h) z).spares in
            elim (less? (suc i) (spare_of z (T.shape j))) [
              | inl u ↦ refute (cc (S.N-before i u))
              | inr u ↦ let e : suc i ≡ spare_of z (T.shape j) = omega arith in refute (cc (S.X-last i e))
            ]

        kept : (j : ℕ) (z : Side) → j < lane_count ws → OtherEnd ℓ (opposite s) j z → OtherKept ws vs T j z
        kept j z h other =
            record {
              same-hat = hat_is s vs sees j z ∙ other-hat (hat ws) p (sides s) other;
              same_value = λ i l. same-val _ (no-bag j z h i l);
              same-link = λ i l. same-link _ z;
              same-inner = same-link _ z;
              hat-value = λ v. same-val (hat ws j z) (λ e. refute (cc)) ∙ v;
              hat-links = λ _ y. same-link _ y;
            }

        own : EndIs vs ℓ s at' 0 (suc r) 0
        own =
            let S = (idle-end K s).spares in
            let hat-now : hat vs ℓ s ≡ p = hat_is s vs sees ℓ s ∙ update_hat-same (hat ws) ℓ s p in
            let p-now : value vs p ≡ N s = val_is s vs sees p ∙ update_same (value ws) p (N s) in
            record {
              spares =
                  record {
                    some = omega arith;
                    N-before = N-now;
                    X-last = X-now;
                    leads = leads-now;
                  };
              leads-out = λ v. clash (cc);
              hat-place = in_list hat-now;
            }
          where
            N-now : (i : ℕ) → suc i < suc r → value vs (at' i) ≡ N s
            N-now zero l = val_is s vs sees p ∙ update_same (value ws) p (N s)
            N-now (suc i) l =
                same-val _ (no-bag ℓ s is_lane i (omega arith)) ∙ (idle-end K s).spares.N-before i (omega arith)

            X-now : (i : ℕ) → suc i ≡ suc r → value vs (at' i) ≡ X s
            X-now zero l = absurd (omega (arith, (idle-end K s).spares.some))
            X-now (suc i) l =
                same-val _ (no-bag ℓ s is_lane i (omega arith)) ∙ (idle-end K s).spares.X-last i (omega arith)

            leads-now : (i : ℕ) → suc i < suc r → link vs s (at' i) ≡ at' (suc i)
            leads-now zero l = same-link p s ∙ inner-leads K s
            leads-now (suc i) l = same-link _ s ∙ (idle-end K s).spares.leads i (omega arith)

  -- ---- The ticks.
  H-some : hat ws ℓ s ≢ no_node
  H-some = reached-some B (from_hat ℓ s is_lane)

  abbrev q : ℕ
  q = link ws (opposite s) (hat ws ℓ s)

  q-some : q ≢ no_node
  q-some e = p-some (sym p-behind ∙ e)

  module _ (v : ℕ) where
    abbrev t1 : Task
    t1 = goto (with_a (begun_task ℓ pop s v) H) line40

    abbrev t2 : Task
    t2 = goto (with_b t1 q) line42

    at_51 : (b : ℕ) → value ws q ≡ bag b → Leads' (goto (with_value t2 (bag b)) line51) m
    unfolding act
    at_51 b q-bag =
        line-leads k ℓ s _ _ _ _ (λ f.
        ok-through Next' (λ e. absurd (q-some e)) (λ _.
        ok-swap Next' _ _
        (λ _ _.
        ending (λ e. clash (cc)) (λ vs A.
        gives-bag b refl
        (popped (ap (value ws) (sym p-behind) ∙ q-bag)
        (subst
        (λ (x : ℕ).
        Answered'
        (record {
          out = link ws s;
          inn = link ws (opposite s);
          val = update (value ws) x (N s);
          hats = update_hat (hat ws) ℓ s x;
        }) vs) p-behind A))))
        (λ ne. absurd (ne (refl, q-bag)))))

    at_48 : (u : Value) → value ws q ≡ u → Leads' (goto (with_value t2 u) line48) m
    unfolding act
    at_48 u q-is =
        line-leads k ℓ s _ _ _ _ (λ f.
        ok-through Next' (λ e. absurd (q-some e)) (λ _.
        ok-swap Next' _ _ (λ _ _. ending (λ e. clash (cc)) (λ vs A. says-empty refl (unchanged A)))
        (λ ne. absurd (ne (refl, q-is)))))

    q-value : Inner s (value ws q)
    q-value = subst (λ (x : ℕ). Inner s (value ws x)) (sym p-behind) (inner-value K s)

    at-42 : Leads' t2 m
    unfolding act
    at-42 = line-leads k ℓ s _ _ _ _ (λ f. ok-through Next' (λ e. absurd (q-some e)) (λ _. by_value (value ws q) refl))
      where
        by_value : (u : Value) → value ws q ≡ u → Next' (next (with_value t2 u) (after_read (opposite s) u))
        by_value never e =
            elim q-value [ a-bag b x ↦ clash (cc) | far-N x ↦ clash (cc) | far-X x ↦ clash (cc) ]
        by_value (bag b) e = going refl (at_51 b e)
        by_value (N z) e =
            ok-if Next' (λ st. next (with_value t2 (N z)) st) (_ ≟ᵛ _) (λ _. going refl (at_48 (N z) e))
            (λ ne. elim q-value [ a-bag b x ↦ clash (cc) | far-N x ↦ absurd (ne (cc)) | far-X x ↦ clash (cc) ])
        by_value (X z) e =
            ok-if Next' (λ st. next (with_value t2 (X z)) st) (_ ≟ᵛ _) (λ _. going refl (at_48 (X z) e))
            (λ ne. elim q-value [ a-bag b x ↦ clash (cc) | far-N x ↦ clash (cc) | far-X x ↦ absurd (ne (cc)) ])
        by_value (Y z) e =
            elim q-value [ a-bag b x ↦ clash (cc) | far-N x ↦ clash (cc) | far-X x ↦ clash (cc) ]

    at-40 : Leads' t1 m
    unfolding act
    at-40 =
        line-leads k ℓ s _ _ _ _ (λ f.
        ok-through Next' (λ e. absurd (H-some e)) (λ _.
        ok-if Next' (λ st. next (with_b t1 q) st) (_ ≟ _) (λ e. absurd (q-some e)) (λ _. going refl at-42)))

    pub pop-leads : Leads' (begun_task ℓ pop s v) m
    unfolding act
    pop-leads = line-leads k ℓ s _ _ _ _ (λ f. going refl at-40)
