-- What a call alone leaves: its own end with its numbers, and all other ends as they were; so the five numbers of each
-- lane.
use mathlib.Core.Path.{◌≡◌, refl, sym, ap, ◌∙◌, subst}
use mathlib.Core.Logic.{◌≢◌, inl, inr}
use mathlib.Core.List.{List}
use mathlib.Core.Option.{some}
use Prim.Native.Nat.{ℕ, ◌<◌}
use Rattle.machine.specs.Sides.{Side, opposite}
use Rattle.machine.specs.Tasks.{no_node}
use Rattle.machine.specs.Table.{node_count, growth, lane_count, hat, link, value}
use Rattle.machine.specs.Calls.{lane}
use Rattle.machine.specs.Begun.{Begun}
use Rattle.machine.specs.Reach.{Reachable}
use Rattle.machine_capacity.specs.NoLeak.{Idle, IdleTable}
use Rattle.machine_capacity.specs.Alone.{CallOutcome, spare_of, spur_of, LeavesIdle}
use Rattle.machine.proofs.Words.Memories.{View, viewed}
use Rattle.machine.proofs.SlotRule.Reached.{WellLinked, reachable-node, node-not-none}
use Rattle.machine.proofs.Linearizability.Model.Sides.{sides}
use Rattle.machine.proofs.Linearizability.Calls.MadeTicks.{well-linked}
use Rattle.machine.proofs.Linearizability.Corollaries.{begun-agrees}
use Rattle.machine_capacity.proofs.Alone.Runs.{Answered}
use Rattle.machine_capacity.proofs.Alone.Ends.{
  OtherEnd,
  EndIs,
  same-spares,
  same-spurs,
  spare_at,
  inner_at,
  idle-end,
  EndKept,
  end_kept,
}

pub same_some : {T : Type 0} {x y : T} → some x ≡ some y → x ≡ y
same_some e = cc

-- ---- An end of a lane, all of whose nodes are as they were.
abbrev pub OtherKept : (ws vs : List ℕ) → IdleTable ws → (j : ℕ) → (z : Side) → Type 0
OtherKept ws vs T j z = EndKept ws vs j z (spare_at z (T.shape j)) (inner_at z (T.shape j)) (spare_of z (T.shape j))

-- The table that a call on side s of lane ℓ leaves, with r spare nodes and y beside the list at its end.
pub record Left (ws : List ℕ) (T : IdleTable ws) (ℓ : ℕ) (s : Side) (r y : ℕ) (vs : List ℕ) : Type 0 where
  pub begun : Begun vs
  pub idle_now : Idle vs
  pub same_nodes : node_count vs ≡ node_count ws
  pub same_growth : growth vs ≡ growth ws
  pub same-lanes : lane_count vs ≡ lane_count ws
  pub at : ℕ → ℕ
  pub inner : ℕ
  pub own-end : EndIs vs ℓ s at inner r y
  pub others-kept : (j : ℕ) (z : Side) → j < lane_count ws → OtherEnd ℓ (opposite s) j z → OtherKept ws vs T j z

module _ {ws vs : List ℕ} (T : IdleTable ws) (ℓ : ℕ) (is_lane : ℓ < lane_count ws) (s : Side) (o : CallOutcome)
    (K : Left ws T ℓ s o.spare o.spur vs) (own_row : lane vs ℓ ≡ some o.bags)
    (other-rows : (j : ℕ) → j < lane_count ws → j ≢ ℓ → lane vs j ≡ some (T.shape j).bags) where
  there : (j : ℕ) → j < lane_count ws → j < lane_count vs
  there j h = subst (λ (n : ℕ). j < n) (sym K.same-lanes) h

  kept-end : (j : ℕ) (z : Side) (h : j < lane_count ws) → OtherEnd ℓ (opposite s) j z
      → EndIs vs j z (spare_at z (T.shape j)) (inner_at z (T.shape j)) (spare_of z (T.shape j)) (spur_of z (T.shape j))
  kept-end j z h other = end_kept (idle-end (T.idle_lane j h) z) (K.others-kept j z h other)

  pub leaves-idle : LeavesIdle ws vs T ℓ s o
  leaves-idle =
      record {
        begun = K.begun;
        idle_now = K.idle_now;
        same_nodes = K.same_nodes;
        same_growth = K.same_growth;
        same-lanes = K.same-lanes;
        own_bags = λ T'. same_some (sym (T'.idle_lane ℓ (there ℓ is_lane)).lane_is ∙ own_row);
        own_spare = λ T'. same-spares (idle-end (T'.idle_lane ℓ (there ℓ is_lane)) s) K.own-end;
        own_spur = λ T'. same-spurs (idle-end (T'.idle_lane ℓ (there ℓ is_lane)) s) K.own-end;
        far_spare =
            λ T'. same-spares (idle-end (T'.idle_lane ℓ (there ℓ is_lane)) (opposite s))
            (kept-end ℓ (opposite s) is_lane (inr refl));
        far_spur =
            λ T'. same-spurs (idle-end (T'.idle_lane ℓ (there ℓ is_lane)) (opposite s))
            (kept-end ℓ (opposite s) is_lane (inr refl));
        others =
            λ T' j h ne.
            record {
              same-bags =
                  same_some (sym (T'.idle_lane j (there j h)).lane_is ∙ other-rows j h ne);
              same_spare = λ z. same-spares (idle-end (T'.idle_lane j (there j h)) z) (kept-end j z h (inl ne));
              same_spur = λ z. same-spurs (idle-end (T'.idle_lane j (there j h)) z) (kept-end j z h (inl ne));
            };
      }

-- ---- From the view of side s to the words.
module _ (s : Side) (vs : List ℕ) {m : View} (sees : viewed s vs ≡ m) where
  pub out-is : (x : ℕ) → link vs s x ≡ m.out x
  out-is x = ap (λ (v : View). v.out x) sees

  pub inn-is : (x : ℕ) → link vs (opposite s) x ≡ m.inn x
  inn-is x = ap (λ (v : View). v.inn x) sees

  pub val_is : (x : ℕ) → value vs x ≡ m.val x
  val_is x = ap (λ (v : View). v.val x) sees

  pub hat_is : (j : ℕ) (z : Side) → hat vs j z ≡ m.hats j z
  hat_is j z = ap (λ (v : View). v.hats j z) sees

  -- A link of either side.
  pub same-either : (ws : List ℕ) (x : ℕ) → m.out x ≡ link ws s x → m.inn x ≡ link ws (opposite s) x → (z : Side)
      → link vs z x ≡ link ws z x
  same-either ws x o i z =
      elim ((sides s).either z) [
        | inl e ↦ subst (λ (y : Side). link vs y x ≡ link ws y x) (sym e) (out-is x ∙ o)
        | inr e ↦ subst (λ (y : Side). link vs y x ≡ link ws y x) (sym e) (inn-is x ∙ i)
      ]

-- All as it was.
end-unchanged : (ws vs : List ℕ) (s : Side) → viewed s vs ≡ viewed s ws
    → (j : ℕ) (z : Side) (at : ℕ → ℕ) (inner c : ℕ)
    → EndKept ws vs j z at inner c
end-unchanged ws vs s sees j z at inner c =
    record {
      same-hat = hat_is s vs sees j z;
      same_value = λ i _. val_is s vs sees (at i);
      same-link = λ i _. same-either s vs sees ws (at i) refl refl z;
      same-inner = same-either s vs sees ws inner refl refl z;
      hat-value = λ v. val_is s vs sees (hat ws j z) ∙ v;
      hat-links = λ _ y. same-either s vs sees ws (hat ws j z) refl refl y;
    }

-- ---- A node of the list is no none.
module _ {ws : List ℕ} (B : Begun ws) where
  W : WellLinked ws
  W = well-linked (begun-agrees B).1.accepted

  pub reached-some : {x : ℕ} → Reachable ws x → x ≢ no_node
  reached-some c = node-not-none W.few (reachable-node W c)

-- ---- A table whose view is as it was.
pub left-unchanged : {ws vs : List ℕ} (T : IdleTable ws) (ℓ : ℕ) → ℓ < lane_count ws → (s : Side)
    → Answered s (node_count ws) (lane_count ws) (growth ws) (viewed s ws) vs
    → Left ws T ℓ s (spare_of s (T.shape ℓ)) (spur_of s (T.shape ℓ)) vs
left-unchanged {ws} {vs} T ℓ is_lane s A =
    let I = T.shape ℓ in
    record {
      begun = A.begun;
      idle_now = A.idle_now;
      same_nodes = A.same_nodes;
      same_growth = A.same_growth;
      same-lanes = A.same-lanes;
      at = spare_at s I;
      inner = inner_at s I;
      own-end =
          end_kept (idle-end (T.idle_lane ℓ is_lane) s)
          (end-unchanged ws vs s A.sees ℓ s (spare_at s I) (inner_at s I) (spare_of s I));
      others-kept = λ j z h _. end-unchanged ws vs s A.sees j z _ _ _;
    }
