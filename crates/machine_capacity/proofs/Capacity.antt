-- What fits: just S bags less two for each lane when all ends were pushed until "full".
use mathlib.Core.Path.{◌≡◌, refl, sym, ◌∙◌, subst}
use mathlib.Core.Logic.{◌⊎◌, inl, inr}
use mathlib.Core.List.{List, [], ◌∷◌}
use mathlib.Core.Option.{some}
use Prim.Native.Nat.{ℕ, ◌+◌, ◌*◌, ◌<◌}
use native.Mathlib.Omega.{arith}
use lib.ListN.{length}
use Rattle.machine.specs.Outcomes.Answer.{Answer, Full}
use Rattle.machine.specs.Sides.{Side, left, right, opposite}
use Rattle.machine.specs.Table.{node_count, lane_count}
use Rattle.machine.specs.Calls.{all_lanes}
use Rattle.machine.specs.Begun.{Begun}
use Rattle.machine.specs.Twice.{rows_below}
use Rattle.machine_capacity.specs.NoLeak.{Idle, lane_size, IdleTable, AllCounted}
use Rattle.machine_capacity.specs.Capacity.{
  FilledFrom,
  is_full,
  one_more,
  End,
  FilledEnds,
  all_filled,
  next_filled,
  Among,
  first,
  later,
}
use Rattle.machine_capacity.specs.Capacity as Capacity
use Rattle.machine_capacity.specs.Alone.{spare_of, spur_of}
use Rattle.machine.proofs.Basics.Contradiction.{clash, equal?}
use Rattle.machine.proofs.Shape.ShapeLaws.{well_sized}
use Rattle.machine.proofs.Linearizability.Model.Sides.{sides}
use Rattle.machine.proofs.Linearizability.Corollaries.{begun-agrees}
use Rattle.machine_capacity.proofs.Counting.{total-two, total-same, length-rows, total-const}
use Rattle.machine_capacity.proofs.Theorem.{no-leak}
use Rattle.machine_capacity.proofs.Alone.Ends.{OtherEnd}
use Rattle.machine_capacity.proofs.Alone.Rows.{lanes-below}
use Rattle.machine_capacity.proofs.Alone.Outcomes.{no_room}
use Rattle.machine_capacity.proofs.Alone.Outcomes as Outcomes
use Rattle.machine_capacity.proofs.Alone.Theorem.{free-after}
use Rattle.machine_capacity.proofs.FillsUp.{table_of, count_of, PushDone, push-done}

-- ---- An end that is filled: its last node alone is spare there, and there is no spur.
pub record EndFilled (ws : List ℕ) (j : ℕ) (z : Side) : Type 0 where
  pub one-spare : (T : IdleTable ws) → spare_of z (T.shape j) ≡ 1
  pub no-spur : (T : IdleTable ws) → spur_of z (T.shape j) ≡ 0

abbrev NoneFree : List ℕ → Type 0
NoneFree ws = (T : IdleTable ws) (C : AllCounted ws T) → C.free ≡ 0

-- ---- A table with every end filled and no node free: a lane is its bags and its two ends.
module _ {ws : List ℕ} (B : Begun ws) (idle_now : Idle ws)
    (all-ends : (ℓ : ℕ) → ℓ < lane_count ws → (s : Side) → EndFilled ws ℓ s) (none_free : NoneFree ws) where
  abbrev T : IdleTable ws
  T = (no-leak ws B idle_now).0

  counted : AllCounted ws T
  counted = (no-leak ws B idle_now).1

  abbrev bags_of : ℕ → List ℕ
  bags_of ℓ = (T.shape ℓ).bags

  lane-filled : (ℓ : ℕ) → ℓ < lane_count ws → lane_size (T.shape ℓ) ≡ length (bags_of ℓ) + 2
  lane-filled ℓ h =
      let l = all-ends ℓ h left in
      let r = all-ends ℓ h right in
      omega (arith, l.one-spare T, l.no-spur T, r.one-spare T, r.no-spur T)

  filled : (bags : List ℕ) × (all_lanes ws ≡ some bags) × (length bags + 2 * lane_count ws ≡ node_count ws)
  filled =
      let L = lane_count ws in
      let lengths : ℕ → ℕ = λ ℓ. length (bags_of ℓ) in
      let same = total-same (λ ℓ. lane_size (T.shape ℓ)) (λ ℓ. lengths ℓ + 2) L lane-filled in
      let both = total-two lengths (λ ℓ. 2) L in (
        rows_below bags_of L,
        lanes-below ws bags_of L (λ ℓ h. (T.idle_lane ℓ h).lane_is),
        omega (arith, counted.all_counted, none_free T counted, length-rows bags_of L, total-const 2 L),
      )

-- ---- A push leaves the other ends, and where it is "full" its own is filled and no node is free.
module _ {ws vs : List ℕ} (B : Begun ws) (idle_now : Idle ws) {ℓ : ℕ} {s : Side} {a : Answer}
    (D : PushDone B idle_now ℓ s a vs) where
  others-stay : (j : ℕ) (z : Side) → j < lane_count ws → OtherEnd ℓ (opposite s) j z → EndFilled ws j z
      → EndFilled vs j z
  others-stay j z h other F =
      let K = D.left-idle in
      let T₀ = table_of B idle_now in
      elim (equal? j ℓ) [
        | inr ne ↦
            record {
              one-spare = λ T'. (K.others T' j h ne).same_spare z ∙ F.one-spare T₀;
              no-spur = λ T'. (K.others T' j h ne).same_spur z ∙ F.no-spur T₀;
            }
        | inl e ↦ at-far e other F
      ]
    where
      at-far : j ≡ ℓ → OtherEnd ℓ (opposite s) j z → EndFilled ws j z → EndFilled vs j z
      at-far e (inl ne) F = absurd (ne e)
      at-far e (inr q) F =
          let K = D.left-idle in
          let T₀ = table_of B idle_now in
          let F' = subst (λ (i : ℕ). EndFilled ws i (opposite s)) e (subst (EndFilled ws j) q F) in
          subst (EndFilled vs j) (sym q)
          (subst (λ (i : ℕ). EndFilled vs i (opposite s)) (sym e)
          (record {
            one-spare = λ T'. K.far_spare T' ∙ F'.one-spare T₀;
            no-spur = λ T'. K.far_spur T' ∙ F'.no-spur T₀;
          }))

  full-end : a ≡ Full → EndFilled vs ℓ s × NoneFree vs
  full-end full =
      elim D.by-room [
        | Outcomes.one_more n m m' pushed kept ↦ clash (cc D.answers)
        | no_room m m' says kept ↦
            let K = D.left-idle in (
              record {
                one-spare = λ T'. K.own_spare T' ∙ omega arith;
                no-spur = λ T'. K.own_spur T' ∙ omega arith;
              },
              (λ T' C'.
                  let sum =
                  free-after ws vs (table_of B idle_now) (count_of B idle_now) ℓ D.is_lane s D.outcome K T' C' in
                  omega arith),
            )
      ]

-- ---- Pushes on one end until "full".
record Filled (ws : List ℕ) (ℓ : ℕ) (s : Side) (vs : List ℕ) : Type 0 where
  pub begun : Begun vs
  pub idle_now : Idle vs
  pub same_nodes : node_count vs ≡ node_count ws
  pub same-lanes : lane_count vs ≡ lane_count ws
  pub own-end : EndFilled vs ℓ s
  pub none_free : NoneFree vs
  pub other-ends :
      (j : ℕ) (z : Side) → j < lane_count ws → OtherEnd ℓ (opposite s) j z → EndFilled ws j z → EndFilled vs j z

fills : {ws vs : List ℕ} {ℓ : ℕ} {s : Side} → Begun ws → Idle ws → FilledFrom ℓ s vs ws → Filled ws ℓ s vs
fills {ws} {vs} {ℓ} {s} = go
  where
    -- The recursion changes only the table that the pushes begin at.
    go : {us : List ℕ} → Begun us → Idle us → FilledFrom ℓ s vs us → Filled us ℓ s vs
    go B idle_now (is_full P) =
        let D = push-done B idle_now P in
        let K = D.left-idle in
        let F = full-end B idle_now D refl in
        record {
          begun = K.begun;
          idle_now = K.idle_now;
          same_nodes = K.same_nodes;
          same-lanes = K.same-lanes;
          own-end = F.0;
          none_free = F.1;
          other-ends = others-stay B idle_now D;
        }
    go B idle_now (one_more P more) =
        let D = push-done B idle_now P in
        let K = D.left-idle in
        let F = go K.begun K.idle_now more in
        record {
          begun = F.begun;
          idle_now = F.idle_now;
          same_nodes = F.same_nodes ∙ K.same_nodes;
          same-lanes = F.same-lanes ∙ K.same-lanes;
          own-end = F.own-end;
          none_free = F.none_free;
          other-ends =
              λ j z h other E.
              F.other-ends j z (subst (λ (n : ℕ). j < n) (sym K.same-lanes) h) other
              (others-stay B idle_now D j z h other E);
        }

-- A filled end stays so, whichever it is.
ends_stay : {ws vs : List ℕ} {ℓ : ℕ} {s : Side} → Filled ws ℓ s vs → (j : ℕ) (z : Side) → j < lane_count ws
    → EndFilled ws j z
    → EndFilled vs j z
ends_stay {ws} {vs} {ℓ} {s} F j z h E =
    elim (equal? j ℓ) [
      | inr ne ↦ F.other-ends j z h (inl ne) E
      | inl e ↦
          elim ((sides s).either z) [
            | inr q ↦ F.other-ends j z h (inr q) E
            | inl q ↦ subst (λ (i : ℕ). EndFilled vs i z) (sym e) (subst (EndFilled vs ℓ) (sym q) F.own-end)
          ]
    ]

-- ---- One end after another.
record AllFilled (ws : List ℕ) (ends : List End) (vs : List ℕ) : Type 0 where
  pub begun : Begun vs
  pub idle_now : Idle vs
  pub same_nodes : node_count vs ≡ node_count ws
  pub same-lanes : lane_count vs ≡ lane_count ws
  pub stay : (j : ℕ) (z : Side) → j < lane_count ws → EndFilled ws j z → EndFilled vs j z
  pub at-ends : (j : ℕ) (z : Side) → j < lane_count ws → Among (j, z) ends → EndFilled vs j z
  pub none_free : NoneFree ws ⊎ ((e : End) × Among e ends) → NoneFree vs

-- One end, then the others.
one-end-more : {ws us vs : List ℕ} {ℓ : ℕ} {s : Side} {ends : List End} → Filled ws ℓ s us → AllFilled us ends vs
    → AllFilled ws ((ℓ, s) ∷ ends) vs
one-end-more {ws} {us} {vs} {ℓ} {s} {ends} F G =
    record {
      begun = G.begun;
      idle_now = G.idle_now;
      same_nodes = G.same_nodes ∙ F.same_nodes;
      same-lanes = G.same-lanes ∙ F.same-lanes;
      stay = λ j z h E. G.stay j z (still j h) (ends_stay F j z h E);
      at-ends = there;
      none_free = λ _. G.none_free (inl F.none_free);
    }
  where
    still : (j : ℕ) → j < lane_count ws → j < lane_count us
    still j h = subst (λ (n : ℕ). j < n) (sym F.same-lanes) h

    there : (j : ℕ) (z : Side) → j < lane_count ws → Among (j, z) ((ℓ, s) ∷ ends) → EndFilled vs j z
    there j z h first = G.stay ℓ s (still ℓ h) F.own-end
    there j z h (later a) = G.at-ends j z (still j h) a

fill-ends : {ws vs : List ℕ} {ends : List End} → Begun ws → Idle ws → FilledEnds vs ends ws → AllFilled ws ends vs
fill-ends {ws} {vs} = go
  where
    not_there : {e : End} {Q : Type 0} → Among e [] → Q
    not_there a = elim a [ ]

    by_start : NoneFree vs ⊎ ((e : End) × Among e []) → NoneFree vs
    by_start (inl n) = n
    by_start (inr (e, a)) = not_there a

    go : {us : List ℕ} {es : List End} → Begun us → Idle us → FilledEnds vs es us → AllFilled us es vs
    go B idle_now all_filled =
        record {
          begun = B;
          idle_now = idle_now;
          same_nodes = refl;
          same-lanes = refl;
          stay = λ j z h E. E;
          at-ends = λ j z h a. not_there a;
          none_free = by_start;
        }
    go B idle_now (next_filled ℓ s first-end others) =
        let F = fills B idle_now first-end in one-end-more F (go F.begun F.idle_now others)

pub capacity : Capacity.Capacity
capacity ws vs ends B idle_now all-ends filled-so =
    let F = fill-ends B idle_now filled-so in
    let one = (well_sized ws (begun-agrees B).1.accepted.length_passes).one_lane in
    let some_end = all-ends 0 (omega arith) left in
    let r =
    filled F.begun F.idle_now
    (λ ℓ h s. let l = subst (λ (n : ℕ). ℓ < n) F.same-lanes h in F.at-ends ℓ s l (all-ends ℓ l s))
    (F.none_free (inr (_, some_end))) in (
      r.0,
      r.1,
      subst (λ (n : ℕ). length r.0 + 2 * n ≡ node_count ws) F.same-lanes (r.2 ∙ F.same_nodes),
    )
