-- Pushes and adds alone, exactly: how many nodes they took is counted in the table that they leave.
use mathlib.Core.Path.{◌≡◌, refl, sym, ap, ◌∙◌, subst}
use mathlib.Core.Logic.{◌≢◌, ◌⊎◌, inl, inr}
use mathlib.Core.List.{List}
use Prim.Native.Nat.{ℕ, suc, ◌+◌, ◌-◌, ◌≤◌, ◌<◌}
use native.Mathlib.Omega.{arith}
use Rattle.machine.specs.Outcomes.Answer.{Pushed, Full, Yes, No}
use Rattle.machine.specs.Sides.{Side}
use Rattle.machine.specs.Values.{Y}
use Rattle.machine.specs.Operations.{push, add}
use Rattle.machine.specs.Table.{node_count, growth, lane_count, hat, value}
use Rattle.machine.specs.Begun.{Begun}
use Rattle.machine.specs.Reach.{Reachable, Free}
use Rattle.machine.specs.Row.{put, push_answered, size_answered}
use Rattle.machine_capacity.specs.NoLeak.{HatPlace, in_list, beside, Held, listed, under_hat, IdleTable}
use Rattle.machine_capacity.specs.Alone.{
  CallOutcome,
  leaves,
  least,
  push_alone,
  add_alone,
  spare_of,
  spur_of,
  CallAlone,
}
use Rattle.machine.proofs.Basics.Contradiction.{refute, equal?}
use Rattle.machine.proofs.SlotRule.Reached.{WellLinked}
use Rattle.machine.proofs.Linearizability.Model.Sides.{sides}
use Rattle.machine.proofs.Linearizability.Calls.MadeTicks.{well-linked}
use Rattle.machine.proofs.Linearizability.Corollaries.{begun-agrees}
use Rattle.machine_capacity.proofs.IdleTables.{idle-table}
use Rattle.machine_capacity.proofs.Theorem.{list-not-Y, one-hat}
use Rattle.machine_capacity.proofs.Alone.Ends.{not-Y, spare_at, inner_at, idle-end}
use Rattle.machine_capacity.proofs.Alone.Runs.{call-leads}
use Rattle.machine_capacity.proofs.Alone.CallEnds.{call_end}
use Rattle.machine_capacity.proofs.Alone.Left.{Left}
use Rattle.machine_capacity.proofs.Alone.Rows.{is_lane, ComesTo, comes-to, length-put}
use Rattle.machine_capacity.proofs.Alone.Outcomes.{
  least_first,
  least-second,
  push-spare,
  push-takes,
  push-full,
  add-takes,
  add_none,
}
use Rattle.machine_capacity.proofs.Alone.Counts.{counted-then, sum_then, none_free, one_free, some-free}
use Rattle.machine_capacity.proofs.Alone.Add.{AddLeaves, adds, says-no, add-leads}
use Rattle.machine_capacity.proofs.Alone.Push.{PushLeaves, at-spare, at-taken, is_full, push-leads}

-- ---- A push.
pub push-alone : CallAlone push
unfolding push_answered
push-alone ws vs B idle_now T C k ℓ s v a accepted alone-to =
    go (call-leads B idle_now k ℓ push s v accepted (push-leads (call_end B idle_now T ℓ here s) k v) alone-to)
  where
    here : ℓ < lane_count ws
    here = is_lane B idle_now T k ℓ push s v a accepted alone-to

    Says : CallOutcome → Type 0
    Says = ComesTo B idle_now T k ℓ push s v a accepted alone-to

    pushed : (c : ℕ) → a ≡ Pushed → Left ws T ℓ s c 0 vs → Says (leaves Pushed (put s v (T.shape ℓ).bags) c 0)
    pushed c is-pushed K =
        comes-to B idle_now T k ℓ push s v a accepted alone-to (leaves Pushed (put s v (T.shape ℓ).bags) c 0) refl
        is-pushed K refl

    go : PushLeaves (call_end B idle_now T ℓ here s) k v a vs
        → Says (push_alone s v (growth ws) C.free (T.shape ℓ).bags (spare_of s (T.shape ℓ)) (spur_of s (T.shape ℓ)))
    go (at-spare more is-pushed K) =
        subst Says (sym (push-spare s v (growth ws) C.free (T.shape ℓ).bags (spare_of s (T.shape ℓ))
        (spur_of s (T.shape ℓ)) more))
        (pushed (spare_of s (T.shape ℓ) - 1) is-pushed K)
    go (at-taken single is-pushed c some-taken few K all) =
        let f = C.free in
        let y = spur_of s (T.shape ℓ) in
        let o = leaves Pushed (put s v (T.shape ℓ).bags) c 0 in
        let done = pushed c is-pushed K in
        let C' = counted-then T C ℓ here s o done.1 in
        let sum = sum_then T C ℓ here s o done.1 in
        let longer = length-put s v (T.shape ℓ).bags in
        let exactly : least (f + y) (suc (growth ws)) ≡ c =
        elim all [
          | inl e ↦ least-second (f + y) (suc (growth ws)) (omega arith) ∙ sym e
          | inr used ↦
              let z = none_free C'.free_nodes (λ x l. used x (subst (λ (i : ℕ). x < i) K.same_nodes l)) in
              let q : f + y ≡ c = omega arith in
              least_first (f + y) (suc (growth ws)) (omega arith) ∙ q
        ] in
        subst Says
        (sym (push-takes s v (growth ws) f (T.shape ℓ).bags (spare_of s (T.shape ℓ)) y single (λ e. omega arith)
        ∙ ap (λ (i : ℕ). leaves Pushed (put s v (T.shape ℓ).bags) i 0) exactly))
        done
    go (is_full single says-full K all) =
        let y = spur_of s (T.shape ℓ) in
        let o = leaves Full (T.shape ℓ).bags 1 0 in
        let done = comes-to B idle_now T k ℓ push s v a accepted alone-to o refl says-full K refl in
        let C' = counted-then T C ℓ here s o done.1 in
        let sum = sum_then T C ℓ here s o done.1 in
        let z = none_free C'.free_nodes (λ x l. all x (subst (λ (i : ℕ). x < i) K.same_nodes l)) in
        let no-spur : y ≡ 0 = omega arith in
        subst Says
        (sym (push-full s v (growth ws) C.free (T.shape ℓ).bags (spare_of s (T.shape ℓ)) y single (omega arith)
        ∙ ap (λ (i : ℕ). leaves Full (T.shape ℓ).bags i y) single
        ∙ ap (λ (i : ℕ). leaves Full (T.shape ℓ).bags 1 i) no-spur))
        done

-- ---- An add.

-- A spur that the hat has left is free.
module _ {ws vs : List ℕ} (B : Begun ws) (T : IdleTable ws) (ℓ : ℕ) (here : ℓ < lane_count ws) (s : Side) {r : ℕ}
    (K : Left ws T ℓ s r 0 vs) (was-Y : value ws (hat ws ℓ s) ≡ Y s) (is-Y : value vs (hat ws ℓ s) ≡ Y s) where
  W : WellLinked ws
  W = well-linked (begun-agrees B).1.accepted

  T' : IdleTable vs
  T' = idle-table K.begun K.idle_now

  own-off : hat vs ℓ s ≢ hat ws ℓ s
  own-off e = go K.own-end.hat-place refl
    where
      go : {y : ℕ} → HatPlace vs ℓ s (K.at 0) K.inner y → y ≡ 0 → ⊥
      go (in_list q) _ = not-Y K.own-end.spares (ap (value vs) (sym q ∙ e) ∙ is-Y)
      go (beside v o i) z = omega arith

  under : (j : ℕ) → j < lane_count vs → hat vs j s ≡ hat ws ℓ s → ⊥
  under j h e =
      elim (equal? j ℓ) [
        | inl q ↦ own-off (ap (λ (i : ℕ). hat vs i s) (sym q) ∙ e)
        | inr ne ↦
            let j-there : j < lane_count ws = subst (λ (n : ℕ). j < n) K.same-lanes h in
            let same = (K.others-kept j s j-there (inl ne)).same-hat in
            ne (sym (one-hat W T s ℓ j here j-there was-Y (sym e ∙ same)))
      ]

  unreached : Reachable vs (hat ws ℓ s) → ⊥
  unreached c = go (T'.held (hat ws ℓ s) c)
    where
      go : (j : ℕ) × (j < lane_count vs) × Held vs j (T'.shape j) (hat ws ℓ s) → ⊥
      go (j, h, listed i l e) = list-not-Y (T'.idle_lane j h).main_list i l s (ap (value vs) e ∙ is-Y)
      go (j, h, under_hat z e u) =
          let w = sides s in
          elim ((sides s).either z) [
            | inl q ↦ under j h (cc)
            | inr q ↦ refute (cc (is-Y))
          ]

  spur-free : Free vs (hat ws ℓ s)
  spur-free =
      record {
        is_node = subst (λ (n : ℕ). hat ws ℓ s < n) (sym K.same_nodes) (W.hats ℓ s here);
        unreached = unreached;
      }

pub add-alone : CallAlone add
unfolding size_answered
add-alone ws vs B idle_now T C k ℓ s v a accepted alone-to =
    go (call-leads B idle_now k ℓ add s v accepted (add-leads (call_end B idle_now T ℓ here s) k v) alone-to)
  where
    here : ℓ < lane_count ws
    here = is_lane B idle_now T k ℓ add s v a accepted alone-to

    Says : CallOutcome → Type 0
    Says = ComesTo B idle_now T k ℓ add s v a accepted alone-to

    -- How many were taken.
    exactly : (c free-now y : ℕ) → HatPlace ws ℓ s (spare_at s (T.shape ℓ) 0) (inner_at s (T.shape ℓ)) y
        → free-now + c ≡ C.free + y
        → 1 ≤ c
        → (value ws (hat ws ℓ s) ≡ Y s → 1 ≤ free-now)
        → (c ≡ suc v) ⊎ (((value ws (hat ws ℓ s) ≢ Y s) → free-now ≡ 0) × (free-now ≤ 1))
        → c ≤ suc v
        → (C.free ≢ 0) × (least C.free (suc v) ≡ c)
    exactly c free-now y (in_list e) sum one spur (inl q) few =
        ((λ z. omega arith), least-second C.free (suc v) (omega arith) ∙ sym q)
    exactly c free-now y (in_list e) sum one spur (inr q) few =
        let z = q.0 (λ u. not-Y (idle-end (T.idle_lane ℓ here) s).spares (ap (value ws) (sym e) ∙ u)) in
        let same : C.free ≡ c = omega arith in
        ((λ z'. omega arith), least_first C.free (suc v) (omega arith) ∙ same)
    exactly c free-now y (beside u o i) sum one spur (inl q) few =
        let z = spur u in
        ((λ z'. omega arith), least-second C.free (suc v) (omega arith) ∙ sym q)
    exactly c free-now y (beside u o i) sum one spur (inr q) few =
        let z = spur u in
        let z' = q.1 in
        let same : C.free ≡ c = omega arith in
        ((λ z''. omega arith), least_first C.free (suc v) (omega arith) ∙ same)

    go : AddLeaves (call_end B idle_now T ℓ here s) k v a vs
        → Says (add_alone v C.free (T.shape ℓ).bags (spare_of s (T.shape ℓ)) (spur_of s (T.shape ℓ)))
    go (adds says-yes c one few K spur all) =
        let o = leaves Yes (T.shape ℓ).bags (spare_of s (T.shape ℓ) + c) 0 in
        let done = comes-to B idle_now T k ℓ add s v a accepted alone-to o refl says-yes K refl in
        let C' = counted-then T C ℓ here s o done.1 in
        let sum = sum_then T C ℓ here s o done.1 in
        let count = C'.free_nodes in
        let spur-left : value ws (hat ws ℓ s) ≡ Y s → 1 ≤ C'.free =
        λ y. let F = spur-free B T ℓ here s K y (spur y) in some-free (hat ws ℓ s) count F.is_node F in
        let used : (c ≡ suc v) ⊎ (((value ws (hat ws ℓ s) ≢ Y s) → C'.free ≡ 0) × (C'.free ≤ 1)) =
        elim all [
          | inl q ↦ inl q
          | inr most ↦
              let there : (x : ℕ) → x < node_count vs → x < node_count ws =
              λ x l. subst (λ (i : ℕ). x < i) K.same_nodes l in
              inr (
                (λ off. none_free count (λ x l. most x (there x l) (λ _. off))),
                one_free (hat ws ℓ s) count (λ x l ne. most x (there x l) (λ e. absurd (ne e))),
              )
        ] in
        let E = exactly c C'.free (spur_of s (T.shape ℓ)) (idle-end (T.idle_lane ℓ here) s).hat-place (omega arith)
        one spur-left used few in
        subst Says
        (sym (add-takes v C.free (T.shape ℓ).bags (spare_of s (T.shape ℓ)) (spur_of s (T.shape ℓ)) E.0
        ∙ ap (λ (i : ℕ). leaves Yes (T.shape ℓ).bags (spare_of s (T.shape ℓ) + i) 0) E.1))
        done
    go (says-no is-no K all) =
        let o = leaves No (T.shape ℓ).bags (spare_of s (T.shape ℓ)) (spur_of s (T.shape ℓ)) in
        let done = comes-to B idle_now T k ℓ add s v a accepted alone-to o refl is-no K refl in
        let C' = counted-then T C ℓ here s o done.1 in
        let sum = sum_then T C ℓ here s o done.1 in
        let z = none_free C'.free_nodes (λ x l. all x (subst (λ (i : ℕ). x < i) K.same_nodes l)) in
        subst Says
        (sym (add_none v C.free (T.shape ℓ).bags (spare_of s (T.shape ℓ)) (spur_of s (T.shape ℓ)) (omega arith)))
        done
