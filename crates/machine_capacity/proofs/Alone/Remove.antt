-- A remove alone: what it walks, and what it cuts off.
use mathlib.Core.Path.{◌≡◌, refl, sym, ap, ◌∙◌, subst}
use mathlib.Core.Logic.{◌≢◌, inl, inr}
use mathlib.Core.List.{List}
use Prim.Native.Nat.{ℕ, zero, suc, ◌+◌, ◌-◌, ◌<◌}
use native.Mathlib.Omega.{arith}
use Rattle.machine.specs.Outcomes.Answer.{Yes}
use Rattle.machine.specs.Choice.{◌≟◌}
use Rattle.machine.specs.Sides.{Side}
use Rattle.machine.specs.Values.{Value, never, N, X, Y, ◌≟ᵛ◌}
use Rattle.machine.specs.Operations.{remove}
use Rattle.machine.specs.Steps.{line54, line56, line58, line60, line62}
use Rattle.machine.specs.Tasks.{Task, no_node, further}
use Rattle.machine.specs.Table.{node_count, growth, lane_count, hat, link, value}
use Rattle.machine.specs.Lines.{Effect, next, act}
use Rattle.machine.specs.Calls.{begun_task}
use Rattle.machine.specs.Reach.{from_hat}
use Rattle.machine_capacity.specs.NoLeak.{HatPlace, in_list, beside, IdleTable}
use Rattle.machine_capacity.specs.Alone.{spur_of}
use Rattle.machine.proofs.Basics.Contradiction.{clash, less?}
use Rattle.machine.proofs.Words.Memories.{View, viewed}
use Rattle.machine.proofs.Lines.Connectives.{ok-if, ok-through, ok-swap}
use Rattle.machine_capacity.proofs.Alone.Ends.{idle-end, last_none}
use Rattle.machine_capacity.proofs.Alone.Runs.{Leads, Answered, Next, going, ending, line-leads}
use Rattle.machine_capacity.proofs.Alone.Left.{Left, left-unchanged, reached-some}
use Rattle.machine_capacity.proofs.Alone.Others.{own_lane, some_spare}
use Rattle.machine_capacity.proofs.Alone.CallEnds.{CallEnd, spares, spare, inner}
use Rattle.machine_capacity.proofs.Alone.Cut.{
  RemoveLeaves,
  on-spur-yes,
  few-yes,
  one-no,
  own-spares,
  off-Y,
  some_at,
  at-64,
}

module _ (end : CallEnd) (k v : ℕ) where
  abbrev pub ws : List ℕ
  ws = end.words

  abbrev pub T : IdleTable end.words
  T = end.table

  abbrev pub ℓ : ℕ
  ℓ = end.lane

  abbrev pub s : Side
  s = end.side

  abbrev t0 : Task
  t0 = begun_task ℓ remove s v

  abbrev pub Leads' : Task → View → Type 0
  Leads' = Leads k ℓ s (node_count ws) (lane_count ws) (growth ws) (RemoveLeaves end k v)

  abbrev Next' : View → Effect → Type 0
  Next' m e = Next k ℓ s (node_count ws) (lane_count ws) (growth ws) (RemoveLeaves end k v) m e

  abbrev Answered' : View → List ℕ → Type 0
  Answered' = Answered s (node_count ws) (lane_count ws) (growth ws)

  abbrev m0 : View
  m0 = viewed s ws

  abbrev H : ℕ
  H = hat ws ℓ s

  H-some : hat ws ℓ s ≢ no_node
  H-some = reached-some end.begun (from_hat ℓ s end.is_lane)

  unchanged : {vs : List ℕ} → Answered' m0 vs → Left ws T ℓ s (spares end) (spur_of s (T.shape ℓ)) vs
  unchanged A =
      left-unchanged T ℓ end.is_lane s A

  -- ---- With the hat on a spur.
  module _ (y : value ws (hat ws ℓ s) ≡ Y s) (o : link ws s (hat ws ℓ s) ≡ no_node) where
    spur-ends : {vs : List ℕ} → Answered' m0 vs → RemoveLeaves end k v Yes vs
    spur-ends A = on-spur-yes refl y (unchanged A)

    spur-leads : Leads' (begun_task ℓ remove s v) m0
    unfolding act
    spur-leads =
        line-leads k ℓ s _ _ _ _ (λ f.
        ok-if (Next' m0) (λ st. next (further t0 line54 0 never H no_node no_node no_node) st) (_ ≟ _)
        (λ _.
        going refl
        (line-leads k ℓ s _ _ _ _ (λ f'.
        ok-through (Next' m0) (λ e. absurd (H-some e)) (λ _.
        ok-if (Next' m0) (λ e. e) (_ ≟ _) (λ _. ending (λ e. clash (cc)) (λ vs A. spur-ends A))
        (λ ne. absurd (ne o))))))
        (λ _.
        going refl
        (line-leads k ℓ s _ _ _ _ (λ f'.
        ok-through (Next' m0) (λ e. absurd (H-some e)) (λ _.
        ok-if (Next' m0) (λ e. e) (_ ≟ᵛ _) (λ e. clash (cc)) (λ _.
        going refl
        (line-leads k ℓ s _ _ _ _ (λ f''.
        ok-through (Next' m0) (λ e. absurd (H-some e)) (λ _.
        ok-if (Next' m0) (λ e. e) (_ ≟ _) (λ _. ending (λ e. clash (cc)) (λ vs A. spur-ends A))
        (λ ne. absurd (ne o)))))))))))

  -- ---- With the hat in the list.
  module _ (hat-at : hat ws ℓ s ≡ spare end 0) where
    -- ---- Lines 60 and 62.
    at_62 : (x b n : ℕ) (u : Value) (c : ℕ) → x ≡ spare end v → b ≡ spare end (suc v)
        → suc v < spares end
        → Leads' (further t0 line62 n u x b c no_node) m0
    unfolding act
    at_62 x b n u c e eb l =
        line-leads k ℓ s _ _ _ _ (λ f.
        ok-through (Next' m0) (λ z. absurd (some_at end k v hat-at v x (omega arith) e z)) (λ _.
        ok-through (Next' m0) (λ z. absurd (some_at end k v hat-at (suc v) b l eb z)) (λ _.
        ok-swap (Next' m0) _ _
        (λ _ b-N.
        elim (less? (v + 2) (spares end)) [
          | inl more ↦ going refl (at-64 end k v hat-at x b e eb more n u c)
          | inr few ↦
              let q = (own-spares end k v hat-at).X-last (suc v) (omega arith) in
              clash (cc)
        ])
        (λ ne.
        elim (less? (v + 2) (spares end)) [
          | inl more ↦
              absurd (ne (
                ap (value ws) e ∙ (own-spares end k v hat-at).N-before v (omega arith),
                ap (value ws) eb ∙ (own-spares end k v hat-at).N-before (suc v) (omega arith),
              ))
          | inr few ↦ ending (λ z. clash (cc)) (λ vs A. one-no refl (off-Y end k v hat-at) (omega arith) (unchanged A))
        ]))))

    at-60 : (x n : ℕ) (u : Value) (b c : ℕ) → x ≡ spare end v → v < spares end
        → Leads' (further t0 line60 n u x b c no_node) m0
    unfolding act
    at-60 x n u b c e l =
        line-leads k ℓ s _ _ _ _ (λ f.
        ok-through (Next' m0) (λ z. absurd (some_at end k v hat-at v x l e z)) (λ _.
        ok-if (Next' m0) (λ q. q) (_ ≟ _)
        (λ z.
        elim (less? (suc v) (spares end)) [
          | inl more ↦ absurd (some_at end k v hat-at (suc v) (link ws s x) more
              (ap (link ws s) e ∙ (own-spares end k v hat-at).leads v more) z)
          | inr few ↦ ending (λ q. clash (cc)) (λ vs A. few-yes refl (off-Y end k v hat-at) (omega arith) (unchanged A))
        ])
        (λ ne.
        elim (less? (suc v) (spares end)) [
          | inl more ↦ going refl
              (at_62 x (link ws s x) n u c e (ap (link ws s) e ∙ (own-spares end k v hat-at).leads v more) more)
          | inr few ↦
              absurd (ne (ap (link ws s) e ∙ last_none (own_lane end) s v (omega arith)))
        ])))

    -- ---- Lines 56 and 58: the walk to the node at v.
    walk_step : (i x : ℕ) (u : Value) (b c : ℕ) → x ≡ spare end i → i < v → i < spares end
        → ((x' : ℕ) → x' ≡ spare end (suc i) → suc i ≢ v → suc i < spares end
        → Leads' (further t0 line56 (suc i) u x' b c no_node) m0)
        → Leads' (further t0 line56 i u x b c no_node) m0
    unfolding act
    walk_step i x u b c e below l again =
        elim (less? (suc i) (spares end)) [
          | inr few ↦
              let is-X : value ws x ≡ X s = ap (value ws) e ∙ (own-spares end k v hat-at).X-last i (omega arith) in
              line-leads k ℓ s _ _ _ _ (λ f.
              ok-through (Next' m0) (λ z. absurd (some_at end k v hat-at i x l e z)) (λ _.
              ok-if (Next' m0) (λ q. q) (_ ≟ᵛ _)
              (λ _. ending (λ q. clash (cc)) (λ vs A. few-yes refl (off-Y end k v hat-at) (omega arith) (unchanged A)))
              (λ ne. absurd (ne is-X))))
          | inl more ↦
              let is-N : value ws x ≡ N s = ap (value ws) e ∙ (own-spares end k v hat-at).N-before i more in
              let on : link ws s x ≡ spare end (suc i) = ap (link ws s) e ∙ (own-spares end k v hat-at).leads i more in
              line-leads k ℓ s _ _ _ _ (λ f.
              ok-through (Next' m0) (λ z. absurd (some_at end k v hat-at i x l e z)) (λ _.
              ok-if (Next' m0) (λ q. q) (_ ≟ᵛ _) (λ z. clash (cc)) (λ _.
              going refl
              (line-leads k ℓ s _ _ _ _ (λ f'.
              ok-through (Next' m0) (λ z. absurd (some_at end k v hat-at i x l e z)) (λ _.
              ok-if (Next' m0) (λ q. q) (_ ≟ _)
              (λ z. absurd (some_at end k v hat-at (suc i) _ more on z))
              (λ _.
              ok-if (Next' m0) (λ st. next (further t0 line58 (suc i) u (link ws s x) b c no_node) st) (_ ≟ _)
              (λ there.
              going refl
              (at-60 (link ws s x) (suc i) u b c (on ∙ ap (spare end) there)
              (subst (λ (q : ℕ). q < spares end) there more)))
              (λ ne. going refl (again (link ws s x) on ne more)))))))))
        ]

    walk : (fuel i x : ℕ) (u : Value) (b c : ℕ) → x ≡ spare end i → suc (i + fuel) ≡ v
        → i < spares end
        → Leads' (further t0 line56 i u x b c no_node) m0
    walk zero i x u b c e l h = walk_step i x u b c e (omega arith) h (λ x' e' ne h'. absurd (ne (omega arith)))
    walk (suc fuel) i x u b c e l h =
        walk_step i x u b c e (omega arith) h (λ x' e' ne h'. walk fuel (suc i) x' u b c e' (omega arith) h')

    list-leads : Leads' (begun_task ℓ remove s v) m0
    unfolding act
    list-leads =
        let one = some_spare end in
        line-leads k ℓ s _ _ _ _ (λ f.
        ok-if (Next' m0) (λ st. next (further t0 line54 0 never H no_node no_node no_node) st) (_ ≟ _)
        (λ z.
        going refl
        (at-60 H 0 never no_node no_node (hat-at ∙ ap (spare end) (sym z))
        (subst (λ (q : ℕ). q < spares end) (sym z) one)))
        (λ ne. going refl (walk (v - 1) 0 H never no_node no_node hat-at (omega arith) one)))

  pub remove-leads : Leads' (begun_task ℓ remove s v) (viewed s ws)
  remove-leads = go (idle-end (own_lane end) s).hat-place
    where
      go : {y : ℕ} → HatPlace ws ℓ s (spare end 0) (inner end) y
          → Leads' (begun_task ℓ remove s v) (viewed s ws)
      go (in_list e) = list-leads e
      go (beside y o i) = spur-leads y o
