-- A push alone: "pushed", at a spare node or after taking nodes, or "full".
use mathlib.Core.Path.{◌≡◌, refl, sym, ap, ◌∙◌, subst}
use mathlib.Core.Logic.{◌≢◌, ◌⊎◌, inl, inr}
use mathlib.Core.List.{List}
use Prim.Native.Nat.{ℕ, suc, ◌+◌, ◌-◌, ◌≤◌, ◌<◌}
use native.Mathlib.Omega.{arith}
use native.Mathlib.Decide.{ℕ_discrete}
use Rattle.machine.specs.Outcomes.Answer.{Answer, Pushed, Full}
use Rattle.machine.specs.Choice.{◌≟◌}
use Rattle.machine.specs.Sides.{Side, opposite}
use Rattle.machine.specs.Values.{Value, never, N, X, Y, ◌≟ᵛ◌}
use Rattle.machine.specs.Operations.{push}
use Rattle.machine.specs.Steps.{line15, line2, line3, line5, line8, line28, line67}
use Rattle.machine.specs.Tasks.{Task, no_node, further}
use Rattle.machine.specs.Table.{node_count, growth, lane_count, hat, link}
use Rattle.machine.specs.Lines.{Effect, next, act}
use Rattle.machine.specs.Calls.{begun_task}
use Rattle.machine.specs.Reach.{Reachable, from_hat}
use Rattle.machine_capacity.specs.NoLeak.{HatPlace, in_list, beside, IdleTable}
use Rattle.machine.proofs.Basics.Contradiction.{clash, less?}
use Rattle.machine.proofs.Basics.Updates.{update, update_same, update_hat-same}
use Rattle.machine.proofs.Words.Memories.{View, viewed}
use Rattle.machine.proofs.Lines.Connectives.{ok-if, ok-through, ok-swap}
use Rattle.machine_capacity.proofs.Alone.Ends.{idle-end, last_none, inner-leads}
use Rattle.machine_capacity.proofs.Alone.Runs.{Leads, Answered, Next, going, ending, line-leads}
use Rattle.machine_capacity.proofs.Alone.Left.{Left, reached-some}
use Rattle.machine_capacity.proofs.Alone.Others.{
  own_lane,
  spare-alive,
  some_spare,
  at_some,
  p-some,
  Stage,
  HatNow,
  on_list,
  on-spur,
  Others,
  stage-others,
}
use Rattle.machine_capacity.proofs.Alone.Build.{Chain, AllUsed, build-leads}
use Rattle.machine_capacity.proofs.Alone.Splice.{moved, unspur-leads, stage-moved, splice-leads}
use Rattle.machine_capacity.proofs.Alone.Finish.{
  OwnList,
  left_by,
  reached-by,
  own_first,
  spares-differ,
  bag_put,
  others_put,
  own_put,
  reach-put,
  others-spliced,
  joined,
  joined-old,
  joined-new,
  own-spliced,
  joined-apart,
  reach-spliced,
}
use Rattle.machine_capacity.proofs.Alone.CallEnds.{CallEnd, spares, spare, inner}

module _ (end : CallEnd) (k v : ℕ) where
  abbrev pub ws : List ℕ
  ws = end.words

  abbrev pub T : IdleTable end.words
  T = end.table

  abbrev pub ℓ : ℕ
  ℓ = end.lane

  abbrev pub s : Side
  s = end.side

  -- What it answers and leaves.
  pub data PushLeaves (a : Answer) (vs : List ℕ) : Type 0 where
    at-spare : 1 < spares end → a ≡ Pushed → Left ws T ℓ s (spares end - 1) 0 vs → PushLeaves a vs
    at-taken :
        spares end ≡ 1
        → a ≡ Pushed
        → (c : ℕ)
        → 1 ≤ c
        → c ≤ suc (growth ws)
        → Left ws T ℓ s c 0 vs
        → (c ≡ suc (growth ws)) ⊎ ((x : ℕ) → x < node_count ws → Reachable vs x)
        → PushLeaves a vs
    is_full :
        spares end ≡ 1
        → a ≡ Full
        → Left ws T ℓ s 1 0 vs
        → ((x : ℕ) → x < node_count ws → Reachable vs x)
        → PushLeaves a vs

  abbrev t0 : Task
  t0 = begun_task ℓ push s v

  abbrev Leads' : Task → View → Type 0
  Leads' = Leads k ℓ s (node_count ws) (lane_count ws) (growth ws) PushLeaves

  abbrev Next' : View → Effect → Type 0
  Next' m e = Next k ℓ s (node_count ws) (lane_count ws) (growth ws) PushLeaves m e

  abbrev Answered' : View → List ℕ → Type 0
  Answered' = Answered s (node_count ws) (lane_count ws) (growth ws)

  -- ---- Lines 2, 3 and 5, with N at the hat.
  module _ (m : View) (n : ℕ) (u : Value) (h-some : m.hats ℓ s ≢ no_node) (b-some : m.out (m.hats ℓ s) ≢ no_node)
      (h-N : m.val (m.hats ℓ s) ≡ N s)
      (done : (vs : List ℕ)
      → Answered s (node_count ws) (lane_count ws) (growth ws) (bag_put end m v) vs
      → PushLeaves Pushed vs) where
    on-5 : (c : ℕ) → Leads' (further t0 line5 n u (m.hats ℓ s) (m.out (m.hats ℓ s)) c no_node) m
    unfolding act
    on-5 c =
        line-leads k ℓ s _ _ _ _ (λ f.
        ok-through (Next' m) (λ e. absurd (h-some e)) (λ _.
        ok-through (Next' m) (λ e. absurd (b-some e)) (λ _.
        ok-swap (Next' m) _ _ (λ _ _. ending (λ e. clash (cc)) (λ vs A. done vs A))
        (λ ne. absurd (ne (refl, h-N))))))

    on-3 : (b c : ℕ) → Leads' (further t0 line3 n u (m.hats ℓ s) b c no_node) m
    unfolding act
    on-3 b c =
        line-leads k ℓ s _ _ _ _ (λ f.
        ok-through (Next' m) (λ e. absurd (h-some e)) (λ _.
        ok-if (Next' m) (λ st. next (further t0 line3 n u (m.hats ℓ s) (m.out (m.hats ℓ s)) c no_node) st) (_ ≟ _)
        (λ e. absurd (b-some e)) (λ _. going refl (on-5 c))))

    push-now : (a b c : ℕ) → Leads' (further t0 line2 n u a b c no_node) m
    unfolding act
    push-now a b c = line-leads k ℓ s _ _ _ _ (λ f. going refl (on-3 b c))

  -- ---- Lines 2, 3 and 8, with no outward link at the hat.
  module _ (m : View) (n : ℕ) (u : Value) (h-some : m.hats ℓ s ≢ no_node) (b-none : m.out (m.hats ℓ s) ≡ no_node) where
    to-8 : ((b c : ℕ) → Leads' (further t0 line8 n u (m.hats ℓ s) b c no_node) m) → (a b c : ℕ)
        → Leads' (further t0 line2 n u a b c no_node) m
    unfolding act
    to-8 on-8 a b c =
        line-leads k ℓ s _ _ _ _ (λ f.
        going refl
        (line-leads k ℓ s _ _ _ _ (λ f'.
        ok-through (Next' m) (λ e. absurd (h-some e)) (λ _.
        ok-if (Next' m) (λ st. next (further t0 line3 n u (m.hats ℓ s) (m.out (m.hats ℓ s)) c no_node) st) (_ ≟ _)
        (λ _. going refl (on-8 (m.out (m.hats ℓ s)) c)) (λ ne. absurd (ne b-none))))))

    to-28 : m.val (m.hats ℓ s) ≡ X s
        → ((a b c : ℕ) → Leads' (further t0 line28 n u a b c no_node) m)
        → (a b c : ℕ)
        → Leads' (further t0 line2 n u a b c no_node) m
    unfolding act
    to-28 h-X on-28 =
        to-8 (λ b c.
        line-leads k ℓ s _ _ _ _ (λ f.
        ok-through (Next' m) (λ e. absurd (h-some e)) (λ _.
        ok-if (Next' m) (λ st. next (further t0 line8 n u (m.hats ℓ s) b c no_node) st) (_ ≟ᵛ _)
        (λ _. going refl (on-28 (m.hats ℓ s) b c)) (λ ne. absurd (ne h-X)))))

    to-67 : m.val (m.hats ℓ s) ≡ Y s
        → ((a b c : ℕ) → Leads' (further t0 line67 n u a b c no_node) m)
        → (a b c : ℕ)
        → Leads' (further t0 line2 n u a b c no_node) m
    unfolding act
    to-67 h-Y on-67 =
        to-8 (λ b c.
        line-leads k ℓ s _ _ _ _ (λ f.
        ok-through (Next' m) (λ e. absurd (h-some e)) (λ _.
        ok-if (Next' m) (λ st. next (further t0 line8 n u (m.hats ℓ s) b c no_node) st) (_ ≟ᵛ _)
        (λ e. clash (cc)) (λ _. going refl (on-67 (m.hats ℓ s) b c)))))

  -- ---- With the hat in the list.
  module _ (m : View) (n : ℕ) (u : Value) (St : Stage end m)
      (hat-at : m.hats ℓ s ≡ spare end 0) where
    one : 0 < spares end
    one = some_spare end

    h-some : m.hats ℓ s ≢ no_node
    h-some e = at_some end 0 one (sym hat-at ∙ e)

    E : OwnList end m (spare end) (spares end)
    E = own_first end St hat-at

    -- More than one spare node.
    spare-leads : 1 < spares end → (a b c : ℕ) → Leads' (further t0 line2 n u a b c no_node) m
    spare-leads more =
        push-now m n u h-some (λ e. at_some end 1 more (sym on ∙ e)) (ap m.val hat-at ∙ E.N-before 0 more)
        (λ vs A.
        let e : suc (spares end - 1) ≡ spares end = omega arith in
        let E' = subst (OwnList end m (spare end)) (sym e) E in
        let O = stage-others end St in
        let differ : (i : ℕ) → i < spares end - 1 → spare end (suc i) ≢ spare end 0 =
        λ i l q. absurd (let z = spares-differ end (suc i) 0 (omega arith) one q in omega arith) in
        at-spare more refl
        (left_by end
        (others_put end m v O E' (omega arith) refl differ)
        (own_put end m v O E' (omega arith) refl differ)
        A))
      where
        on : m.out (m.hats ℓ s) ≡ spare end 1
        on = ap m.out hat-at ∙ E.leads 0 more

    -- Just one.
    module _ (single : spares end ≡ 1) where
      h-last : m.out (m.hats ℓ s) ≡ no_node
      h-last =
          ap m.out hat-at
          ∙ (St.same _ (spare-alive end 0 one)).same_out
          ∙ last_none (own_lane end) s 0 (sym single)

      h-X : m.val (m.hats ℓ s) ≡ X s
      h-X = ap m.val hat-at ∙ E.X-last 0 (sym single)

      -- "Full".
      full : AllUsed end m no_node → (vs : List ℕ) → Answered' m vs → PushLeaves Full vs
      full used vs A =
          is_full single refl
          (left_by end (stage-others end St)
          (subst (OwnList end m (spare end)) single E)
          A)
          (λ x l.
          reached-by end A
          (used x l))

      -- The chain is made: it is spliced in, and the push is made behind the node that was the last.
      module _ (m₁ : View) (d i : ℕ) (new : ℕ → ℕ) (St₁ : Stage end m₁) (same_hats : m₁.hats ≡ m.hats)
          (C : Chain end m₁ d (suc i) new) (few : i ≤ growth ws)
          (all : (i ≡ growth ws) ⊎ AllUsed end m₁ d) where
        hat₁ : m₁.hats ℓ s ≡ spare end 0
        hat₁ = ap (λ (h : ℕ → Side → ℕ). h ℓ s) same_hats ∙ hat-at

        d-some : d ≢ no_node
        d-some e = C.not_none 0 (omega arith) (sym C.head ∙ e)

        module _ (x : ℕ) (x-last : x ≡ spare end (spares end - 1)) where
          abbrev m_a : View
          m_a =
              record {
                out = update m₁.out x d;
                inn = update m₁.inn d x;
                val = update m₁.val x (N s);
                hats = m₁.hats;
              }

          EA : OwnList end m_a (joined end St₁ hat₁ C x x-last)
              (spares end + suc i)
          EA = own-spliced end St₁ hat₁ C x x-last

          abbrev at' : ℕ → ℕ
          at' = joined end St₁ hat₁ C x x-last

          size : spares end + suc i ≡ suc (suc i)
          size = omega arith

          EA' : OwnList end m_a (joined end St₁ hat₁ C x x-last) (suc (suc i))
          EA' =
              subst (OwnList end m_a (joined end St₁ hat₁ C x x-last)) size EA

          OA : Others end m_a
          OA = others-spliced end St₁ hat₁ C x x-last

          first' : joined end St₁ hat₁ C x x-last 0 ≡ spare end 0
          first' = joined-old end St₁ hat₁ C x x-last 0 one

          second' : joined end St₁ hat₁ C x x-last 1 ≡ d
          second' =
              let z : 1 - spares end ≡ 0 = omega arith in
              joined-new end St₁ hat₁ C x x-last 1 (omega arith) ∙ ap new z ∙ sym C.head

          x-first : x ≡ spare end 0
          x-first = x-last ∙ ap (spare end) (omega arith)

          apart' : (j : ℕ) → j < suc i
              → joined end St₁ hat₁ C x x-last (suc j)
              ≢ joined end St₁ hat₁ C x x-last 0
          apart' j l = joined-apart end St₁ hat₁ C x x-last j (omega arith)

          h_a-some : m_a.hats ℓ s ≢ no_node
          h_a-some e = at_some end 0 one (sym hat₁ ∙ e)

          on-A : m_a.out (m_a.hats ℓ s) ≡ d
          on-A = ap m_a.out EA'.hat-at ∙ EA'.leads 0 (omega arith) ∙ second'

          back-A : m_a.inn (at' 1) ≡ at' 0
          back-A =
              ap m_a.inn second' ∙ update_same m₁.inn d x ∙ x-first ∙ sym first'

          pushed : (vs : List ℕ) → Answered' (bag_put end m_a v) vs → PushLeaves Pushed vs
          pushed vs A =
              at-taken single refl (suc i) (omega arith) (omega arith)
              (left_by end
              (others_put end m_a v OA EA' (omega arith) first' apart')
              (own_put end m_a v OA EA' (omega arith) first' apart')
              A)
              (elim all [
                | inl e ↦ inl (ap suc e)
                | inr used ↦
                    inr (λ y l.
                    reached-by end A
                    (reach-put end m_a v OA EA' (omega arith) first' apart' h_a-some back-A
                    (reach-spliced end St₁ hat₁ C x x-last (used y l))))
              ])

          after-splice : (u' : Value) (b c : ℕ) → Leads' (further t0 line2 0 u' x b c no_node) m_a
          after-splice u' b c =
              push-now m_a 0 u' h_a-some (λ e. d-some (sym on-A ∙ e))
              (ap m_a.val EA'.hat-at ∙ EA'.N-before 0 (omega arith))
              pushed x b c

        spliced-push : (u' : Value) (a b c : ℕ)
            → Leads' (further t0 line15 i u' a b c d) m₁
        spliced-push =
            splice-leads end k (growth ws) PushLeaves t0 m₁ i d St₁ hat₁ d-some
            (λ x u' b c x-last. going refl (after-splice x x-last u' b c))

      single-leads : (a b c : ℕ) → Leads' (further t0 line2 n u a b c no_node) m
      single-leads =
          to-28 m n u h-some h-last h-X (λ a b c.
          build-leads end k (growth ws) PushLeaves t0 u a b c m.hats
          (λ m₁ d i new St₁ same_hats C few all. spliced-push m₁ d i new St₁ same_hats C few all u a b c)
          m n St refl
          (λ used. ending (λ e. clash (cc)) (full used)))

    list-leads : (a b c : ℕ) → Leads' (further t0 line2 n u a b c no_node) m
    list-leads a b c =
        elim (less? 1 (spares end)) [
          | inl more ↦ spare-leads more a b c
          | inr few ↦ single-leads (omega (arith, one)) a b c
        ]

  -- ---- From the begin.
  first-stage : (same-hat : HatNow end (viewed s ws)) → Stage end (viewed s ws)
  first-stage hat-now =
      record {
        same = λ x a. record { same_out = refl; same-inn = refl; same-val = refl };
        hats = λ j z o. refl;
        hat-now = hat-now;
      }

  pub push-leads : Leads k ℓ s (node_count ws) (lane_count ws) (growth ws) PushLeaves (begun_task ℓ push s v) (viewed s ws)
  unfolding ℕ_discrete
  push-leads = go (idle-end (own_lane end) s).hat-place
    where
      H-some : hat ws ℓ s ≢ no_node
      H-some = reached-some end.begun (from_hat ℓ s end.is_lane)

      go : {y : ℕ} → HatPlace ws ℓ s (spare end 0) (inner end) y
          → Leads' (begun_task ℓ push s v) (viewed s ws)
      go (in_list e) = list-leads (viewed s ws) 0 never (first-stage (on_list e)) e no_node no_node no_node
      go (beside y o i) =
          let St = first-stage (on-spur y refl (record { same_out = refl; same-inn = refl; same-val = refl })) in
          let q : link ws s (link ws (opposite s) (hat ws ℓ s)) ≡ spare end 0 =
          ap (link ws s) i ∙ inner-leads (own_lane end) s in
          to-67 (viewed s ws) 0 never H-some o y
          (unspur-leads k ℓ s _ _ _ _ t0 (viewed s ws) 0 never no_node H-some y
          (λ e. p-some end (sym i ∙ e))
          (λ e. at_some end 0 (some_spare end) (sym q ∙ e))
          (λ a b c.
          subst (λ (x : ℕ). Leads' (further t0 line2 0 never a b c no_node) (moved ℓ s (viewed s ws) x)) (sym q)
          (list-leads (moved ℓ s (viewed s ws) (spare end 0)) 0 never
          (stage-moved end St)
          (update_hat-same (hat ws) ℓ s (spare end 0)) a b c)))
          no_node no_node no_node
