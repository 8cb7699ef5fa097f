-- An add alone: it takes nodes and splices them in, or says "no".
use mathlib.Core.Path.{◌≡◌, refl, sym, ap, ◌∙◌, subst}
use mathlib.Core.Logic.{◌≢◌, ◌⊎◌, inl, inr}
use mathlib.Core.List.{List}
use Prim.Native.Nat.{ℕ, suc, ◌+◌, ◌-◌, ◌≤◌, ◌<◌}
use native.Mathlib.Omega.{arith}
use Rattle.machine.specs.Outcomes.Answer.{Answer, Yes, No}
use Rattle.machine.specs.Sides.{Side}
use Rattle.machine.specs.Values.{Value, never, N, Y, ◌≟ᵛ◌}
use Rattle.machine.specs.Operations.{add}
use Rattle.machine.specs.Steps.{line15, line17}
use Rattle.machine.specs.Tasks.{Task, no_node, further}
use Rattle.machine.specs.Table.{node_count, growth, lane_count, hat, value}
use Rattle.machine.specs.Lines.{Effect, next, act}
use Rattle.machine.specs.Calls.{begun_task}
use Rattle.machine.specs.Reach.{Reachable, from_hat}
use Rattle.machine_capacity.specs.NoLeak.{HatPlace, in_list, beside, IdleTable}
use Rattle.machine_capacity.specs.Alone.{spur_of}
use Rattle.machine.proofs.Basics.Contradiction.{clash}
use Rattle.machine.proofs.Basics.Updates.{update, update_other, update_hat-same}
use Rattle.machine.proofs.Words.Memories.{View, viewed}
use Rattle.machine.proofs.Linearizability.Model.Guarantee.{SameIn}
use Rattle.machine.proofs.Lines.Connectives.{ok-if, ok-through}
use Rattle.machine_capacity.proofs.Theorem.{list-not-Y}
use Rattle.machine_capacity.proofs.Alone.Ends.{spare-listed, idle-end, not-Y, inner-leads}
use Rattle.machine_capacity.proofs.Alone.Runs.{Leads, Answered, Next, going, ending, line-leads}
use Rattle.machine_capacity.proofs.Alone.Reach.{Reach}
use Rattle.machine_capacity.proofs.Alone.Left.{Left, val_is, left-unchanged, reached-some}
use Rattle.machine_capacity.proofs.Alone.Others.{
  own_lane,
  inner-alive,
  some_spare,
  at_some,
  p-some,
  Stage,
  HatNow,
  on_list,
  on-spur,
}
use Rattle.machine_capacity.proofs.Alone.Build.{Chain, AllUsed, build-leads}
use Rattle.machine_capacity.proofs.Alone.Splice.{
  moved,
  unspur-leads,
  stage-moved,
  chain-moved,
  behind-H,
  reach-moved,
  splice-leads,
}
use Rattle.machine_capacity.proofs.Alone.Finish.{left_by, reached-by, others-spliced, own-spliced, reach-spliced}
use Rattle.machine_capacity.proofs.Alone.CallEnds.{CallEnd, spares, spare, inner}

module _ (end : CallEnd) (k v : ℕ) where
  abbrev pub ws : List ℕ
  ws = end.words

  abbrev pub T : IdleTable end.words
  T = end.table

  abbrev pub ℓ : ℕ
  ℓ = end.lane

  abbrev pub s : Side
  s = end.side

  -- What it answers and leaves.
  pub data AddLeaves (a : Answer) (vs : List ℕ) : Type 0 where
    adds :
        a ≡ Yes
        → (c : ℕ)
        → 1 ≤ c
        → c ≤ suc v
        → Left ws T ℓ s (spares end + c) 0 vs
        → (value ws (hat ws ℓ s) ≡ Y s → value vs (hat ws ℓ s) ≡ Y s)
        → (c ≡ suc v)
        ⊎ ((x : ℕ) → x < node_count ws → (x ≡ hat ws ℓ s → value ws (hat ws ℓ s) ≢ Y s) → Reachable vs x)
        → AddLeaves a vs
    says-no :
        a ≡ No
        → Left ws T ℓ s (spares end) (spur_of s (T.shape ℓ)) vs
        → ((x : ℕ) → x < node_count ws → Reachable vs x)
        → AddLeaves a vs

  abbrev t0 : Task
  t0 = begun_task ℓ add s v

  abbrev Leads' : Task → View → Type 0
  Leads' = Leads k ℓ s (node_count ws) (lane_count ws) (growth ws) AddLeaves

  abbrev Next' : View → Effect → Type 0
  Next' m e = Next k ℓ s (node_count ws) (lane_count ws) (growth ws) AddLeaves m e

  abbrev Answered' : View → List ℕ → Type 0
  Answered' = Answered s (node_count ws) (lane_count ws) (growth ws)

  -- Reached, but for a spur that the hat has left.
  abbrev AllBut : View → (d : ℕ) → Type 0
  AllBut m d =
      (x : ℕ) → x < node_count ws → (x ≡ hat ws ℓ s → value ws (hat ws ℓ s) ≢ Y s) → Reach (lane_count ws) m d x

  -- ---- With the chain made and the hat in the list.
  module _ (m : View) (d i : ℕ) (new : ℕ → ℕ) (St : Stage end m)
      (hat-at : m.hats ℓ s ≡ spare end 0) (C : Chain end m d (suc i) new)
      (few : i ≤ v) (all : (i ≡ v) ⊎ AllBut m d)
      (spur-same : value ws (hat ws ℓ s) ≡ Y s → m.val (hat ws ℓ s) ≡ Y s) where
    d-some : d ≢ no_node
    d-some e = C.not_none 0 (omega arith) (sym C.head ∙ e)

    module _ (x : ℕ) (x-last : x ≡ spare end (spares end - 1)) where
      abbrev m_a : View
      m_a =
          record {
            out = update m.out x d;
            inn = update m.inn d x;
            val = update m.val x (N s);
            hats = m.hats;
          }

      added : (vs : List ℕ) → Answered' m_a vs → AddLeaves Yes vs
      added vs A =
          adds refl (suc i) (omega arith) (omega arith)
          (left_by end (others-spliced end St hat-at C x x-last)
          (own-spliced end St hat-at C x x-last)
          A)
          (λ y.
          val_is s vs A.sees (hat ws ℓ s)
          ∙ update_other m.val x (N s) (hat ws ℓ s)
          (λ e.
          list-not-Y (own_lane end).main_list _
          (spare-listed (own_lane end) s (spares end - 1) (omega (arith, some_spare end)))
          s (ap (value ws) (sym (e ∙ x-last)) ∙ y))
          ∙ spur-same y)
          (elim all [
            | inl e ↦ inl (ap suc e)
            | inr used ↦
                inr (λ y l stays.
                reached-by end A
                (reach-spliced end St hat-at C x x-last (used y l stays)))
          ])

    list-leads : (u : Value) (a b c : ℕ) → Leads' (further t0 line15 i u a b c d) m
    list-leads =
        splice-leads end k (growth ws) AddLeaves t0 m i d St hat-at d-some
        (λ x u b c x-last. ending (λ e. clash (cc)) (added x x-last))

  -- ---- With the chain made and the hat on its spur.
  module _ (m : View) (d i : ℕ) (new : ℕ → ℕ) (St : Stage end m)
      (C : Chain end m d (suc i) new) (few : i ≤ v)
      (all : (i ≡ v) ⊎ AllUsed end m d)
      (y : value ws (hat ws ℓ s) ≡ Y s) (on-H : m.hats ℓ s ≡ hat ws ℓ s)
      (same-H : SameIn (viewed s ws) m (hat ws ℓ s)) where
    H-some : m.hats ℓ s ≢ no_node
    H-some e = reached-some end.begun (from_hat ℓ s end.is_lane) (sym on-H ∙ e)

    H-Y : m.val (m.hats ℓ s) ≡ Y s
    H-Y = ap m.val on-H ∙ same-H.same-val ∙ y

    to-p : m.inn (m.hats ℓ s) ≡ inner end
    to-p = ap m.inn on-H ∙ behind-H end St y on-H same-H

    to-first : m.out (m.inn (m.hats ℓ s)) ≡ spare end 0
    to-first =
        ap m.out to-p
        ∙ (St.same _ (inner-alive end)).same_out
        ∙ inner-leads (own_lane end) s

    after-move : (u : Value) (a b c : ℕ) → Leads' (further t0 line15 i u a b c d) (moved ℓ s m (spare end 0))
    after-move =
        list-leads (moved ℓ s m (spare end 0)) d i new (stage-moved end St)
        (update_hat-same m.hats ℓ s (spare end 0)) (chain-moved end St C) few
        (elim all [
          | inl e ↦ inl e
          | inr used ↦
              inr (λ x l stays.
              reach-moved end St y on-H same-H (used x l) (λ e. stays e y))
        ])
        (λ _. same-H.same-val ∙ y)

    spur-leads : (u : Value) (a b c : ℕ) → Leads' (further t0 line15 i u a b c d) m
    unfolding act
    spur-leads u a b c =
        line-leads k ℓ s _ _ _ _ (λ f.
        going refl
        (line-leads k ℓ s _ _ _ _ (λ f'.
        ok-through (Next' m) (λ e. absurd (H-some e)) (λ _.
        ok-if (Next' m) (λ st. next (further t0 line17 i (m.val (m.hats ℓ s)) (m.hats ℓ s) b c d) st) (_ ≟ᵛ _)
        (λ e. clash (cc (H-Y))) (λ _.
        ok-if (Next' m) (λ st. next (further t0 line17 i (m.val (m.hats ℓ s)) (m.hats ℓ s) b c d) st) (_ ≟ᵛ _)
        (λ _.
        going refl
        (unspur-leads k ℓ s _ _ _ _ t0 m i (m.val (m.hats ℓ s)) d H-some H-Y
        (λ e. p-some end (sym to-p ∙ e))
        (λ e. at_some end 0 (some_spare end) (sym to-first ∙ e))
        (λ a' b' c'.
        subst (λ (x : ℕ). Leads' (further t0 line15 i (m.val (m.hats ℓ s)) a' b' c' d) (moved ℓ s m x)) (sym to-first)
        (after-move (m.val (m.hats ℓ s)) a' b' c'))
        (m.hats ℓ s) b c))
        (λ ne. absurd (ne H-Y)))))))

  -- ---- From the begin.
  first-stage : HatNow end (viewed s ws) → Stage end (viewed s ws)
  first-stage hat-now =
      record {
        same = λ x a. record { same_out = refl; same-inn = refl; same-val = refl };
        hats = λ j z o. refl;
        hat-now = hat-now;
      }

  first-hat : HatNow end (viewed s ws)
  first-hat = go (idle-end (own_lane end) s).hat-place
    where
      go : {y : ℕ} → HatPlace ws ℓ s (spare end 0) (inner end) y
          → HatNow end (viewed s ws)
      go (in_list e) = on_list e
      go (beside y o i) = on-spur y refl (record { same_out = refl; same-inn = refl; same-val = refl })

  pub add-leads : Leads k ℓ s (node_count ws) (lane_count ws) (growth ws) AddLeaves (begun_task ℓ add s v) (viewed s ws)
  add-leads =
      build-leads end k (growth ws) AddLeaves t0 never no_node no_node no_node (hat ws)
      (λ m d i new St same_hats C few all.
      by-hat m d i new St same_hats C few all St.hat-now never no_node no_node no_node)
      (viewed s ws) 0 (first-stage first-hat) refl
      (λ used.
      ending (λ e. clash (cc)) (λ vs A.
      says-no refl
      (left-unchanged T ℓ end.is_lane s A)
      (λ x l.
      reached-by end A
      (used x l))))
    where
      by-hat : (m : View) (d i : ℕ) (new : ℕ → ℕ) → Stage end m
          → m.hats ≡ hat ws
          → Chain end m d (suc i) new
          → i ≤ v
          → (i ≡ v) ⊎ AllUsed end m d
          → HatNow end m
          → (u : Value) (a b c : ℕ)
          → Leads' (further t0 line15 i u a b c d) m
      by-hat m d i new St same_hats C few all (on-spur y on-H same-H) = spur-leads m d i new St C few all y on-H same-H
      by-hat m d i new St same_hats C few all (on_list e) =
          list-leads m d i new St e C few (elim all [ inl q ↦ inl q | inr used ↦ inr (λ x l _. used x l) ])
          (λ y.
          let H-at : hat ws ℓ s ≡ spare end 0 = ap (λ (h : ℕ → Side → ℕ). h ℓ s) (sym same_hats) ∙ e in
          absurd (not-Y (idle-end (own_lane end) s).spares (ap (value ws) (sym H-at) ∙ y)))
