-- Lines 67 to 72, by which a hat leaves its spur; and lines 15 to 25, by which a chain is spliced in.
use mathlib.Core.Path.{◌≡◌, refl, sym, ap, ◌∙◌, subst}
use mathlib.Core.Logic.{◌≢◌, inl, inr}
use mathlib.Core.List.{List, [], ◌∷◌}
use Prim.Native.Nat.{ℕ, zero, suc, ◌+◌, ◌-◌, ◌<◌}
use native.Mathlib.Omega.{arith}
use Rattle.machine.specs.Outcomes.Answer.{Answer}
use Rattle.machine.specs.Choice.{◌≟◌}
use Rattle.machine.specs.Sides.{Side, opposite}
use Rattle.machine.specs.Values.{Value, N, X, Y, ◌≟ᵛ◌}
use Rattle.machine.specs.Steps.{line15, line17, line18, line24, line25, line67, line68, line69, line70, line72}
use Rattle.machine.specs.Tasks.{Task, no_node, further}
use Rattle.machine.specs.Table.{node_count, lane_count, hat, link, value}
use Rattle.machine.specs.Lines.{Effect, out≔, val≔, next, writing, back_of, spliced, act}
use Rattle.machine_capacity.specs.NoLeak.{HatPlace, in_list, beside, IdleTable}
use Rattle.machine.proofs.Basics.Contradiction.{clash, equal?}
use Rattle.machine.proofs.Basics.Updates.{update, update_hat, update_hat-same}
use Rattle.machine.proofs.Words.Memories.{View, viewed}
use Rattle.machine.proofs.Linearizability.Model.Sides.{sides}
use Rattle.machine.proofs.Linearizability.Model.Guarantee.{SameIn}
use Rattle.machine.proofs.Lines.Connectives.{ok-if, ok-through, ok-swap}
use Rattle.machine_capacity.proofs.Alone.Ends.{OtherEnd, other-hat, not-Y, idle-end, leads-in}
use Rattle.machine_capacity.proofs.Alone.Pop.{hat-inward}
use Rattle.machine_capacity.proofs.Alone.Runs.{Leads, Next, going, line-leads}
use Rattle.machine_capacity.proofs.Alone.Reach.{Reach, at-hat, at-root, outward, inward}
use Rattle.machine_capacity.proofs.Alone.Others.{
  own_lane,
  Alive,
  spare-alive,
  some_spare,
  at_some,
  p-some,
  Stage,
  on_list,
}
use Rattle.machine_capacity.proofs.Alone.Build.{Chain}
use Rattle.machine_capacity.proofs.Alone.CallEnds.{CallEnd, spares, spare, inner}

-- The view with the hat at x.
abbrev pub moved : (ℓ : ℕ) → Side → View → (x : ℕ) → View
moved ℓ s m x = record { out = m.out; inn = m.inn; val = m.val; hats = update_hat m.hats ℓ s x }

module _ (k ℓ : ℕ) (s : Side) (S L g : ℕ) (Q : Answer → List ℕ → Type 0) (t0 : Task) (m : View) where
  abbrev Leads' : Task → View → Type 0
  Leads' = Leads k ℓ s S L g Q

  abbrev Next' : Effect → Type 0
  Next' e = Next k ℓ s S L g Q m e

  module _ (n : ℕ) (u : Value) (d : ℕ) (h-some : m.hats ℓ s ≢ no_node) (h-Y : m.val (m.hats ℓ s) ≡ Y s)
      (q-some : m.inn (m.hats ℓ s) ≢ no_node) (w-some : m.out (m.inn (m.hats ℓ s)) ≢ no_node)
      (after : (a b c : ℕ)
      → Leads k ℓ s S L g Q (further t0 (back_of t0.operation (d ≟ no_node)) n u a b c d)
      (moved ℓ s m (m.out (m.inn (m.hats ℓ s))))) where
    abbrev h : ℕ
    h = m.hats ℓ s

    abbrev q : ℕ
    q = m.inn (m.hats ℓ s)

    abbrev w : ℕ
    w = m.out (m.inn (m.hats ℓ s))

    at-72 : Leads' (further t0 line72 n u h q w d) m
    unfolding act
    at-72 =
        line-leads k ℓ s _ _ _ _ (λ f.
        ok-through Next' (λ e. absurd (w-some e)) (λ _.
        ok-if Next' (λ l. writing l (next (further t0 line72 n u h q w d) (back_of t0.operation (d ≟ no_node))))
        (_ ≟ _)
        (λ _. going refl (after h q w)) (λ ne. absurd (ne refl))))

    at-70 : (c : ℕ) → Leads' (further t0 line70 n u h q c d) m
    unfolding act
    at-70 c =
        line-leads k ℓ s _ _ _ _ (λ f.
        ok-through Next' (λ e. absurd (q-some e)) (λ _.
        ok-if Next' (λ st. next (further t0 line70 n u h q w d) st) (_ ≟ _)
        (λ e. absurd (w-some e)) (λ _. going refl at-72)))

    at-69 : (b c : ℕ) → Leads' (further t0 line69 n u h b c d) m
    unfolding act
    at-69 b c =
        line-leads k ℓ s _ _ _ _ (λ f. ok-through Next' (λ e. absurd (h-some e)) (λ _. going refl (at-70 c)))

    at-68 : (b c : ℕ) → Leads' (further t0 line68 n u h b c d) m
    unfolding act
    at-68 b c =
        line-leads k ℓ s _ _ _ _ (λ f.
        ok-through Next' (λ e. absurd (h-some e)) (λ _.
        ok-if Next' (λ st. next (further t0 line68 n u h b c d) st) (_ ≟ᵛ _)
        (λ _. going refl (at-69 b c)) (λ ne. absurd (ne h-Y))))

    pub unspur-leads : (a b c : ℕ) → Leads k ℓ s S L g Q (further t0 line67 n u a b c d) m
    unfolding act
    unspur-leads a b c = line-leads k ℓ s _ _ _ _ (λ f. going refl (at-68 b c))

module _ (end : CallEnd) where
  abbrev pub ws : List ℕ
  ws = end.words

  abbrev pub T : IdleTable end.words
  T = end.table

  abbrev pub ℓ : ℕ
  ℓ = end.lane

  abbrev pub s : Side
  s = end.side

  -- ---- The hat leaves its spur.
  module _ {m : View} (St : Stage end m) where
    abbrev m* : View
    m* = moved ℓ s m (spare end 0)

    hat-moved : m*.hats ℓ s ≡ spare end 0
    hat-moved = update_hat-same m.hats ℓ s (spare end 0)

    others-stay : (j : ℕ) (z : Side) → OtherEnd ℓ (opposite s) j z → m*.hats j z ≡ m.hats j z
    others-stay j z o = other-hat m.hats (spare end 0) (sides s) o

    pub stage-moved : Stage end (moved ℓ s m (spare end 0))
    stage-moved =
        record {
          same = λ x a. let w = St.same x a in
              record { same_out = w.same_out; same-inn = w.same-inn; same-val = w.same-val };
          hats = λ j z o. others-stay j z o ∙ St.hats j z o;
          hat-now = on_list hat-moved;
        }

    pub chain-moved : {d c : ℕ} {new : ℕ → ℕ} → Chain end m d c new
        → Chain end (moved ℓ s m (spare end 0)) d c new
    chain-moved C =
        record {
          some = C.some;
          head = C.head;
          N-before = C.N-before;
          X-last = C.X-last;
          leads = C.leads;
          first-in = C.first-in;
          not-alive = C.not-alive;
          not_none = C.not_none;
          not-hat = λ i l e.
              C.not-alive i l
              (subst (Alive end) (sym (e ∙ hat-moved))
              (spare-alive end 0 (some_spare end)));
        }

    -- All that was reached, but the spur, is reached.
    module _ (v : value ws (hat ws ℓ s) ≡ Y s) (at_H : m.hats ℓ s ≡ hat ws ℓ s)
        (same-H : SameIn (viewed s ws) m (hat ws ℓ s)) where
      out-H : m.out (hat ws ℓ s) ≡ no_node
      out-H = same-H.same_out ∙ go (idle-end (own_lane end) s).hat-place
        where
          go : {y inner : ℕ} → HatPlace ws ℓ s (spare end 0) inner y
              → link ws s (hat ws ℓ s) ≡ no_node
          go (in_list e) =
              absurd (not-Y (idle-end (own_lane end) s).spares
              (ap (value ws) (sym e) ∙ v))
          go (beside _ o _) = o

      pub behind-H : m.inn (hat ws ℓ s) ≡ inner end
      behind-H = same-H.same-inn ∙ hat-inward (own_lane end) s

      reach-p : {d : ℕ} → Reach (lane_count ws) m* d (inner end)
      reach-p {d} =
          let a0 = spare-alive end 0 (some_spare end) in
          let back : m.inn (spare end 0) ≡ inner end =
          (St.same (spare end 0) a0).same-inn ∙ leads-in (own_lane end) s in
          let at-0 : Reach (lane_count ws) m* d (spare end 0) =
          subst (Reach (lane_count ws) m* d) hat-moved (at-hat ℓ s end.is_lane) in
          subst (Reach (lane_count ws) m* d) back
          (inward at-0 (λ q. p-some end (sym back ∙ q)))

      pub reach-moved : {d x : ℕ} → Reach (lane_count ws) m d x → x ≢ hat ws ℓ s
          → Reach (lane_count ws) (moved ℓ s m (spare end 0)) d x
      reach-moved {d} (at-hat j z h) ne =
          elim (equal? j ℓ) [
            | inr nj ↦ subst (Reach (lane_count ws) m* d) (others-stay j z (inl nj)) (at-hat j z h)
            | inl e ↦
                elim ((sides s).either z) [
                  | inr q ↦ subst (Reach (lane_count ws) m* d) (others-stay j z (inr q)) (at-hat j z h)
                  | inl q ↦ absurd (ne (ap (λ (i : ℕ). m.hats i z) e ∙ ap (m.hats ℓ) q ∙ at_H))
                ]
          ]
      reach-moved (at-root ne) _ = at-root ne
      reach-moved {d} (outward {x} c ne) _ =
          elim (equal? x (hat ws ℓ s)) [
            | inl e ↦ absurd (ne (ap m.out e ∙ out-H))
            | inr nx ↦ outward (reach-moved c nx) ne
          ]
      reach-moved {d} (inward {x} c ne) _ =
          elim (equal? x (hat ws ℓ s)) [
            | inl e ↦ subst (Reach (lane_count ws) m* d) (sym (ap m.inn e ∙ behind-H)) reach-p
            | inr nx ↦ inward (reach-moved c nx) ne
          ]

  -- ---- Lines 15 to 25, with the hat in the list.
  module _ (k g : ℕ) (Q : Answer → List ℕ → Type 0) (t0 : Task) (m : View) (n d : ℕ)
      (St : Stage end m) (hat-at : m.hats ℓ s ≡ spare end 0) (d-some : d ≢ no_node) where
    abbrev Leads'' : Task → View → Type 0
    Leads'' = Leads k ℓ s (node_count ws) (lane_count ws) g Q

    abbrev Next'' : View → Effect → Type 0
    Next'' = Next k ℓ s (node_count ws) (lane_count ws) g Q

    -- The view spare end 25.
    abbrev linked_back : (x : ℕ) → View
    linked_back x = record { out = m.out; inn = update m.inn d x; val = m.val; hats = m.hats }

    abbrev Spliced : Type 0
    Spliced =
        (x : ℕ) (u : Value) (b c : ℕ)
        → x ≡ spare end (spares end - 1)
        → Next k ℓ s (node_count ws) (lane_count ws) g Q
        (record { out = m.out; inn = update m.inn d x; val = m.val; hats = m.hats })
        (spliced t0.operation (out≔ x d ∷ val≔ x (N s) ∷ []) (further t0 line25 n u x b c d))

    module _ (splices : Spliced) where
      some : 0 < spares end
      some = some_spare end

      place-some : (i x : ℕ) → i < spares end → x ≡ spare end i → x ≢ no_node
      place-some i x l e q = at_some end i l (sym e ∙ q)

      val_at : (i x : ℕ) → i < spares end → x ≡ spare end i → m.val x ≡ value ws (spare end i)
      val_at i x l e = ap m.val e ∙ (St.same _ (spare-alive end i l)).same-val

      at_25 : (x : ℕ) (u : Value) (b c : ℕ) → x ≡ spare end (spares end - 1)
          → m.out x ≡ b
          → Leads'' (further t0 line25 n u x b c d) (linked_back x)
      unfolding act
      at_25 x u b c e q =
          line-leads k ℓ s _ _ _ _ (λ f.
          ok-through (Next'' (linked_back x)) (λ z. absurd (place-some _ x (omega (arith, some)) e z)) (λ _.
          ok-swap (Next'' (linked_back x)) _ _ (λ _ _. splices x u b c e)
          (λ ne.
          absurd (ne (
            q,
            val_at _ x (omega (arith, some)) e
                ∙ (idle-end (own_lane end) s).spares.X-last _ (omega (arith, some)),
          )))))

      at-24 : (x : ℕ) (u : Value) (b c : ℕ) → x ≡ spare end (spares end - 1)
          → Leads'' (further t0 line24 n u x b c d) m
      unfolding act
      at-24 x u b c e =
          line-leads k ℓ s _ _ _ _ (λ f.
          ok-through (Next'' m) (λ z. absurd (place-some _ x (omega (arith, some)) e z)) (λ _.
          ok-through (Next'' m) (λ z. absurd (d-some z)) (λ _.
          going refl (at_25 x u (m.out x) c e refl))))

      -- The walk to the end.
      walk : (fuel i x : ℕ) (u : Value) (b c : ℕ) → suc (i + fuel) ≡ spares end
          → x ≡ spare end i
          → Leads'' (further t0 line17 n u x b c d) m
      unfolding act
      walk zero i x u b c l e =
          let is-X : m.val x ≡ X s =
          val_at i x (omega arith) e ∙ (idle-end (own_lane end) s).spares.X-last i (omega arith) in
          line-leads k ℓ s _ _ _ _ (λ f.
          ok-through (Next'' m) (λ z. absurd (place-some i x (omega arith) e z)) (λ _.
          ok-if (Next'' m) (λ st. next (further t0 line17 n (m.val x) x b c d) st) (_ ≟ᵛ _) (λ q. clash (cc)) (λ _.
          ok-if (Next'' m) (λ st. next (further t0 line17 n (m.val x) x b c d) st) (_ ≟ᵛ _) (λ q. clash (cc)) (λ _.
          ok-if (Next'' m) (λ st. next (further t0 line17 n (m.val x) x b c d) st) (_ ≟ᵛ _)
          (λ _.
          let z : i ≡ spares end - 1 = omega arith in
          going refl (at-24 x (m.val x) b c (e ∙ ap (spare end) z)))
          (λ ne. absurd (ne is-X))))))
      walk (suc fuel) i x u b c l e =
          let is-N : m.val x ≡ N s =
          val_at i x (omega arith) e ∙ (idle-end (own_lane end) s).spares.N-before i (omega arith) in
          let on : m.out x ≡ spare end (suc i) =
          ap m.out e
          ∙ (St.same _ (spare-alive end i (omega arith))).same_out
          ∙ (idle-end (own_lane end) s).spares.leads i (omega arith) in
          let further-on = walk fuel (suc i) (m.out x) (m.val x) b c (omega arith) on in
          line-leads k ℓ s _ _ _ _ (λ f.
          ok-through (Next'' m) (λ z. absurd (place-some i x (omega arith) e z)) (λ _.
          ok-if (Next'' m) (λ st. next (further t0 line17 n (m.val x) x b c d) st) (_ ≟ᵛ _)
          (λ _.
          going refl
          (line-leads k ℓ s _ _ _ _ (λ f'.
          ok-through (Next'' m) (λ z. absurd (place-some i x (omega arith) e z)) (λ _.
          ok-if (Next'' m) (λ st. next (further t0 line18 n (m.val x) (m.out x) b c d) st) (_ ≟ _)
          (λ z. absurd (place-some (suc i) (m.out x) (omega arith) on z))
          (λ _. going refl further-on)))))
          (λ ne. absurd (ne is-N))))

      pub splice-leads : (u : Value) (a b c : ℕ)
          → Leads k ℓ s (node_count ws) (lane_count ws) g Q (further t0 line15 n u a b c d) m
      unfolding act
      splice-leads u a b c =
          line-leads k ℓ s _ _ _ _ (λ f.
          going refl (walk (spares end - 1) 0 (m.hats ℓ s) u b c (omega (arith, some)) hat-at))
