-- The own end after a splice and after a push: its spare nodes, and what is reached.
use mathlib.Core.Path.{◌≡◌, refl, sym, ap, ◌∙◌, subst}
use mathlib.Core.Logic.{◌≢◌, inl, inr}
use mathlib.Core.List.{List}
use Prim.Native.Nat.{ℕ, zero, suc, ◌+◌, ◌-◌, ◌≤◌, ◌<◌}
use native.Mathlib.Omega.{arith}
use Rattle.machine.specs.Choice.{◌<?◌, if?◌then◌else◌}
use Rattle.machine.specs.Sides.{Side}
use Rattle.machine.specs.Values.{bag, N, X}
use Rattle.machine.specs.Tasks.{no_node}
use Rattle.machine.specs.Table.{node_count, growth, lane_count, hat, value}
use Rattle.machine.specs.Reach.{Reachable}
use Rattle.machine_capacity.specs.NoLeak.{in_list, IdleTable}
use Rattle.machine.proofs.Basics.Contradiction.{equal?, less?}
use Rattle.machine.proofs.Basics.Choices.{if_yes, if_no}
use Rattle.machine.proofs.Basics.Updates.{update, update_same, update_other, update_hat, update_hat-same}
use Rattle.machine.proofs.Words.Memories.{View, viewed}
use Rattle.machine.proofs.Linearizability.Model.Sides.{sides}
use Rattle.machine.proofs.Linearizability.Model.Guarantee.{SameIn}
use Rattle.machine_capacity.proofs.Alone.Ends.{
  other-hat,
  Spares,
  not-Y,
  places-differ,
  spare-listed,
  idle-end,
  last_none,
}
use Rattle.machine_capacity.proofs.Alone.Reach.{Reach, at-hat, at-root, outward, inward, from_view, idle-root}
use Rattle.machine_capacity.proofs.Alone.Runs.{Answered}
use Rattle.machine_capacity.proofs.Alone.Left.{Left, out-is, val_is, hat_is}
use Rattle.machine_capacity.proofs.Alone.Others.{
  own_lane,
  Alive,
  spare-alive,
  some_spare,
  at_some,
  Stage,
  Others,
  others-kept,
}
use Rattle.machine_capacity.proofs.Alone.Build.{Chain}
use Rattle.machine_capacity.proofs.Alone.CallEnds.{CallEnd, spares, spare}

module _ (end : CallEnd) where
  abbrev pub ws : List ℕ
  ws = end.words

  abbrev pub T : IdleTable end.words
  T = end.table

  abbrev pub ℓ : ℕ
  ℓ = end.lane

  abbrev pub s : Side
  s = end.side

  pub spares-differ : (i j : ℕ) → i < spares end → j < spares end
      → spare end i ≡ spare end j
      → i ≡ j
  spares-differ i j hi hj e =
      let k = own_lane end in
      places-differ (T.shape ℓ) s i j hi hj
      (k.main_list.different _ _ (spare-listed k s i hi) (spare-listed k s j hj) e)

  -- The own end in a view, with the hat in the list.
  pub record OwnList (m : View) (at' : ℕ → ℕ) (c : ℕ) : Type 0 where
    pub some : 1 ≤ c
    pub N-before : (i : ℕ) → suc i < c → m.val (at' i) ≡ N s
    pub X-last : (i : ℕ) → suc i ≡ c → m.val (at' i) ≡ X s
    pub leads : (i : ℕ) → suc i < c → m.out (at' i) ≡ at' (suc i)
    pub hat-at : m.hats ℓ s ≡ at' 0

  -- So it is left.
  abbrev AnsweredAt : View → List ℕ → Type 0
  AnsweredAt = Answered s (node_count ws) (lane_count ws) (growth ws)

  pub left_by : {m : View} {at' : ℕ → ℕ} {c : ℕ} {vs : List ℕ} → Others end m → OwnList m at' c → AnsweredAt m vs
      → Left ws T ℓ s c 0 vs
  left_by {m} {at'} {c} {vs} O E A =
      record {
        begun = A.begun;
        idle_now = A.idle_now;
        same_nodes = A.same_nodes;
        same_growth = A.same_growth;
        same-lanes = A.same-lanes;
        at = at';
        inner = 0;
        own-end =
            record {
              spares = own;
              leads-out = λ v. absurd (not-Y own (ap (value vs) (sym at-0) ∙ v));
              hat-place = in_list at-0;
            };
        others-kept = λ j z h o. others-kept end O vs A.sees j z h o;
      }
    where
      own : Spares vs s at' c
      own =
          record {
            some = E.some;
            N-before = λ i h. val_is s vs A.sees (at' i) ∙ E.N-before i h;
            X-last = λ i h. val_is s vs A.sees (at' i) ∙ E.X-last i h;
            leads = λ i h. out-is s vs A.sees (at' i) ∙ E.leads i h;
          }

      at-0 : hat vs ℓ s ≡ at' 0
      at-0 = hat_is s vs A.sees ℓ s ∙ E.hat-at

  -- What is reached in the last view is reached in the table.
  pub reached-by : {m : View} {vs : List ℕ} → AnsweredAt m vs → {x : ℕ} → Reach (lane_count ws) m no_node x
      → Reachable vs x
  reached-by {m} {vs} A {x} c =
      from_view s vs (idle-root A.begun A.idle_now)
      (subst (λ (i : ℕ). Reach i (viewed s vs) no_node x) (sym A.same-lanes)
      (subst (λ (y : View). Reach (lane_count ws) y no_node x) (sym A.sees) c))

  -- ---- Before anything is written.
  pub own_first : {m : View} → Stage end m → m.hats ℓ s ≡ spare end 0
      → OwnList m (spare end) (spares end)
  own_first {m} St e =
      let E = (idle-end (own_lane end) s).spares in
      let w : (i : ℕ) → i < spares end → SameIn (viewed s ws) m (spare end i) =
      λ i l. St.same _ (spare-alive end i l) in
      record {
        some = E.some;
        N-before = λ i h. (w i (omega arith)).same-val ∙ E.N-before i h;
        X-last = λ i h. (w i (omega arith)).same-val ∙ E.X-last i h;
        leads = λ i h. (w i (omega arith)).same_out ∙ E.leads i h;
        hat-at = e;
      }

  -- ---- A push: the bag at the innermost spare node.
  module _ (m : View) (v : ℕ) where
    abbrev pub bag_put : View
    bag_put =
        record {
          out = m.out;
          inn = m.inn;
          val = update m.val (m.hats ℓ s) (bag v);
          hats = update_hat m.hats ℓ s (m.out (m.hats ℓ s));
        }

    module _ (O : Others end m) {at' : ℕ → ℕ} {c : ℕ} (E : OwnList m at' (suc c)) (more : 1 ≤ c)
        (first : at' 0 ≡ spare end 0) (apart : (i : ℕ) → i < c → at' (suc i) ≢ at' 0) where
      hat-first : m.hats ℓ s ≡ spare end 0
      hat-first = E.hat-at ∙ first

      pub others_put : Others end bag_put
      others_put =
          record {
            safe = λ x a n.
                let w = O.safe x a n in
                record {
                  same_out = w.same_out;
                  same-inn = w.same-inn;
                  same-val =
                      update_other m.val (m.hats ℓ s) (bag v) x
                      (λ e. n 0 (some_spare end) (sym (e ∙ hat-first)))
                      ∙ w.same-val;
                };
            same-inward = O.same-inward;
            hats = λ j z o. other-hat m.hats (m.out (m.hats ℓ s)) (sides s) o ∙ O.hats j z o;
          }

      kept-val : (i : ℕ) → i < c → bag_put.val (at' (suc i)) ≡ m.val (at' (suc i))
      kept-val i l =
          update_other m.val (m.hats ℓ s) (bag v) (at' (suc i)) (λ e. apart i l (e ∙ E.hat-at))

      pub own_put : OwnList bag_put (λ i. at' (suc i)) c
      own_put =
          record {
            some = more;
            N-before = λ i h. kept-val i (omega arith) ∙ E.N-before (suc i) (omega arith);
            X-last = λ i h. kept-val i (omega arith) ∙ E.X-last (suc i) (omega arith);
            leads = λ i h. E.leads (suc i) (omega arith);
            hat-at =
                update_hat-same m.hats ℓ s (m.out (m.hats ℓ s))
                ∙ ap m.out E.hat-at
                ∙ E.leads 0 (omega arith);
          }

      -- All that was reached is reached.
      module _ (h-some : m.hats ℓ s ≢ no_node) (back : m.inn (at' 1) ≡ at' 0) where
        abbrev h : ℕ
        h = m.hats ℓ s

        hat-put : bag_put.hats ℓ s ≡ at' 1
        hat-put = own_put.hat-at

        reach-h : Reach (lane_count ws) bag_put no_node h
        reach-h =
            let here : Reach (lane_count ws) bag_put no_node (at' 1) =
            subst (Reach (lane_count ws) bag_put no_node) hat-put (at-hat ℓ s end.is_lane) in
            let q : m.inn (at' 1) ≡ h = back ∙ sym E.hat-at in
            subst (Reach (lane_count ws) bag_put no_node) q (inward here (λ e. h-some (sym q ∙ e)))

        pub reach-put : {x : ℕ} → Reach (lane_count ws) m no_node x → Reach (lane_count ws) bag_put no_node x
        reach-put (at-hat j z l) =
            elim (equal? j ℓ) [
              | inr nj ↦
                  subst (Reach (lane_count ws) bag_put no_node)
                  (other-hat m.hats (m.out (m.hats ℓ s)) (sides s) {j = j} {z = z} (inl nj)) (at-hat j z l)
              | inl e ↦
                  elim ((sides s).either z) [
                    | inr q ↦
                        subst (Reach (lane_count ws) bag_put no_node)
                        (other-hat m.hats (m.out (m.hats ℓ s)) (sides s) {j = j} {z = z} (inr q)) (at-hat j z l)
                    | inl q ↦
                        subst (Reach (lane_count ws) bag_put no_node)
                        (sym (ap (λ (i : ℕ). m.hats i z) e ∙ ap (m.hats ℓ) q)) reach-h
                  ]
            ]
        reach-put (at-root ne) = absurd (ne refl)
        reach-put (outward c ne) = outward (reach-put c) ne
        reach-put (inward c ne) = inward (reach-put c) ne

  -- ---- A splice: the chain behind the last spare node.
  module _ {m : View} (St : Stage end m) (hat-at : m.hats ℓ s ≡ spare end 0)
      {d c : ℕ} {new : ℕ → ℕ} (C : Chain end m d c new) (x : ℕ)
      (x-last : x ≡ spare end (spares end - 1)) where
    -- The view with the chain behind x.
    abbrev pub m_a : View
    m_a =
        record {
          out = update m.out x d;
          inn = update m.inn d x;
          val = update m.val x (N s);
          hats = m.hats;
        }

    some_at : 0 < spares end
    some_at = some_spare end

    dead-d : Alive end d → ⊥
    dead-d a = C.not-alive 0 C.some (subst (Alive end) C.head a)

    pub others-spliced : Others end m_a
    others-spliced =
        record {
          safe = λ y a n.
              let w = St.same y a in
              let ne : y ≢ x = λ e. n (spares end - 1) (omega (arith, some_at)) (sym (e ∙ x-last)) in
              let nd : y ≢ d = λ e. dead-d (subst (Alive end) e a) in
              record {
                same_out = update_other m.out x d y ne ∙ w.same_out;
                same-inn = update_other m.inn d x y nd ∙ w.same-inn;
                same-val = update_other m.val x (N s) y ne ∙ w.same-val;
              };
          same-inward = λ y a.
              let nd : y ≢ d = λ e. dead-d (subst (Alive end) e a) in
              update_other m.inn d x y nd ∙ (St.same y a).same-inn;
          hats = St.hats;
        }

    -- The spare nodes, and then the chain.
    abbrev pub joined : ℕ → ℕ
    joined i = if? i <? spares end then spare end i else new (i - spares end)

    pub joined-old : (i : ℕ) → i < spares end → joined i ≡ spare end i
    joined-old i l = if_yes (i <? spares end) _ _ l

    pub joined-new : (i : ℕ) → spares end ≤ i → joined i ≡ new (i - spares end)
    joined-new i l = if_no (i <? spares end) _ _ (λ h. omega arith)

    new-not-x : (i : ℕ) → i < c → new i ≢ x
    new-not-x i l e =
        C.not-alive i l
        (subst (Alive end) (sym (e ∙ x-last))
        (spare-alive end _ (omega (arith, some_at))))

    old-not-x : (i : ℕ) → suc i < spares end → spare end i ≢ x
    old-not-x i l e =
        let q = spares-differ i (spares end - 1) (omega arith) (omega arith) (e ∙ x-last) in
        omega arith

    first-own : OwnList m (spare end) (spares end)
    first-own = own_first St hat-at

    N-now : (i : ℕ) → suc i < spares end + c → m_a.val (joined i) ≡ N s
    N-now i h =
        elim (less? i (spares end)) [
          | inl l ↦
              elim (equal? (suc i) (spares end)) [
                | inl e ↦
                    let q : joined i ≡ x =
                    joined-old i l ∙ ap (spare end) (omega arith) ∙ sym x-last in
                    ap m_a.val q ∙ update_same m.val x (N s)
                | inr ne ↦
                    ap m_a.val (joined-old i l)
                    ∙ update_other m.val x (N s) _ (old-not-x i (omega arith))
                    ∙ first-own.N-before i (omega arith)
              ]
          | inr l ↦
              ap m_a.val (joined-new i l)
              ∙ update_other m.val x (N s) _ (new-not-x (i - spares end) (omega arith))
              ∙ C.N-before (i - spares end) (omega arith)
        ]

    leads-now : (i : ℕ) → suc i < spares end + c → m_a.out (joined i) ≡ joined (suc i)
    leads-now i h =
        elim (less? i (spares end)) [
          | inl l ↦
              elim (equal? (suc i) (spares end)) [
                | inl e ↦
                    let q : joined i ≡ x =
                    joined-old i l ∙ ap (spare end) (omega arith) ∙ sym x-last in
                    let z : suc i - spares end ≡ 0 = omega arith in
                    ap m_a.out q
                    ∙ update_same m.out x d
                    ∙ C.head
                    ∙ ap new (sym z)
                    ∙ sym (joined-new (suc i) (omega arith))
                | inr ne ↦
                    ap m_a.out (joined-old i l)
                    ∙ update_other m.out x d _ (old-not-x i (omega arith))
                    ∙ first-own.leads i (omega arith)
                    ∙ sym (joined-old (suc i) (omega arith))
              ]
          | inr l ↦
              let z : suc i - spares end ≡ suc (i - spares end) = omega arith in
              ap m_a.out (joined-new i l)
              ∙ update_other m.out x d _ (new-not-x (i - spares end) (omega arith))
              ∙ C.leads (i - spares end) (omega arith)
              ∙ ap new (sym z)
              ∙ sym (joined-new (suc i) (omega arith))
        ]

    pub own-spliced : OwnList m_a joined (spares end + c)
    own-spliced =
        record {
          some = omega (arith, some_at);
          N-before = N-now;
          X-last = λ i h.
              let one = C.some in
              ap m_a.val (joined-new i (omega arith))
              ∙ update_other m.val x (N s) _ (new-not-x (i - spares end) (omega arith))
              ∙ C.X-last (i - spares end) (omega arith);
          leads = leads-now;
          hat-at = hat-at ∙ sym (joined-old 0 some_at);
        }

    pub joined-apart : (i : ℕ) → suc i < spares end + c → joined (suc i) ≢ joined 0
    joined-apart i h e =
        elim (less? (suc i) (spares end)) [
          | inl l ↦
              let q = spares-differ (suc i) 0 l some_at (sym (joined-old (suc i) l) ∙ e ∙ joined-old 0 some_at) in
              omega arith
          | inr l ↦
              C.not-alive (suc i - spares end) (omega arith)
              (subst (Alive end)
              (sym (sym (joined-new (suc i) l) ∙ e ∙ joined-old 0 some_at))
              (spare-alive end 0 some_at))
        ]

    -- All that was reached is reached.
    reach-own : (i : ℕ) → i < spares end → Reach (lane_count ws) m_a no_node (spare end i)
    reach-own zero l = subst (Reach (lane_count ws) m_a no_node) hat-at (at-hat ℓ s end.is_lane)
    reach-own (suc i) l =
        let q : m_a.out (spare end i) ≡ spare end (suc i) =
        update_other m.out x d _ (old-not-x i l) ∙ first-own.leads i l in
        subst (Reach (lane_count ws) m_a no_node) q
        (outward (reach-own i (omega arith)) (λ e. at_some end (suc i) l (sym q ∙ e)))

    x-out : m.out x ≡ no_node
    x-out =
        ap m.out x-last
        ∙ (St.same _ (spare-alive end _ (omega (arith, some_at)))).same_out
        ∙ last_none (own_lane end) s (spares end - 1) (omega (arith, some_at))

    d-inn : m.inn d ≡ no_node
    d-inn = ap m.inn C.head ∙ C.first-in

    pub reach-spliced : {y : ℕ} → Reach (lane_count ws) m d y
        → Reach (lane_count ws) m_a no_node y
    reach-spliced (at-hat j z l) = at-hat j z l
    reach-spliced (at-root ne) =
        let here : Reach (lane_count ws) m_a no_node x =
        subst (Reach (lane_count ws) m_a no_node) (sym x-last) (reach-own (spares end - 1) (omega (arith, some_at))) in
        let q : m_a.out x ≡ d = update_same m.out x d in
        subst (Reach (lane_count ws) m_a no_node) q (outward here (λ e. ne (sym q ∙ e)))
    reach-spliced (outward {x = y} k ne) =
        elim (equal? y x) [
          | inl e ↦ absurd (ne (ap m.out e ∙ x-out))
          | inr nx ↦
              let q : m_a.out y ≡ m.out y = update_other m.out x d y nx in
              subst (Reach (lane_count ws) m_a no_node) q (outward (reach-spliced k) (λ e. ne (sym q ∙ e)))
        ]
    reach-spliced (inward {x = y} k ne) =
        elim (equal? y d) [
          | inl e ↦ absurd (ne (ap m.inn e ∙ d-inn))
          | inr nd ↦
              let q : m_a.inn y ≡ m.inn y = update_other m.inn d x y nd in
              subst (Reach (lane_count ws) m_a no_node) q (inward (reach-spliced k) (λ e. ne (sym q ∙ e)))
        ]
