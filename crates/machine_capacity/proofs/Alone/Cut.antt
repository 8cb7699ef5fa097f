-- Lines 62 to 82: a remove alone has cut behind the node at v, and marks and unlinks what it cut off.
use mathlib.Core.Path.{◌≡◌, refl, sym, ap, ◌∙◌}
use mathlib.Core.Logic.{◌≢◌}
use mathlib.Core.List.{List}
use Prim.Native.Nat.{ℕ, zero, suc, ◌+◌, ◌-◌, ◌≤◌, ◌<◌}
use native.Mathlib.Omega.{arith}
use Rattle.machine.specs.Outcomes.Answer.{Answer, Yes, No}
use Rattle.machine.specs.Choice.{◌≟◌}
use Rattle.machine.specs.Sides.{Side}
use Rattle.machine.specs.Values.{Value, N, X, Y, ◌≟ᵛ◌}
use Rattle.machine.specs.Operations.{remove}
use Rattle.machine.specs.Steps.{line64, line74, line77, line81, line82}
use Rattle.machine.specs.Tasks.{Task, no_node, further}
use Rattle.machine.specs.Table.{node_count, growth, lane_count, hat, link, value}
use Rattle.machine.specs.Lines.{Effect, next, writing, act}
use Rattle.machine.specs.Calls.{begun_task}
use Rattle.machine_capacity.specs.NoLeak.{IdleTable}
use Rattle.machine_capacity.specs.Alone.{spur_of}
use Rattle.machine.proofs.Basics.Contradiction.{clash}
use Rattle.machine.proofs.Basics.Updates.{update, update_same, update_other}
use Rattle.machine.proofs.Words.Memories.{View, viewed}
use Rattle.machine.proofs.Lines.Connectives.{ok-if, ok-through}
use Rattle.machine_capacity.proofs.Alone.Ends.{Spares, idle-end, not-Y, last_none}
use Rattle.machine_capacity.proofs.Alone.Runs.{Leads, Answered, Next, going, ending, line-leads}
use Rattle.machine_capacity.proofs.Alone.Left.{Left}
use Rattle.machine_capacity.proofs.Alone.Others.{own_lane, at_some, Others}
use Rattle.machine_capacity.proofs.Alone.Finish.{left_by, spares-differ}
use Rattle.machine_capacity.proofs.Alone.CallEnds.{CallEnd, spares, spare}

module _ (end : CallEnd) (k v : ℕ) where
  abbrev pub ws : List ℕ
  ws = end.words

  abbrev pub T : IdleTable end.words
  T = end.table

  abbrev pub ℓ : ℕ
  ℓ = end.lane

  abbrev pub s : Side
  s = end.side

  -- What it answers and leaves.
  pub data RemoveLeaves (a : Answer) (vs : List ℕ) : Type 0 where
    on-spur-yes :
        a ≡ Yes
        → value ws (hat ws ℓ s) ≡ Y s
        → Left ws T ℓ s (spares end) (spur_of s (T.shape ℓ)) vs
        → RemoveLeaves a vs
    few-yes :
        a ≡ Yes
        → value ws (hat ws ℓ s) ≢ Y s
        → spares end < v + 2
        → Left ws T ℓ s (spares end) (spur_of s (T.shape ℓ)) vs
        → RemoveLeaves a vs
    one-no :
        a ≡ No
        → value ws (hat ws ℓ s) ≢ Y s
        → spares end ≡ v + 2
        → Left ws T ℓ s (spares end) (spur_of s (T.shape ℓ)) vs
        → RemoveLeaves a vs
    cuts-yes :
        a ≡ Yes
        → value ws (hat ws ℓ s) ≢ Y s
        → v + 2 < spares end
        → Left ws T ℓ s (suc v) 0 vs
        → RemoveLeaves a vs

  abbrev pub t0 : Task
  t0 = begun_task ℓ remove s v

  abbrev pub Leads' : Task → View → Type 0
  Leads' = Leads k ℓ s (node_count ws) (lane_count ws) (growth ws) RemoveLeaves

  abbrev pub Next' : View → Effect → Type 0
  Next' m e = Next k ℓ s (node_count ws) (lane_count ws) (growth ws) RemoveLeaves m e

  abbrev pub Answered' : View → List ℕ → Type 0
  Answered' = Answered s (node_count ws) (lane_count ws) (growth ws)

  abbrev pub m0 : View
  m0 = viewed s ws

  abbrev pub H : ℕ
  H = hat ws ℓ s

  -- ---- With the hat in the list.
  module _ (hat-at : hat ws ℓ s ≡ spare end 0) where
    pub own-spares : Spares ws s (spare end) (spares end)
    own-spares = (idle-end (own_lane end) s).spares

    pub off-Y : value ws (hat ws ℓ s) ≢ Y s
    off-Y y = not-Y own-spares (ap (value ws) (sym hat-at) ∙ y)

    pub some_at : (i x : ℕ) → i < spares end → x ≡ spare end i → x ≢ no_node
    some_at i x l e q = at_some end i l (sym e ∙ q)

    differ : (i j : ℕ) → i < spares end → j < spares end → i ≢ j
        → spare end i ≢ spare end j
    differ i j hi hj ne e = ne (spares-differ end i j hi hj e)

    -- A node of the own end written.
    own-other : (i x : ℕ) → i < spares end → x ≡ spare end i → (y : ℕ)
        → ((j : ℕ) → j < spares end → spare end j ≢ y)
        → y ≢ x
    own-other i x l e y n q = n i l (sym (q ∙ e))

    -- The nodes up to v stay, the one at v is the last; from j on nothing is unlinked yet, and after j nothing is
    -- marked.
    record Cut (m : View) (j : ℕ) : Type 0 where
      pub past : v < j
      pub others : Others end m
      pub hat-same : m.hats ℓ s ≡ spare end 0
      pub keep-val : (i : ℕ) → i < v → m.val (spare end i) ≡ N s
      pub last-val : m.val (spare end v) ≡ X s
      pub keep_out : (i : ℕ) → i < v → m.out (spare end i) ≡ spare end (suc i)
      pub rest_out : (i : ℕ) → j ≤ i → i < spares end → m.out (spare end i) ≡ link ws s (spare end i)
      pub rest-val : (i : ℕ) → j < i → i < spares end → m.val (spare end i) ≡ value ws (spare end i)

    cut-done : (m : View) (j : ℕ) → Cut m j → v + 2 < spares end → {vs : List ℕ} → Answered' m vs
        → RemoveLeaves Yes vs
    cut-done m j C more A =
        cuts-yes refl off-Y more
        (left_by end C.others
        (record {
          some = omega arith;
          N-before = λ i h. C.keep-val i (omega arith);
          X-last = λ i h.
              let e : i ≡ v = omega arith in
              ap (λ (q : ℕ). m.val (spare end q)) e ∙ C.last-val;
          leads = λ i h. C.keep_out i (omega arith);
          hat-at = C.hat-same;
        })
        A)

    -- An outward link of the own end, behind v, set to none.
    module _ {m : View} {j : ℕ} (C : Cut m j) (x : ℕ) (e : x ≡ spare end j) (l : j < spares end) where
      abbrev unlinked : View
      unlinked = record { out = update m.out x no_node; inn = m.inn; val = m.val; hats = m.hats }

      at-not-x : (i : ℕ) → i < spares end → i ≢ j → spare end i ≢ x
      at-not-x i li ne q = differ i j li l ne (q ∙ e)

      others-unlinked : Others end unlinked
      others-unlinked =
          record {
            safe = λ y a n.
                let w = C.others.safe y a n in
                record {
                  same_out = update_other m.out x no_node y (own-other j x l e y n) ∙ w.same_out;
                  same-inn = w.same-inn;
                  same-val = w.same-val;
                };
            same-inward = C.others.same-inward;
            hats = C.others.hats;
          }

    -- ---- Line 82.
    at-82 : (m : View) (j : ℕ) → Cut m j → (x n : ℕ) (u : Value) (b c : ℕ) → x ≡ spare end j
        → j < spares end
        → v + 2 < spares end
        → Leads' (further t0 line82 n u x b c no_node) m
    unfolding act
    at-82 m j C x n u b c e l more =
        line-leads k ℓ s _ _ _ _ (λ f.
        ok-through (Next' m) (λ z. absurd (some_at j x l e z)) (λ _.
        ending (λ z. clash (cc)) (λ vs A.
        let p = C.past in
        cut-done (unlinked C x e l) (suc j)
        (record {
          past = omega arith;
          others = others-unlinked C x e l;
          hat-same = C.hat-same;
          keep-val = C.keep-val;
          last-val = C.last-val;
          keep_out = λ i h.
              update_other m.out x no_node _ (at-not-x C x e l i (omega arith) (λ q. omega arith)) ∙ C.keep_out i h;
          rest_out = λ i h li.
              update_other m.out x no_node _ (at-not-x C x e l i li (λ q. omega arith))
              ∙ C.rest_out i (omega arith) li;
          rest-val = λ i h li. C.rest-val i (omega arith) li;
        }) more A)))

    -- ---- Lines 77 to 81: the next node is marked, and this one is unlinked.
    module _ {m : View} {j : ℕ} (C : Cut m j) (x b : ℕ) (e : x ≡ spare end j)
        (eb : b ≡ spare end (suc j)) (l : suc j < spares end) where
      abbrev marked : View
      marked = record { out = m.out; inn = m.inn; val = update m.val b (Y s); hats = m.hats }

      abbrev onward : View
      onward = record { out = update m.out x no_node; inn = m.inn; val = update m.val b (Y s); hats = m.hats }

      not-b : (i : ℕ) → i < spares end → i ≢ suc j → spare end i ≢ b
      not-b i li ne q = differ i (suc j) li l ne (q ∙ eb)

      not-x : (i : ℕ) → i < spares end → i ≢ j → spare end i ≢ x
      not-x i li ne q = differ i j li (omega arith) ne (q ∙ e)

      cut-onward : Cut onward (suc j)
      cut-onward =
          let p = C.past in
          record {
            past = omega arith;
            others =
                record {
                  safe = λ y a n.
                      let w = C.others.safe y a n in
                      record {
                        same_out = update_other m.out x no_node y (own-other j x (omega arith) e y n) ∙ w.same_out;
                        same-inn = w.same-inn;
                        same-val = update_other m.val b (Y s) y (own-other (suc j) b l eb y n) ∙ w.same-val;
                      };
                  same-inward = C.others.same-inward;
                  hats = C.others.hats;
                };
            hat-same = C.hat-same;
            keep-val = λ i h.
                update_other m.val b (Y s) _ (not-b i (omega arith) (λ q. omega arith)) ∙ C.keep-val i h;
            last-val =
                update_other m.val b (Y s) _ (not-b v (omega arith) (λ q. omega arith)) ∙ C.last-val;
            keep_out = λ i h.
                update_other m.out x no_node _ (not-x i (omega arith) (λ q. omega arith)) ∙ C.keep_out i h;
            rest_out = λ i h li.
                update_other m.out x no_node _ (not-x i li (λ q. omega arith)) ∙ C.rest_out i (omega arith) li;
            rest-val = λ i h li.
                update_other m.val b (Y s) _ (not-b i li (λ q. omega arith)) ∙ C.rest-val i (omega arith) li;
          }

      -- The node at b leads on as it did.
      on-b : onward.out b ≡ link ws s (spare end (suc j))
      on-b = ap onward.out eb ∙ cut-onward.rest_out (suc j) (omega arith) l

      read-b : m.val b ≡ value ws (spare end (suc j))
      read-b = ap m.val eb ∙ C.rest-val (suc j) (omega arith) l

      x-some : x ≢ no_node
      x-some = some_at j x (omega arith) e

      b-some : b ≢ no_node
      b-some = some_at (suc j) b l eb

      -- Line 81 is told what comes next.
      next-node : (n : ℕ) (c : ℕ) → Leads' (further t0 line81 n (m.val b) b b c no_node) onward
          → (u : Value)
          → Leads' (further t0 line77 n u x b c no_node) m
      unfolding act
      next-node n c on-81 u =
          line-leads k ℓ s _ _ _ _ (λ f.
          ok-through (Next' m) (λ z. absurd (b-some z)) (λ _.
          going refl
          (line-leads k ℓ s _ _ _ _ (λ f'.
          ok-through (Next' m) (λ z. absurd (b-some z)) (λ _.
          ok-if (Next' m) (λ q. q) (_ ≟ᵛ _)
          (λ _.
          going refl
          (line-leads k ℓ s _ _ _ _ (λ f''.
          ok-through (Next' marked) (λ z. absurd (x-some z)) (λ _. going refl on-81))))
          (λ ne. absurd (ne refl)))))))

    loop : (fuel j : ℕ) (m : View) → Cut m j → (x b n : ℕ) (u : Value) (c : ℕ) → x ≡ spare end j
        → b ≡ spare end (suc j)
        → suc (suc (j + fuel)) ≡ spares end
        → v + 2 < spares end
        → Leads' (further t0 line77 n u x b c no_node) m
    unfolding act
    loop zero j m C x b n u c e eb l more =
        let h : suc j < spares end = omega arith in
        let m' = onward C x b e eb h in
        let t81 : ℕ → Task = λ b'. further t0 line81 n (m.val b) b b' c no_node in
        let ends-here : m'.out b ≡ no_node =
        on-b C x b e eb h ∙ last_none (own_lane end) s (suc j) (omega arith) in
        next-node C x b e eb h n c
        (line-leads k ℓ s _ _ _ _ (λ f.
        ok-through (Next' m') (λ z. absurd (b-some C x b e eb h z)) (λ _.
        ok-if (Next' m') (λ st. next (t81 (m'.out b)) st) (_ ≟ _)
        (λ _.
        going refl
        (at-82 m' (suc j) (cut-onward C x b e eb h) b n (m.val b) (m'.out b) c eb h more))
        (λ ne. absurd (ne ends-here)))))
        u
    loop (suc fuel) j m C x b n u c e eb l more =
        let h : suc j < spares end = omega arith in
        let m' = onward C x b e eb h in
        let t81 : ℕ → Task = λ b'. further t0 line81 n (m.val b) b b' c no_node in
        let on : m'.out b ≡ spare end (suc (suc j)) =
        on-b C x b e eb h ∙ own-spares.leads (suc j) (omega arith) in
        let is-N : m.val b ≡ N s = read-b C x b e eb h ∙ own-spares.N-before (suc j) (omega arith) in
        let rest =
        loop fuel (suc j) m' (cut-onward C x b e eb h) b (m'.out b) n (m.val b) c eb on (omega arith) more in
        next-node C x b e eb h n c
        (line-leads k ℓ s _ _ _ _ (λ f.
        ok-through (Next' m') (λ z. absurd (b-some C x b e eb h z)) (λ _.
        ok-if (Next' m') (λ st. next (t81 (m'.out b)) st) (_ ≟ _)
        (λ z. absurd (some_at (suc (suc j)) _ (omega arith) on z))
        (λ _.
        ok-if (Next' m') (λ st. next (t81 (m'.out b)) st) (_ ≟ᵛ _) (λ z. clash (cc)) (λ _. going refl rest)))))
        u

    -- ---- Lines 62 to 74: the cut.
    module _ (x b : ℕ) (e : x ≡ spare end v) (eb : b ≡ spare end (suc v))
        (more : v + 2 < spares end) where
      abbrev m62 : View
      m62 = record { out = m0.out; inn = m0.inn; val = update (update m0.val x (X s)) b (Y s); hats = m0.hats }

      abbrev m64 : View
      m64 =
          record {
            out = update m0.out x no_node;
            inn = m0.inn;
            val = update (update m0.val x (X s)) b (Y s);
            hats = m0.hats;
          }

      no-x : (i : ℕ) → i < spares end → i ≢ v → spare end i ≢ x
      no-x i li ne q = differ i v li (omega arith) ne (q ∙ e)

      no-b : (i : ℕ) → i < spares end → i ≢ suc v → spare end i ≢ b
      no-b i li ne q = differ i (suc v) li (omega arith) ne (q ∙ eb)

      val-then : (i : ℕ) → i < spares end → i ≢ v → i ≢ suc v
          → m64.val (spare end i) ≡ value ws (spare end i)
      val-then i li nx nb =
          update_other (update m0.val x (X s)) b (Y s) _ (no-b i li nb)
          ∙ update_other m0.val x (X s) _ (no-x i li nx)

      cut-first : Cut m64 (suc v)
      cut-first =
          record {
            past = omega arith;
            others =
                record {
                  safe = λ y a n.
                      record {
                        same_out = update_other m0.out x no_node y (own-other v x (omega arith) e y n);
                        same-inn = refl;
                        same-val =
                            update_other (update m0.val x (X s)) b (Y s) y (own-other (suc v) b (omega arith) eb y n)
                            ∙ update_other m0.val x (X s) y (own-other v x (omega arith) e y n);
                      };
                  same-inward = λ y a. refl;
                  hats = λ j z o. refl;
                };
            hat-same = hat-at;
            keep-val = λ i h.
                val-then i (omega arith) (λ q. omega arith) (λ q. omega arith) ∙ own-spares.N-before i (omega arith);
            last-val =
                update_other (update m0.val x (X s)) b (Y s) _ (no-b v (omega arith) (λ q. omega arith))
                ∙ ap (update m0.val x (X s)) (sym e)
                ∙ update_same m0.val x (X s);
            keep_out = λ i h.
                update_other m0.out x no_node _ (no-x i (omega arith) (λ q. omega arith))
                ∙ own-spares.leads i (omega arith);
            rest_out = λ i h li. update_other m0.out x no_node _ (no-x i li (λ q. omega arith));
            rest-val = λ i h li. val-then i li (λ q. omega arith) (λ q. omega arith);
          }

      on-first : m64.out b ≡ spare end (suc (suc v))
      on-first =
          ap m64.out eb
          ∙ cut-first.rest_out (suc v) (omega arith) (omega arith)
          ∙ own-spares.leads (suc v) (omega arith)

      to-b : link ws s x ≡ b
      to-b = ap (link ws s) e ∙ own-spares.leads v (omega arith) ∙ sym eb

      at-74 : (n : ℕ) (u : Value) (c : ℕ) → Leads' (further t0 line74 n u x b c no_node) m64
      unfolding act
      at-74 n u c =
          line-leads k ℓ s _ _ _ _ (λ f.
          ok-through (Next' m64) (λ z. absurd (some_at (suc v) b (omega arith) eb z)) (λ _.
          ok-if (Next' m64) (λ st. next (further t0 line74 n u b (m64.out b) c no_node) st) (_ ≟ _)
          (λ z. absurd (some_at (suc (suc v)) _ (omega arith) on-first z))
          (λ _.
          going refl
          (loop (spares end - suc (suc (suc v))) (suc v) m64 cut-first b (m64.out b) n u c eb on-first
          (omega arith) more))))

      pub at-64 : (n : ℕ) (u : Value) (c : ℕ) → Leads' (further t0 line64 n u x b c no_node) m62
      unfolding act
      at-64 n u c =
          line-leads k ℓ s _ _ _ _ (λ f.
          ok-through (Next' m62) (λ z. absurd (some_at v x (omega arith) e z)) (λ _.
          ok-if (Next' m62) (λ l. writing l (next (further t0 line64 n u x b c no_node) line74)) (_ ≟ _)
          (λ _. going refl (at-74 n u c)) (λ ne. absurd (ne to-b))))
