-- Lines 28 and 31: a push or an add takes free nodes, one after another, and makes a chain of them.
use mathlib.Core.Path.{◌≡◌, refl, sym, ap, ◌∙◌, subst}
use mathlib.Core.Logic.{◌≢◌, ◌⊎◌, inl, inr}
use mathlib.Core.List.{List, [], ◌∷◌}
use Prim.Native.Nat.{ℕ, zero, suc, ◌+◌, ◌-◌, ◌≤◌, ◌<◌}
use native.Mathlib.Omega.{arith}
use Rattle.machine.specs.Outcomes.Answer.{Answer}
use Rattle.machine.specs.Choice.{◌≟◌}
use Rattle.machine.specs.Sides.{Side}
use Rattle.machine.specs.Values.{Value, N, X}
use Rattle.machine.specs.Steps.{line15, line28, line31}
use Rattle.machine.specs.Tasks.{Task, no_node, goal, further}
use Rattle.machine.specs.Table.{node_count, lane_count, hat}
use Rattle.machine.specs.Allocate.{allocate}
use Rattle.machine.specs.Lines.{Effect, out≔, inn≔, val≔, next, answers, writing, none_free, act}
use Rattle.machine_capacity.specs.NoLeak.{IdleTable}
use Rattle.machine.proofs.Basics.Updates.{update, update_same, update_other}
use Rattle.machine.proofs.Words.Memories.{View, viewed}
use Rattle.machine.proofs.Linearizability.Model.Guarantee.{SameIn}
use Rattle.machine.proofs.Lines.Connectives.{ok-if, ok-through}
use Rattle.machine_capacity.proofs.Alone.Runs.{Leads, Next, going, search-leads}
use Rattle.machine_capacity.proofs.Alone.Reach.{
  Reach,
  at-hat,
  at-root,
  outward,
  root-28,
  root-31,
  found-new,
  found_none,
}
use Rattle.machine_capacity.proofs.Alone.Others.{Alive, Stage, HatNow, on_list, on-spur, alive-reached}
use Rattle.machine_capacity.proofs.Alone.CallEnds.{CallEnd}

module _ (end : CallEnd) where
  abbrev pub ws : List ℕ
  ws = end.words

  abbrev pub T : IdleTable end.words
  T = end.table

  abbrev pub ℓ : ℕ
  ℓ = end.lane

  abbrev pub s : Side
  s = end.side

  abbrev IsAlive : ℕ → Type 0
  IsAlive x = Alive end x

  -- A chain of c new nodes that begins at d.
  pub record Chain (m : View) (d c : ℕ) (new : ℕ → ℕ) : Type 0 where
    pub some : 1 ≤ c
    pub head : d ≡ new 0
    pub N-before : (i : ℕ) → suc i < c → m.val (new i) ≡ N s
    pub X-last : (i : ℕ) → suc i ≡ c → m.val (new i) ≡ X s
    pub leads : (i : ℕ) → suc i < c → m.out (new i) ≡ new (suc i)
    pub first-in : m.inn (new 0) ≡ no_node
    pub not-alive : (i : ℕ) → i < c → Alive end (new i) → ⊥
    pub not_none : (i : ℕ) → i < c → new i ≢ no_node
    pub not-hat : (i : ℕ) → i < c → new i ≢ m.hats ℓ s

  chain-reached : {m : View} {d c : ℕ} {new : ℕ → ℕ} → Chain m d c new → (i : ℕ) → i < c
      → Reach (lane_count ws) m d (new i)
  chain-reached {m} {d} {c} {new} C zero l =
      let e = C.head in
      subst (Reach (lane_count ws) m d) e (at-root (λ q. C.not_none 0 l (sym e ∙ q)))
  chain-reached {m} {d} {c} {new} C (suc i) l =
      let e = C.leads i l in
      subst (Reach (lane_count ws) m d) e
      (outward (chain-reached C i (omega arith)) (λ q. C.not_none (suc i) l (sym e ∙ q)))

  -- All nodes are in use.
  abbrev pub AllUsed : View → (d : ℕ) → Type 0
  AllUsed m d = (x : ℕ) → x < node_count ws → Reach (lane_count ws) m d x

  -- ---- Writes to a node that is not in use.
  module _ {m m' : View} (G : Stage end m) (d f : ℕ)
      (apart-d : IsAlive d → ⊥) (apart-f : IsAlive f → ⊥) (d-off : d ≢ m.hats ℓ s) (f-off : f ≢ m.hats ℓ s)
      (same_hats : m'.hats ≡ m.hats)
      (same_out : (x : ℕ) → x ≢ f → x ≢ d → m'.out x ≡ m.out x)
      (same-inn : (x : ℕ) → x ≢ f → x ≢ d → m'.inn x ≡ m.inn x)
      (same-val : (x : ℕ) → x ≢ f → x ≢ d → m'.val x ≡ m.val x) where
    same_at : (x : ℕ) → x ≢ f → x ≢ d → SameIn (viewed s ws) m x → SameIn (viewed s ws) m' x
    same_at x nf nd w =
        record {
          same_out = same_out x nf nd ∙ w.same_out;
          same-inn = same-inn x nf nd ∙ w.same-inn;
          same-val = same-val x nf nd ∙ w.same-val;
        }

    hat-same : m'.hats ℓ s ≡ m.hats ℓ s
    hat-same = ap (λ (h : ℕ → Side → ℕ). h ℓ s) same_hats

    kept-stage : Stage end m'
    kept-stage =
        record {
          same =
              λ x a. same_at x (λ e. apart-f (subst IsAlive e a)) (λ e. apart-d (subst IsAlive e a)) (G.same x a);
          hats = λ j z o. ap (λ (h : ℕ → Side → ℕ). h j z) same_hats ∙ G.hats j z o;
          hat-now = go G.hat-now;
        }
      where
        go : HatNow end m → HatNow end m'
        go (on_list e) = on_list (hat-same ∙ e)
        go (on-spur v e w) =
            on-spur v (hat-same ∙ e) (same_at (hat ws ℓ s) (λ q. f-off (sym q ∙ sym e)) (λ q. d-off (sym q ∙ sym e)) w)

  -- ---- The lines.
  module _ (k g : ℕ) (Q : Answer → List ℕ → Type 0) (t0 : Task) (u : Value) (a b c : ℕ) (hats0 : ℕ → Side → ℕ) where
    abbrev Next' : View → Effect → Type 0
    Next' m e = Next k ℓ s (node_count ws) (lane_count ws) g Q m e

    abbrev G : ℕ
    G = goal g t0

    -- With the chain made, as long as the goal wants it or no node is left; the hats stay.
    abbrev Built : Type 0
    Built =
        (m : View) (d n : ℕ) (new : ℕ → ℕ)
        → Stage end m
        → m.hats ≡ hats0
        → Chain m d (suc n) new
        → n ≤ goal g t0
        → (n ≡ goal g t0) ⊎ AllUsed m d
        → Leads k ℓ s (node_count ws) (lane_count ws) g Q (further t0 line15 n u a b c d) m

    module _ (built : Built) where
      -- One node more.
      module _ (m : View) (d n f : ℕ) (new : ℕ → ℕ) (St : Stage end m) (C : Chain m d (suc n) new)
          (f-some : f ≢ no_node) (unused : Reach (lane_count ws) m d f → ⊥) where
        abbrev m' : View
        m' =
            record {
              out = update m.out f d;
              inn = update (update m.inn f no_node) d f;
              val = update m.val f (N s);
              hats = m.hats;
            }

        f-dead : IsAlive f → ⊥
        f-dead x = unused (alive-reached end St x)

        d-dead : IsAlive d → ⊥
        d-dead x = C.not-alive 0 (omega arith) (subst IsAlive C.head x)

        f-new : (i : ℕ) → i < suc n → new i ≢ f
        f-new i l e = unused (subst (Reach (lane_count ws) m d) e (chain-reached C i l))

        d-f : d ≢ f
        d-f e = f-new 0 (omega arith) (sym C.head ∙ e)

        f-off : f ≢ m.hats ℓ s
        f-off e = unused (subst (Reach (lane_count ws) m d) (sym e) (at-hat ℓ s end.is_lane))

        d-off : d ≢ m.hats ℓ s
        d-off e = C.not-hat 0 (omega arith) (sym C.head ∙ e)

        stage-more : Stage end m'
        stage-more =
            kept-stage St d f d-dead f-dead d-off f-off refl
            (λ x nf nd. update_other m.out f d x nf)
            (λ x nf nd. update_other (update m.inn f no_node) d f x nd ∙ update_other m.inn f no_node x nf)
            (λ x nf nd. update_other m.val f (N s) x nf)

        more : ℕ → ℕ
        more zero = f
        more (suc i) = new i

        chain_more : Chain m' f (suc (suc n)) more
        unfolding more
        chain_more =
            record {
              some = omega arith;
              head = refl;
              N-before = N-now;
              X-last = X-now;
              leads = leads-now;
              first-in =
                  update_other (update m.inn f no_node) d f f (λ e. d-f (sym e)) ∙ update_same m.inn f no_node;
              not-alive = dead-now;
              not_none = some-now;
              not-hat = off-now;
            }
          where
            N-now : (i : ℕ) → suc i < suc (suc n) → m'.val (more i) ≡ N s
            N-now zero l = update_same m.val f (N s)
            N-now (suc i) l =
                update_other m.val f (N s) (new i) (f-new i (omega arith)) ∙ C.N-before i (omega arith)

            X-now : (i : ℕ) → suc i ≡ suc (suc n) → m'.val (more i) ≡ X s
            X-now zero l = absurd (omega arith)
            X-now (suc i) l =
                update_other m.val f (N s) (new i) (f-new i (omega arith)) ∙ C.X-last i (omega arith)

            leads-now : (i : ℕ) → suc i < suc (suc n) → m'.out (more i) ≡ more (suc i)
            leads-now zero l = update_same m.out f d ∙ C.head
            leads-now (suc i) l =
                update_other m.out f d (new i) (f-new i (omega arith)) ∙ C.leads i (omega arith)

            dead-now : (i : ℕ) → i < suc (suc n) → IsAlive (more i) → ⊥
            dead-now zero l = f-dead
            dead-now (suc i) l = C.not-alive i (omega arith)

            some-now : (i : ℕ) → i < suc (suc n) → more i ≢ no_node
            some-now zero l = f-some
            some-now (suc i) l = C.not_none i (omega arith)

            off-now : (i : ℕ) → i < suc (suc n) → more i ≢ m.hats ℓ s
            off-now zero l = f-off
            off-now (suc i) l = C.not-hat i (omega arith)

      -- Line 31.
      more-step : (m : View) (d n : ℕ) (new : ℕ → ℕ) → Stage end m
          → m.hats ≡ hats0
          → Chain m d (suc n) new
          → n < goal g t0
          → ((m' : View) (d' : ℕ) (new' : ℕ → ℕ)
          → Stage end m'
          → m'.hats ≡ hats0
          → Chain m' d' (suc (suc n)) new'
          → suc n ≢ goal g t0
          → Leads k ℓ s (node_count ws) (lane_count ws) g Q (further t0 line31 (suc n) u a b c d') m')
          → Leads k ℓ s (node_count ws) (lane_count ws) g Q (further t0 line31 n u a b c d) m
      unfolding act
      more-step m d n new St hats-same C below again =
          search-leads k ℓ s _ _ _ _ (λ us P nodes lanes h low.
          let R = root-31 k ℓ s P refl in
          ok-through (Next' m) (λ e. absurd (C.not_none 0 (omega arith) (sym C.head ∙ e))) (λ _.
          ok-if (Next' m) (λ e. e) (_ ≟ _)
          (λ none_left.
          going refl (built m d n new St hats-same C (omega arith) (inr (λ x l.
          subst (λ (i : ℕ). Reach i m d x) lanes
          (found_none k ℓ s P R h low none_left x (subst (λ (i : ℕ). x < i) (sym nodes) l))))))
          (λ some_left.
          let unused : Reach (lane_count ws) m d (allocate us h) → ⊥ =
          λ x. found-new k ℓ s P R h low some_left (subst (λ (i : ℕ). Reach i m d (allocate us h)) (sym lanes) x) in
          ok-if (Next' m)
          (λ st.
          writing
          (val≔ (allocate us h) (N s)
          ∷ inn≔ (allocate us h) no_node
          ∷ out≔ (allocate us h) d
          ∷ inn≔ d (allocate us h)
          ∷ [])
          (next (further t0 line31 (suc n) u a b c (allocate us h)) st)) (_ ≟ _)
          (λ done.
          going refl (built (m' m d n (allocate us h) new St C some_left unused) (allocate us h) (suc n)
          (more m d n (allocate us h) new St C some_left unused)
          (stage-more m d n (allocate us h) new St C some_left unused) hats-same
          (chain_more m d n (allocate us h) new St C some_left unused)
          (omega arith) (inl done)))
          (λ not_done.
          going refl (again (m' m d n (allocate us h) new St C some_left unused) (allocate us h)
          (more m d n (allocate us h) new St C some_left unused)
          (stage-more m d n (allocate us h) new St C some_left unused) hats-same
          (chain_more m d n (allocate us h) new St C some_left unused) not_done)))))

      more-leads : (fuel : ℕ) (m : View) (d n : ℕ) (new : ℕ → ℕ) → Stage end m
          → m.hats ≡ hats0
          → Chain m d (suc n) new
          → suc (n + fuel) ≡ goal g t0
          → Leads k ℓ s (node_count ws) (lane_count ws) g Q (further t0 line31 n u a b c d) m
      more-leads zero m d n new St same C enough =
          more-step m d n new St same C (omega arith) (λ m' d' new' St' q C' ne. absurd (ne (omega arith)))
      more-leads (suc fuel) m d n new St same C enough =
          more-step m d n new St same C (omega arith)
          (λ m' d' new' St' q C' ne. more-leads fuel m' d' (suc n) new' St' q C' (omega arith))

      -- The first node.
      module _ (m : View) (f : ℕ) (St : Stage end m) (f-some : f ≢ no_node)
          (unused : Reach (lane_count ws) m no_node f → ⊥) where
        abbrev m1 : View
        m1 =
            record {
              out = update m.out f no_node;
              inn = update m.inn f no_node;
              val = update m.val f (X s);
              hats = m.hats;
            }

        dead : IsAlive f → ⊥
        dead x = unused (alive-reached end St x)

        off : f ≢ m.hats ℓ s
        off e = unused (subst (Reach (lane_count ws) m no_node) (sym e) (at-hat ℓ s end.is_lane))

        stage-one : Stage end m1
        stage-one =
            kept-stage St f f dead dead off off refl
            (λ x nf nd. update_other m.out f no_node x nf)
            (λ x nf nd. update_other m.inn f no_node x nf)
            (λ x nf nd. update_other m.val f (X s) x nf)

        chain-one : Chain m1 f 1 (λ _. f)
        chain-one =
            record {
              some = omega arith;
              head = refl;
              N-before = λ i l. absurd (omega arith);
              X-last = λ i l. update_same m.val f (X s);
              leads = λ i l. absurd (omega arith);
              first-in = update_same m.inn f no_node;
              not-alive = λ i l. dead;
              not_none = λ i l. f-some;
              not-hat = λ i l. off;
            }

      -- Line 28.
      pub build-leads : (m : View) (n : ℕ) → Stage end m
          → m.hats ≡ hats0
          → (AllUsed m no_node → Next k ℓ s (node_count ws) (lane_count ws) g Q m (answers (none_free t0.operation)))
          → Leads k ℓ s (node_count ws) (lane_count ws) g Q (further t0 line28 n u a b c no_node) m
      unfolding act
      build-leads m n St same none-free =
          search-leads k ℓ s _ _ _ _ (λ us P nodes lanes h low.
          let R = root-28 k ℓ s P refl refl in
          ok-if (Next' m) (λ e. e) (_ ≟ _)
          (λ none_left.
          none-free (λ x l.
          subst (λ (i : ℕ). Reach i m no_node x) lanes
          (found_none k ℓ s P R h low none_left x (subst (λ (i : ℕ). x < i) (sym nodes) l))))
          (λ some_left.
          let f = allocate us h in
          let unused : Reach (lane_count ws) m no_node (allocate us h) → ⊥ =
          λ x. found-new k ℓ s P R h low some_left (subst (λ (i : ℕ). Reach i m no_node (allocate us h)) (sym lanes)
          x) in
          ok-if (Next' m)
          (λ st. writing (out≔ (allocate us h) no_node ∷ inn≔ (allocate us h) no_node ∷ val≔ (allocate us h) (X s) ∷ [])
          (next (further t0 line28 0 u a b c (allocate us h)) st)) (_ ≟ _)
          (λ done.
          going refl
          (built (m1 m f St some_left unused) f 0 (λ _. f) (stage-one m f St some_left unused) same
          (chain-one m f St some_left unused) (omega arith) (inl (sym done))))
          (λ not_done.
          going refl
          (more-leads (goal g t0 - 1) (m1 m f St some_left unused) f 0 (λ _. f) (stage-one m f St some_left unused) same
          (chain-one m f St some_left unused) (omega arith)))))
