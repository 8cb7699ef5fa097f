-- What holds of a task survives the ticks of the other tasks.
use mathlib.Core.Path.{◌≡◌, refl, sym, ◌∙◌}
use mathlib.Core.Logic.{◌≢◌, ◌⊎◌, inl, inr}
use mathlib.Core.Bool.{Bool, true}
use mathlib.Core.List.{[], ◌∷◌}
use Prim.Native.Nat.{ℕ, suc, ◌≤◌}
use native.Mathlib.Omega.{arith}
use Rattle.machine.specs.Sides.{Side}
use Rattle.machine.specs.Steps.{Step}
use Rattle.machine.specs.Tasks.{Task, no_node, in_a, in_b, in_c, in_d}
use Rattle.machine.specs.Registers.{among, holds}
use Rattle.machine.proofs.Basics.Contradiction.{refute}
use Rattle.machine.proofs.Words.Memories.{View}
use Rattle.machine.proofs.Linearizability.Model.Sides.{Opposite}
use Rattle.machine.proofs.Linearizability.Model.Classes.{Class, free, spur, Old, old-not-none}
use Rattle.machine.proofs.Linearizability.Model.Structure.{Spur}
use Rattle.machine.proofs.Linearizability.Model.Chain.{Chain, HasChainIn, NoChain}
use Rattle.machine.proofs.Linearizability.Model.Guarantee.{SameIn, GuaranteesIn}
use Rattle.machine.proofs.Linearizability.Model.Held.{Closed}
use Rattle.machine.proofs.Linearizability.Model.Reliance.{
  PushPair,
  PastY,
  PopPair,
  CutPair,
  UnlinkPair,
  Reliance,
  on-nothing,
  on-old-A,
  on-push-pair,
  on-Y,
  behind-Y,
  past-Y,
  on-splice-point,
  on-pop-pair,
  on-empty-pair,
  on-bag-pair,
  on-cut-pair,
  on-unlink-pair,
  on-spur-B,
  on-spur-pair,
  on-spur-A,
  relied,
  Relies,
}
use Rattle.machine.proofs.Linearizability.Model.Phases.{
  Phase,
  resting,
  pushing,
  growing,
  building,
  unspurring,
  popping,
  removing,
  with-chain,
  without-chain,
  leading,
  Chains,
  facts,
  relied-holds,
  leading-holds,
  TaskOk,
}
use Rattle.machine.proofs.Linearizability.Model.Invariant.{RegistersHeld}
use Rattle.machine.proofs.Linearizability.Survival.Stability.{
  old-stable,
  follows-stable,
  precedes-stable,
  not-far-stable,
  main-next-stable,
  spur-next-stable,
}

-- Task t is not the one that ticks, and sees its view change from m to m'.
module _ {held : ℕ → Bool} {k : ℕ} {s o : Side} (w : Opposite s o) (m m' : View) {class class' : ℕ → Class}
    (G : GuaranteesIn held k s o m class m' class')
    (none_free : class no_node ≡ free) (none-free' : class' no_node ≡ free)
    (near-spur : Spur s m.out m.inn m.val class) (near-spur' : Spur s m'.out m'.inn m'.val class')
    (inn-closed : Closed held m.inn) (t : Task) {j : ℕ} (j≢k : j ≢ k) where
  old-some : (x : ℕ) → Old class x → x ≢ no_node
  old-some x h = old-not-none class none_free x h

  spur-some : (x : ℕ) {z : Side} → class x ≡ spur z → x ≢ no_node
  spur-some x h = old-some x (cc)

  old-stays : (x : ℕ) → held x ≡ true → Old class x → Old class' x
  old-stays = old-stable w G.near G.far none_free

  -- ---- What a step relies on.

  -- The registers that a fact must have held are.
  abbrev Holds : Reliance → Type 0
  Holds q = RegistersHeld held (among (relied q)) t

  push-pair-survives : Holds on-push-pair → PushPair s m class t.A t.B → PushPair s m' class' t.A t.B
  push-pair-survives R h =
      let rB = R in_b refl (old-some _ h.B-old) in
      record {
        A-old = old-stays _ (R in_a refl (old-some _ h.A-old)) h.A-old;
        B-old = old-stays _ rB h.B-old;
        B-follows =
            follows-stable w G.near G.far none_free _ _ rB h.A-old h.B-old h.B-follows;
      }

  past-Y-survives : Holds past-Y → PastY s m class t.A t.C → PastY s m' class' t.A t.C
  past-Y-survives R h =
      let rA = R in_a refl (spur-some _ h.A-spur) in
      let rC = R in_c refl (old-some _ h.C-old) in
      let behind = near-spur.inward-old _ h.A-spur in
      record {
        A-spur = G.near.spur-stays _ rA h.A-spur;
        A-Y = G.near.Y-stays _ rA h.A-spur h.A-Y;
        C-old = old-stays _ rC h.C-old;
        C-follows =
            rw (G.near.spur-inward _ rA h.A-spur)
            (follows-stable w G.near G.far none_free _ _ rC behind h.C-old h.C-follows);
      }

  pop-pair-survives : Holds on-pop-pair → PopPair o m class t.A t.B → PopPair o m' class' t.A t.B
  pop-pair-survives R h =
      let rA = R in_a refl (old-some _ h.A-old) in
      let rB = R in_b refl (old-some _ h.B-old) in
      record {
        A-old = old-stays _ rA h.A-old;
        B-old = old-stays _ rB h.B-old;
        B-precedes =
            precedes-stable w G.near G.far none_free _ _ rA rB h.A-old h.B-old h.B-precedes;
      }

  cut-pair-survives : Holds on-cut-pair → CutPair s m class t.A t.B → CutPair s m' class' t.A t.B
  cut-pair-survives R h =
      let rA = R in_a refl (old-some _ h.A-old) in
      let rB = R in_b refl (old-some _ h.B-old) in
      record {
        A-old = old-stays _ rA h.A-old;
        B-old = old-stays _ rB h.B-old;
        main-next =
            main-next-stable w G.near G.far none_free _ _ rB h.A-old h.B-old h.main-next;
        spur-next =
            spur-next-stable w G.near G.far none_free near-spur' none-free' _ _ rA rB
            h.A-old h.B-old h.main-next h.spur-next;
      }

  unlink-pair-survives : Holds on-unlink-pair
      → UnlinkPair s o m class t.A t.B
      → UnlinkPair s o m' class' t.A t.B
  unlink-pair-survives R h =
      let rA = R in_a refl (old-some _ h.A-old) in
      let rB = R in_b refl (spur-some _ h.B-spur) in
      record {
        A-old = old-stays _ rA h.A-old;
        B-spur = G.near.spur-stays _ rB h.B-spur;
        B-Y = G.near.Y-stays _ rB h.B-spur h.B-Y;
        not-far = not-far-stable w G.near G.far none_free _ _ rA h.A-old h.B-spur h.not-far;
      }

  relies-survives : (q : Reliance) → Holds q → Relies q j s o m class t → Relies q j s o m' class' t
  relies-survives on-nothing R h = tt
  relies-survives on-old-A R h = old-stays _ (R in_a refl (old-some _ h)) h
  relies-survives on-push-pair R h = push-pair-survives R h
  relies-survives on-Y R h =
      let rA = R in_a refl (spur-some _ h.A-spur) in
      record {
        A-spur = G.near.spur-stays _ rA h.A-spur;
        A-Y = G.near.Y-stays _ rA h.A-spur h.A-Y;
      }
  relies-survives behind-Y R h =
      let rA = R in_a refl (spur-some _ h.A-spur) in
      record {
        A-spur = G.near.spur-stays _ rA h.A-spur;
        A-Y = G.near.Y-stays _ rA h.A-spur h.A-Y;
        B-inward = h.B-inward ∙ sym (G.near.spur-inward _ rA h.A-spur);
      }
  relies-survives past-Y R h = past-Y-survives R h
  relies-survives on-splice-point R h =
      record {
        A-old = old-stays _ (R in_a refl (old-some _ h.A-old)) h.A-old;
        D-new = G.chains.stays-new t.D j j≢k h.D-new;
        D-inward = (G.chains.same-words t.D j j≢k h.D-new).same-inn ∙ h.D-inward;
      }
  relies-survives on-pop-pair R h = pop-pair-survives R h
  relies-survives on-empty-pair R h = record { pair = pop-pair-survives R h.pair; read-mark = h.read-mark }
  relies-survives on-bag-pair R h =
      record { pair = pop-pair-survives R h.pair; bag-read = h.bag-read; read-bag = h.read-bag }
  relies-survives on-cut-pair R h = cut-pair-survives R h
  relies-survives on-unlink-pair R h = unlink-pair-survives R h
  relies-survives on-spur-B R h = G.near.spur-stays _ (R in_b refl (spur-some _ h)) h
  relies-survives on-spur-pair R h =
      record {
        A-spur = G.near.spur-stays _ (R in_a refl (spur-some _ h.A-spur)) h.A-spur;
        B-spur = G.near.spur-stays _ (R in_b refl (spur-some _ h.B-spur)) h.B-spur;
      }
  relies-survives on-spur-A R h = G.near.spur-stays _ (R in_a refl (spur-some _ h)) h

  -- ---- A chain.
  module _ {node place : ℕ → ℕ} {l : ℕ} (C : Chain s j m.out m.inn m.val class node place l)
      (head-held : held (node 0) ≡ true) where
    same_at : (i : ℕ) → i ≤ l → SameIn m m' (node i)
    same_at i h = G.chains.same-words (node i) j j≢k (C.is_new i h)

    first-in-survives : (m'.inn (node 0) ≡ no_node) ⊎ Old class' (m'.inn (node 0))
    first-in-survives =
        let e = (same_at 0 (omega arith)).same-inn in
        elim C.first-in [
          | inl h ↦ inl (e ∙ h)
          | inr h ↦ inr (cc (old-stays (m.inn (node 0)) (inn-closed (node 0) head-held (old-some _ h)) h))
        ]

    chain-survives : Chain s j m'.out m'.inn m'.val class' node place l
    chain-survives =
        record {
          is_new = λ i h. G.chains.stays-new (node i) j j≢k (C.is_new i h);
          place-node = C.place-node;
          place-le = λ x h. C.place-le x (G.chains.was-new x j j≢k h);
          node-place = λ x h. C.node-place x (G.chains.was-new x j j≢k h);
          N-before = λ i h. (same_at i (omega arith)).same-val ∙ C.N-before i h;
          X-last = (same_at l (omega arith)).same-val ∙ C.X-last;
          links =
              record {
                links-out = λ i h. (same_at i (omega arith)).same_out ∙ C.links.links-out i h;
                links-in = λ i h. (same_at (suc i) h).same-inn ∙ C.links.links-in i h;
              };
          last_out = (same_at l (omega arith)).same_out ∙ C.last_out;
          first-in = first-in-survives;
        }

  has-chain-survives : RegistersHeld held (among (in_d ∷ [])) t
      → HasChainIn j s m class t.D
      → HasChainIn j s m' class' t.D
  has-chain-survives R H =
      let D-some : t.D ≢ no_node = λ e. refute (cc (H.head, H.chain.is_new 0 (omega arith))) in
      record {
        node = H.node;
        place = H.place;
        m = H.m;
        chain = chain-survives H.chain (cc (H.head, R in_d refl D-some));
        head = H.head;
      }

  no-chain-survives : NoChain j class t.D → NoChain j class' t.D
  no-chain-survives H =
      record { none-new = λ x h. H.none-new x (G.chains.was-new x j j≢k h); no-head = H.no-head }

  chains-survive : (p : Phase)
      → RegistersHeld held (among (leading p)) t
      → Chains p j s m class t
      → Chains p j s m' class' t
  chains-survive resting R h = no-chain-survives h
  chains-survive pushing R h = no-chain-survives h
  chains-survive growing R h = no-chain-survives h
  chains-survive building R h = has-chain-survives R h
  chains-survive unspurring R (with-chain h) = with-chain (has-chain-survives R h)
  chains-survive unspurring R (without-chain h e) = without-chain (no-chain-survives h) e
  chains-survive popping R h = no-chain-survives h
  chains-survive removing R h = no-chain-survives h

  pub task-survives : (st : Step)
      → RegistersHeld held (holds st) t
      → TaskOk j s o m class st t
      → TaskOk j s o m' class' st t
  task-survives st R h =
      record {
        relies = relies-survives (facts st).reliance (λ r u. R r (relied-holds st r u)) h.relies;
        chain = chains-survive (facts st).phase (λ r u. R r (leading-holds st r u)) h.chain;
        belongs = h.belongs;
      }
