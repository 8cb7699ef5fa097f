-- The lines that link a chain to its place and splice it in: 24 and 25.
use mathlib.Core.Path.{◌≡◌, refl, sym, subst, ◌∙◌}
use mathlib.Core.Logic.{◌≢◌, ◌⊎◌, inl, inr}
use mathlib.Core.Bool.{Bool, true}
use mathlib.Core.List.{List, [], ◌∷◌}
use Prim.Native.Nat.{ℕ, ◌<◌}
use Rattle.machine.specs.Sides.{Side}
use Rattle.machine.specs.Values.{N, X}
use Rattle.machine.specs.Steps.{line24, line25}
use Rattle.machine.specs.Tasks.{Task, with_b}
use Rattle.machine.specs.Lines.{Write, out≔, inn≔, val≔, Effect, next, writing}
use Rattle.machine.proofs.Basics.Contradiction.{refute}
use Rattle.machine.proofs.Basics.Updates.{Wrote, update-wrote}
use Rattle.machine.proofs.Words.Memories.{View, written}
use Rattle.machine.proofs.Linearizability.Model.Held.{all_closed}
use Rattle.machine.proofs.Linearizability.Model.Structure.{Structure}
use Rattle.machine.proofs.Linearizability.Model.Classes.{Class, main, spur, new, in-main, in_near, in-far}
use Rattle.machine.proofs.Linearizability.Model.Classes.{old-class}
use Rattle.machine.proofs.Linearizability.Writes.ClassChanges.{Joined, joined_class, joined_class-joined, Extended}
use Rattle.machine.proofs.Linearizability.Writes.ClassChanges.{extended_at, extended_index, extended}
use Rattle.machine.proofs.Linearizability.Model.Guarantee.{ChainsKept, GuaranteesIn, guarantee-weaken}
use Rattle.machine.proofs.Linearizability.Model.Nodes.{own-mark-not-far}
use Rattle.machine.proofs.Linearizability.Writes.Joined.{joined-none-new}
use Rattle.machine.proofs.Linearizability.Writes.Splice.{splice-main-stays, splice-was-main, splice-keeps}
use Rattle.machine.proofs.Linearizability.Writes.Splice.{splice-guarantees, spliced_frame}
use Rattle.machine.proofs.Linearizability.Writes.OtherLanes.{LeftAlone, other-lane}
use Rattle.machine.proofs.Linearizability.Writes.Spur.{SpurStep, spur-keeps, spur-guarantees}
use Rattle.machine.proofs.Linearizability.Writes.SpurLines.{spur-splice}
use Rattle.machine.proofs.Linearizability.Writes.Restriction.{Restricted, restricted-guarantee, restricted-swap}
use Rattle.machine.proofs.Linearizability.Writes.Restriction.{restricted-keeps}
use Rattle.machine.proofs.Linearizability.Writes.ChainGrowth.{head-new, head-linked}
use Rattle.machine.proofs.Linearizability.Model.Reliance.{SplicePoint}
use Rattle.machine.proofs.Linearizability.Model.Phases.{TaskOk}
use Rattle.machine.proofs.Linearizability.Model.Invariant.{Lane, Lanes, every-lane, same-lanes, one_lane}
use Rattle.machine.proofs.Linearizability.Model.Invariant.{goes_on, TickOk}

module _ (held : ℕ → Bool) (k : ℕ) {L : ℕ} {s o : Side} {m : View} {class : ℕ → Class} {r : ℕ → List ℕ}
    (D : Lanes L s o m class r) (t : Task) (own : t.lane < L) where
  abbrev Ok : Effect → Type 0
  Ok e = TickOk held L k s o m class r t e

  abbrev mine : Lane t.lane s o m class (r t.lane)
  mine = D.lane t.lane own

  abbrev S : Structure t.lane s o m class mine.frame
  S = mine.structure

  -- ---- Line 24 writes the head's inward link, and no old node.
  abbrev link-writes : List Write
  link-writes = inn≔ t.D t.A ∷ []

  module _ (h : TaskOk k s o m class line24 t) where
    w-inn : Wrote m.inn t.D t.A (written t.lane s link-writes m).inn
    w-inn = update-wrote m.inn t.D t.A

    -- All nodes are held, and all keep their class.
    old-kept : Restricted (λ _. true)
        m.out m.inn m.val class m.out (written t.lane s link-writes m).inn m.val class
    old-kept =
        let c = head-new h.chain in
        record {
          main-stays = λ x l q. q;
          was-main = λ x l q. q;
          spur-stays = λ x z _ q. q;
          was-spur = λ x z q. q;
          spur-held = λ x z q. refl;
          none_free = S.none_free;
          same-words =
              λ x q.
              record { same_out = refl; same-inn = w-inn.elsewhere x (λ e. refute (cc)); same-val = refl };
        }

    chains-kept :
        ChainsKept k m.out m.inn m.val class m.out (written t.lane s link-writes m).inn m.val class
    chains-kept =
        let c = head-new h.chain in
        record {
          stays-new = λ x j ne q. q;
          same-words =
              λ x j ne q.
              record { same_out = refl; same-inn = w-inn.elsewhere x (λ e. ne (cc)); same-val = refl };
          was-new = λ x j ne q. q;
        }

    splice-point : SplicePoint k (written t.lane s link-writes m) class t.A t.D
    splice-point = record { A-old = h.relies; D-new = head-new h.chain; D-inward = w-inn.here }

    pub done-24 : Ok (writing link-writes (next (with_b t (m.out t.A)) line25))
    done-24 =
        record {
          class' = class;
          r' = r;
          lanes =
              same-lanes D (λ l q. restricted-keeps (D.lane l q).structure (all_closed {L = L}) q old-kept)
              (λ x l c. c);
          row_step = refl;
          other-rows = λ l ne. refl;
          guarantees =
              record {
                near = guarantee-weaken held (restricted-guarantee old-kept);
                far = guarantee-weaken held (restricted-guarantee (restricted-swap old-kept));
                chains = chains-kept;
              };
          task-ok =
              record {
                relies = splice-point;
                chain = head-linked h.chain w-inn h.relies;
                belongs = h.belongs;
              };
          kept = goes_on refl refl;
        }

  -- ---- Line 25: the chain joins the class of A.
  module _ (h : TaskOk k s o m class line25 t) (A-X : m.val t.A ≡ X s) where
    abbrev splice : List Write
    splice = out≔ t.A t.D ∷ val≔ t.A (N s) ∷ []

    w-val : Wrote m.val t.A (N s) (written t.lane s splice m).val
    w-val = update-wrote m.val t.A (N s)

    w-out : Wrote m.out t.A (h.chain.node 0) (written t.lane s splice m).out
    w-out =
        let w = update-wrote m.out t.A t.D in
        record { here = w.here ∙ h.chain.head; elsewhere = w.elsewhere }

    head-inward : m.inn (h.chain.node 0) ≡ t.A
    head-inward = cc (h.chain.head, h.relies.D-inward)

    -- A is in main of lane i, which the chain makes longer; the others are left alone.
    module _ (i : ℕ) (A-main : class t.A ≡ main i) where
      abbrev end-lane : Lane i s o m class (r i)
      end-lane = D.lane i (D.below t.A i A-main)

      abbrev R : Structure i s o m class end-lane.frame
      R = end-lane.structure

      open (D.lane i (D.below t.A i A-main)).frame use {at, index, n}

      abbrev class₁ : ℕ → Class
      class₁ = joined_class k (main i) class

      join-main : (x : ℕ) → Joined k (main i) class class₁ x
      join-main = joined_class-joined k (main i) class

      extend : Extended i k class at index n h.chain.node h.chain.place
          (extended_at at n h.chain.node) (extended_index class index n h.chain.place)
      extend = extended i k class at index n h.chain.node h.chain.place

      longer : Structure i s o (written t.lane s splice m) class₁
          (spliced_frame end-lane.frame (extended_at at n h.chain.node)
          (extended_index class index n h.chain.place) h.chain.m)
      longer = splice-keeps R h.chain.chain w-out w-val A-X head-inward join-main extend A-main

      splice-guaranteed : (u : ℕ → Bool) → GuaranteesIn u k s o m class (written t.lane s splice m) class₁
      splice-guaranteed u =
          splice-guarantees R h.chain.chain w-out w-val A-X head-inward join-main extend A-main u

      was-main : (x l : ℕ) → class₁ x ≡ main l → (class x ≡ main l) ⊎ (l ≡ i)
      was-main = splice-was-main R h.chain.chain w-out w-val A-X head-inward join-main extend A-main

      splice-alone : (l : ℕ) → l ≢ i → LeftAlone l m (written t.lane s splice m) class class₁
      splice-alone l ne =
          record {
            stays-main =
                λ x q.
                splice-main-stays R h.chain.chain w-out w-val A-X head-inward join-main extend A-main x l q;
            was-main = λ x q. elim (was-main x l q) [ inl c ↦ c | inr e ↦ absurd (ne e) ];
            same-words =
                λ x q.
                record {
                  same_out = w-out.elsewhere x (λ e. ne (cc));
                  same-inn = refl;
                  same-val = w-val.elsewhere x (λ e. ne (cc));
                };
            same_hats = refl;
          }

      longer-lanes : Lanes L s o (written t.lane s splice m) class₁ r
      longer-lanes =
          one_lane D i
          (record {
            frame =
                spliced_frame end-lane.frame (extended_at at n h.chain.node)
                (extended_index class index n h.chain.place) h.chain.m;
            structure = longer;
            row_is = end-lane.row_is;
          })
          (λ l ne. refl)
          (λ l q ne. other-lane (D.lane l q).structure longer (splice-guaranteed (λ _. true)) (splice-alone l ne))
          (λ x l c.
          elim (was-main x l c) [
            | inl q ↦ D.below x l q
            | inr e ↦ subst (λ (j : ℕ). j < L) (sym e) (D.below t.A i A-main)
          ])

    module _ (A-spur : class t.A ≡ spur s) where
      join-spur : (x : ℕ) → Joined k (spur s) class (joined_class k (spur s) class) x
      join-spur = joined_class-joined k (spur s) class

      longer-spur : SpurStep k s o m.out m.inn m.val class
          (written t.lane s splice m).out (written t.lane s splice m).val (joined_class k (spur s) class)
      longer-spur = spur-splice S k h.chain.chain w-out w-val A-X head-inward join-spur A-spur

      lanes-same : Lanes L s o (written t.lane s splice m) (joined_class k (spur s) class) r
      lanes-same =
          same-lanes D (λ l q. spur-keeps (D.lane l q).structure longer-spur) longer-spur.classes.was-main

    pub done-25 : {e : Effect}
        → ((class' : ℕ → Class) → Lanes L s o (written t.lane s splice m) class' r
        → GuaranteesIn held k s o m class (written t.lane s splice m) class'
        → ((x : ℕ) → class' x ≢ new k)
        → Ok e)
        → Ok e
    done-25 K =
        elim (old-class S.sides (class t.A) h.relies.A-old) [
          | in-main i c ↦ K _ (longer-lanes i c) (splice-guaranteed i c held) (joined-none-new (join-main i c) refl)
          | in_near c ↦
              K _ (lanes-same c) (spur-guarantees S (longer-spur c) (every-lane D) held)
              (joined-none-new (join-spur c) refl)
          | in-far c ↦ absurd (own-mark-not-far S t.A (cc) c)
        ]
