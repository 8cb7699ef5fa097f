-- The lines that cut and unlink: 62, 64, 78, 79 and 82.
use mathlib.Core.Path.{◌≡◌, refl, sym, subst}
use mathlib.Core.Logic.{◌≢◌, inr}
use mathlib.Core.Bool.{Bool, true}
use mathlib.Core.List.{List, [], ◌∷◌}
use Prim.Native.Nat.{ℕ, ◌<◌}
use Rattle.machine.specs.Outcomes.Answer.{Answer, Yes}
use Rattle.machine.specs.Sides.{Side}
use Rattle.machine.specs.Values.{N, X, Y}
use Rattle.machine.specs.Steps.{line81, line62, line64, line74, line78, line79, line82}
use Rattle.machine.specs.Tasks.{with_a, Task, no_node}
use Rattle.machine.specs.Lines.{answers, Write, out≔, val≔, Effect, next, writing}
use Rattle.machine.proofs.Basics.Contradiction.{clash, refute}
use Rattle.machine.proofs.Basics.Updates.{Wrote, update, update-wrote}
use Rattle.machine.proofs.Words.Memories.{View, written, view-equal}
use Rattle.machine.proofs.Linearizability.Model.Classes.{Class, main, new, spur, in-main, in_near, in-far}
use Rattle.machine.proofs.Linearizability.Model.Classes.{old-class}
use Rattle.machine.proofs.Linearizability.Writes.ClassChanges.{Cut, goes-to-spur, not-cut, cut_class}
use Rattle.machine.proofs.Linearizability.Writes.ClassChanges.{cut_class-cut}
use Rattle.machine.proofs.Linearizability.Model.Structure.{LinkedOrCut, Structure}
use Rattle.machine.proofs.Linearizability.Model.Guarantee.{GuaranteesIn}
use Rattle.machine.proofs.Linearizability.Model.Nodes.{own-mark-not-far}
use Rattle.machine.proofs.Linearizability.Writes.OtherLanes.{LeftAlone, other-lane}
use Rattle.machine.proofs.Linearizability.Writes.Cut.{cut-A, cut-B, cut_keeps, cut-stays-main, cut-was-main}
use Rattle.machine.proofs.Linearizability.Writes.Cut.{cut-same-value, cut-guarantees, cut_frame}
use Rattle.machine.proofs.Linearizability.Writes.Spur.{SpurStep, spur-keeps, spur-guarantees}
use Rattle.machine.proofs.Linearizability.Writes.SpurLines.{spur-cut, spur-mark-Y, spur-unlink, unlink}
use Rattle.machine.proofs.Linearizability.Model.Reliance.{UnlinkPair}
use Rattle.machine.proofs.Linearizability.Model.Phases.{TaskOk}
use Rattle.machine.proofs.Linearizability.Model.Invariant.{Lane, Lanes, every-lane, same-lanes, one_lane}
use Rattle.machine.proofs.Linearizability.Model.Invariant.{RowStep, Kept, goes_on, has_answered, TickOk}
use Rattle.machine.proofs.Linearizability.Lines.LineEnds.{fresh_ok}

module _ (held : ℕ → Bool) (k : ℕ) {L : ℕ} {s o : Side} {m : View} {class : ℕ → Class} {r : ℕ → List ℕ}
    (D : Lanes L s o m class r) (t : Task) (own : t.lane < L) where
  open (D.lane t.lane own).frame use {a, b, bags}

  abbrev Ok : Effect → Type 0
  Ok e = TickOk held L k s o m class r t e

  abbrev mine : Lane t.lane s o m class (r t.lane)
  mine = D.lane t.lane own

  abbrev S : Structure t.lane s o m class mine.frame
  S = mine.structure

  -- A tick that writes the spur and main's last link only.
  module _ (l : List Write)
      (same-inn : (written t.lane s l m).inn ≡ m.inn) (same_hats : (written t.lane s l m).hats ≡ m.hats)
      (T : SpurStep k s o m.out m.inn m.val class
      (written t.lane s l m).out (written t.lane s l m).val class) where
    spur-written : {t' : Task} {a : Answer}
        → RowStep t.operation t.argument a (r t.lane) (r t.lane)
        → Kept t (record { writes = l; task = t'; answer = a })
        → TaskOk k s o (written t.lane s l m) class t'.step t'
        → Ok (record { writes = l; task = t'; answer = a })
    spur-written row_step kept task-ok =
        record {
          class' = class;
          r' = r;
          lanes =
              subst (λ (v : View). Lanes L s o v class r) (view-equal refl (sym same-inn) refl (sym same_hats))
              (same-lanes D (λ j h. spur-keeps (D.lane j h).structure T) (λ x j c. c));
          row_step = row_step;
          other-rows = λ j ne. refl;
          guarantees = rw same-inn (spur-guarantees S T (every-lane D) held);
          task-ok = task-ok;
          kept = kept;
        }

  pub done-64 : TaskOk k s o m class line64 t → m.out t.A ≡ t.B
      → Ok (writing (out≔ t.A no_node ∷ []) (next t line74))
  done-64 h e =
      let p = h.relies in
      let w = update-wrote m.out t.A no_node in
      let T = unlink S k w p.B-spur e p.A-old (λ c. p.not-far c e) in
      spur-written (out≔ t.A no_node ∷ []) refl refl T refl (goes_on refl refl)
      (record { relies = p.B-spur; chain = h.chain; belongs = h.belongs })

  pub done-78 : TaskOk k s o m class line78 t → Ok (writing (val≔ t.B (Y s) ∷ []) (next t line79))
  done-78 h =
      let w = update-wrote m.val t.B (Y s) in
      let T = spur-mark-Y S k w h.relies.B-spur in
      spur-written (val≔ t.B (Y s) ∷ []) refl refl T refl (goes_on refl refl)
      (record { relies = h.relies; chain = h.chain; belongs = h.belongs })

  pub done-79 : TaskOk k s o m class line79 t → Ok (writing (out≔ t.A no_node ∷ []) (next (with_a t t.B) line81))
  done-79 h =
      let w = update-wrote m.out t.A no_node in
      let T = spur-unlink S k w h.relies.A-spur in
      spur-written (out≔ t.A no_node ∷ []) refl refl T refl (goes_on refl refl)
      (record { relies = h.relies.B-spur; chain = h.chain; belongs = h.belongs })

  pub done-82 : TaskOk k s o m class line82 t → Ok (writing (out≔ t.A no_node ∷ []) (answers Yes))
  done-82 h =
      let w = update-wrote m.out t.A no_node in
      let T = spur-unlink S k w h.relies in
      spur-written (out≔ t.A no_node ∷ []) refl refl T
      (inr h.belongs, refl) (has_answered (λ e. refute (cc)) refl) (fresh_ok h.chain.none-new)

  -- ---- Line 62: a cut of main, or in the spur.
  abbrev cut-writes : List Write
  cut-writes = val≔ t.A (X s) ∷ val≔ t.B (Y s) ∷ []

  module _ (h : TaskOk k s o m class line62 t) (A-N : m.val t.A ≡ N s) (B-N : m.val t.B ≡ N s) where
    w-X : Wrote m.val t.A (X s) (update m.val t.A (X s))
    w-X = update-wrote m.val t.A (X s)

    w-Y : Wrote (update m.val t.A (X s)) t.B (Y s) (written t.lane s cut-writes m).val
    w-Y = update-wrote (update m.val t.A (X s)) t.B (Y s)

    -- A is in main of lane i, which the cut shortens; the others are left alone.
    module _ (i : ℕ) (A-main : class t.A ≡ main i) where
      abbrev cut-lane : Lane i s o m class (r i)
      cut-lane = D.lane i (D.below t.A i A-main)

      abbrev R : Structure i s o m class cut-lane.frame
      R = cut-lane.structure

      abbrev index : ℕ → ℕ
      index = cut-lane.frame.index

      abbrev class₁ : ℕ → Class
      class₁ = cut_class i s class index (index t.A)

      cut : (x : ℕ) → Cut i s class index (index t.A) class₁ x
      cut = cut_class-cut i s class index (index t.A)

      next-A : LinkedOrCut s m.out m.val class t.A t.B
      next-A = h.relies.main-next i A-main

      cut-pair : UnlinkPair s o (written t.lane s cut-writes m) class₁ t.A t.B
      cut-pair =
          let c = cut-A R w-X w-Y cut A-main A-N B-N next-A in
          record {
            A-old = cc;
            B-spur = cut-B R w-X w-Y cut A-main A-N B-N next-A;
            B-Y = w-Y.here;
            not-far = λ d. clash (cc);
          }

      cut-none-new : (x : ℕ) → class₁ x ≢ new k
      cut-none-new x q =
          elim (cut x) [ goes-to-spur c l e ↦ refute (cc) | not-cut l e ↦ h.chain.none-new x (cc) ]

      cut-guaranteed : (u : ℕ → Bool) → GuaranteesIn u k s o m class (written t.lane s cut-writes m) class₁
      cut-guaranteed u = cut-guarantees R w-X w-Y cut A-main A-N B-N next-A u k

      cut-structure : Structure i s o (written t.lane s cut-writes m) class₁ (cut_frame cut-lane.frame t.A)
      cut-structure = cut_keeps R w-X w-Y cut A-main A-N B-N next-A

      cut-alone : (l : ℕ) → l ≢ i → LeftAlone l m (written t.lane s cut-writes m) class class₁
      cut-alone l ne =
          record {
            stays-main = λ x q. cut-stays-main R w-X w-Y cut A-main A-N B-N next-A x l ne q;
            was-main = λ x q. cut-was-main R w-X w-Y cut A-main A-N B-N next-A x l q;
            same-words =
                λ x q.
                record {
                  same_out = refl;
                  same-inn = refl;
                  same-val = cut-same-value R w-X w-Y cut A-main A-N B-N next-A x l ne q;
                };
            same_hats = refl;
          }

      line62-main : Ok (writing cut-writes (next t line64))
      line62-main =
          record {
            class' = class₁;
            r' = r;
            lanes =
                one_lane D i
                (record {
                  frame = cut_frame cut-lane.frame t.A;
                  structure = cut-structure;
                  row_is = cut-lane.row_is;
                })
                (λ l ne. refl)
                (λ l q ne.
                other-lane (D.lane l q).structure cut-structure (cut-guaranteed (λ _. true)) (cut-alone l ne))
                (λ x l c. D.below x l (cut-was-main R w-X w-Y cut A-main A-N B-N next-A x l c));
            row_step = refl;
            other-rows = λ l ne. refl;
            guarantees = cut-guaranteed held;
            task-ok =
                record {
                  relies = cut-pair;
                  chain = record { none-new = cut-none-new; no-head = h.chain.no-head };
                  belongs = h.belongs;
                };
            kept = goes_on refl refl;
          }

    module _ (A-spur : class t.A ≡ spur s) where
      B-spur : class t.B ≡ spur s
      B-spur = h.relies.spur-next A-spur

      spur-cut-pair : UnlinkPair s o (written t.lane s cut-writes m) class t.A t.B
      spur-cut-pair =
          let sides = S.sides in
          record { A-old = h.relies.A-old; B-spur = B-spur; B-Y = w-Y.here; not-far = λ d. clash (cc) }

      line62-spur : Ok (writing cut-writes (next t line64))
      line62-spur =
          let T = spur-cut S k w-X w-Y A-spur B-spur (λ y. refute (cc)) in
          spur-written cut-writes refl refl T refl (goes_on refl refl)
          (record { relies = spur-cut-pair; chain = h.chain; belongs = h.belongs })

    pub done-62 : Ok (writing cut-writes (next t line64))
    done-62 =
        elim (old-class S.sides (class t.A) h.relies.A-old) [
          | in-main i c ↦ line62-main i c
          | in_near c ↦ line62-spur c
          | in-far c ↦ absurd (own-mark-not-far S t.A (cc) c)
        ]
