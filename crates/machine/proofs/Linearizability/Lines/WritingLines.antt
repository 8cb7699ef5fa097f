-- The lines that write the hat: 5, 51 and 72.
use mathlib.Core.Path.{◌≡◌, refl, ap, sym, ◌∙◌}
use mathlib.Core.Logic.{◌≢◌}
use mathlib.Core.Bool.{Bool, true}
use mathlib.Core.List.{List, [], ◌∷◌, ◌++◌}
use Prim.Native.Nat.{ℕ, suc, ◌-◌, ◌<◌}
use native.Mathlib.Omega.{arith}
use Rattle.machine.specs.Outcomes.Answer.{Pushed, Bag}
use Rattle.machine.specs.Sides.{Side}
use Rattle.machine.specs.Values.{Value, bag, N, Y}
use Rattle.machine.specs.Steps.{Step, line5, line51, line72}
use Rattle.machine.specs.Tasks.{Task}
use Rattle.machine.specs.Lines.{val≔, hat≔, Effect, answers, writing, bag_of}
use Rattle.machine.proofs.Basics.Contradiction.{refute}
use Rattle.machine.proofs.Basics.Updates.{update, update_same, update_other, update-wrote, update_hat-elsewhere}
use Rattle.machine.proofs.Words.Memories.{View, written}
use Rattle.machine.proofs.Linearizability.Model.Classes.{Class, main}
use Rattle.machine.proofs.Linearizability.Model.Structure.{Frame, Structure}
use Rattle.machine.proofs.Linearizability.Model.Guarantee.{Guarantees, guarantees-refl}
use Rattle.machine.proofs.Linearizability.Writes.MainWrites.{value-guarantee, value-chains-kept}
use Rattle.machine.proofs.Linearizability.Writes.OtherLanes.{LeftAlone, other-lane}
use Rattle.machine.proofs.Linearizability.Writes.Push.{push-main, push-keeps}
use Rattle.machine.proofs.Linearizability.Writes.Pop.{pop-main, pop-in-row, pop-bag, pop-keeps, popped_frame}
use Rattle.machine.proofs.Linearizability.Writes.Unspur.{unspur-keeps}
use Rattle.machine.proofs.Linearizability.Model.Segments.{row_pushed, row-popped}
use Rattle.machine.proofs.Linearizability.Model.Phases.{with-chain, without-chain, TaskOk}
use Rattle.machine.proofs.Linearizability.Model.Invariant.{Lane, same-places, Lanes, one_lane, goes_on}
use Rattle.machine.proofs.Linearizability.Model.Invariant.{has_answered, TickOk, row_of}
use Rattle.machine.proofs.Lines.Branches.{Back, onward}
use Rattle.machine.specs.Outcomes.Answer.{Going}
use Rattle.machine.proofs.Linearizability.Lines.LineEnds.{fresh_ok, back-ok}

module _ (held : ℕ → Bool) (k : ℕ) {L : ℕ} {s o : Side} {m : View} {class : ℕ → Class} {r : ℕ → List ℕ}
    (D : Lanes L s o m class r) (t : Task) (own : t.lane < L) where
  open (D.lane t.lane own).frame use {a, b, bags}

  abbrev Ok : Effect → Type 0
  Ok e = TickOk held L k s o m class r t e

  abbrev mine : Lane t.lane s o m class (r t.lane)
  mine = D.lane t.lane own

  abbrev S : Structure t.lane s o m class mine.frame
  S = mine.structure

  -- A value written to a node of main.
  value_written : (u : ℕ → Bool) (x : ℕ) (v : Value)
      → class x ≡ main t.lane
      → Guarantees u k s o m.out m.inn m.val class m.out m.inn (update m.val x v) class
  value_written u x v c =
      let w = update-wrote m.val x v in
      record {
        near = value-guarantee w c u;
        far = value-guarantee w c u;
        chains = value-chains-kept k w (cc);
      }

  -- The hat moves to y and the value v is written to x, a node of the task's lane: the other lanes are left alone.
  abbrev moved : (y x : ℕ) → Value → View
  moved y x v = written t.lane s (hat≔ y ∷ val≔ x v ∷ []) m

  others-alone : (y x : ℕ) (v : Value) → class x ≡ main t.lane → (l : ℕ) → l ≢ t.lane
      → LeftAlone l m (moved y x v) class class
  others-alone y x v c l ne =
      record {
        stays-main = λ z q. q;
        was-main = λ z q. q;
        same-words =
            λ z q.
            record {
              same_out = refl;
              same-inn = refl;
              same-val = (update-wrote m.val x v).elsewhere z (λ e. ne (cc));
            };
        same_hats = update_hat-elsewhere m.hats t.lane s y l ne;
      }

  -- The lanes after it, with the task's own as R says.
  lanes-moved : (y x : ℕ) (v : Value) → class x ≡ main t.lane → {G : Frame} (q : List ℕ)
      → Structure t.lane s o (moved y x v) class G
      → row_of G ≡ q
      → Lanes L s o (moved y x v) class (update r t.lane q)
  lanes-moved y x v c {G} q R row_is =
      one_lane D t.lane
      (record { frame = G; structure = R; row_is = row_is ∙ sym (update_same r t.lane q) })
      (update_other r t.lane q)
      (λ l h ne. other-lane (D.lane l h).structure R (value_written (λ _. true) x v c) (others-alone y x v c l ne))
      D.below

  pub done-5 : TaskOk k s o m class line5 t
      → m.hats t.lane s ≡ t.A
      → m.val t.A ≡ N s
      → Ok (writing (hat≔ t.B ∷ val≔ t.A (bag t.argument) ∷ []) (answers Pushed))
  done-5 h e v =
      let w = update-wrote m.val t.A (bag t.argument) in
      let w-bags = update-wrote bags b t.argument in
      let c = push-main S e v in
      let longer : List ℕ = r t.lane ++ (t.argument ∷ []) in
      record {
        class' = class;
        r' = update r t.lane longer;
        lanes =
            lanes-moved t.B t.A (bag t.argument) c longer (push-keeps S e v w h.relies.B-follows)
            (row_pushed bags _ a b t.argument S.a<b w-bags
            ∙ ap (λ (l : List ℕ). l ++ (t.argument ∷ [])) mine.row_is);
        row_step = (h.belongs, update_same r t.lane longer);
        other-rows = update_other r t.lane longer;
        guarantees = value_written held t.A (bag t.argument) c;
        task-ok = fresh_ok h.chain.none-new;
        kept = has_answered (λ e. refute (cc)) refl;
      }

  pub done-51 : TaskOk k s o m class line51 t
      → m.hats t.lane s ≡ t.A
      → m.val t.B ≡ t.value
      → Ok (writing (hat≔ t.B ∷ val≔ t.B (N s) ∷ []) (answers (Bag (bag_of t.value))))
  done-51 h e q =
      let v : ℕ = h.relies.bag-read in
      let value-bag : t.value ≡ bag v = h.relies.read-bag in
      let B-bag : m.val t.B ≡ bag v = q ∙ value-bag in
      let not-Y : m.val t.B ≢ Y o = λ y. refute (cc) in
      let p = h.relies.pair.B-precedes in
      let j : ℕ = b - 1 in
      let ej : suc j ≡ b = omega (arith, S.a<b) in
      let w = update-wrote m.val t.B (N s) in
      let bag-j : bags j ≡ bag_of t.value = pop-bag S ej e p not-Y B-bag ∙ cc in
      let c = pop-main S ej e p not-Y in
      let shorter : List ℕ = row_of (popped_frame mine.frame j) in
      record {
        class' = class;
        r' = update r t.lane shorter;
        lanes = lanes-moved t.B t.B (N s) c shorter (pop-keeps S ej e p not-Y B-bag w) refl;
        row_step = (
          h.belongs,
          rw (update_same r t.lane shorter)
              (sym mine.row_is
              ∙ row-popped bags a j b _ (pop-in-row S ej e p not-Y B-bag) ej bag-j),
        );
        other-rows = update_other r t.lane shorter;
        guarantees = value_written held t.B (N s) c;
        task-ok = fresh_ok h.chain.none-new;
        kept = has_answered (λ e. refute (cc)) refl;
      }

  module _ (h : TaskOk k s o m class line72 t) where
    hats-alone : (l : ℕ) → l ≢ t.lane → LeftAlone l m (written t.lane s (hat≔ t.C ∷ []) m) class class
    hats-alone l ne =
        record {
          stays-main = λ x q. q;
          was-main = λ x q. q;
          same-words = λ x q. record { same_out = refl; same-inn = refl; same-val = refl };
          same_hats = update_hat-elsewhere m.hats t.lane s t.C l ne;
        }

    pub done-72 : {st : Step} → m.hats t.lane s ≡ t.A → Back t st
        → Ok (record { writes = hat≔ t.C ∷ []; task = onward t t st; answer = Going })
    done-72 e c =
        let R = unspur-keeps S e h.relies.A-spur h.relies.C-follows in
        let moved = written t.lane s (hat≔ t.C ∷ []) m in
        record {
          class' = class;
          r' = r;
          lanes =
              one_lane D t.lane (same-places mine R) (λ l ne. refl)
              (λ l q ne. other-lane (D.lane l q).structure R (guarantees-refl (λ _. true) k) (hats-alone l ne))
              D.below;
          row_step = refl;
          other-rows = λ l ne. refl;
          guarantees = guarantees-refl held k;
          task-ok =
              back-ok S.none_free t moved t.C c
              (elim h.chain [ with-chain c ↦ with-chain c | without-chain c e ↦ without-chain c e ]) h.belongs;
          kept = goes_on refl refl;
        }
