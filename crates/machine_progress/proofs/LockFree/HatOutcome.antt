-- Line 72 disturbs: it moves the hat.
use mathlib.Core.Path.{◌≡◌, sym, ap, subst}
use mathlib.Core.Logic.{◌≢◌, inl, inr}
use mathlib.Core.Bool.{Bool}
use mathlib.Core.List.{List, [], ◌∷◌}
use Prim.Native.Nat.{ℕ, suc, ◌-◌, ◌≤◌, ◌<◌}
use native.Mathlib.Omega.{arith}
use Rattle.machine.specs.Outcomes.Answer.{Going}
use Rattle.machine.specs.Sides.{Side}
use Rattle.machine.specs.Steps.{Step}
use Rattle.machine.specs.Steps as Steps
use Rattle.machine.specs.Tasks.{Task, no_node}
use Rattle.machine.specs.Lines.{hat≔, Effect}
use Rattle.machine.proofs.Basics.Contradiction.{equal?}
use Rattle.machine.proofs.Basics.Updates.{update_hat-same, update_hat-elsewhere}
use Rattle.machine.proofs.Words.Memories.{View, written}
use Rattle.machine.proofs.Linearizability.Model.Sides.{update_hat-far}
use Rattle.machine.proofs.Linearizability.Model.Classes.{Class, main}
use Rattle.machine.proofs.Linearizability.Model.Structure.{Structure}
use Rattle.machine.proofs.Lines.Branches as B
use Rattle.machine.proofs.Linearizability.Model.Phases.{TaskOk}
use Rattle.machine.proofs.Linearizability.Model.Invariant.{Lane, Lanes}
use Rattle.machine_progress.proofs.SoloBound.AtHat.{j, j-next, inn-hat, past-hat, past-off-Y}
use Rattle.machine_progress.proofs.SoloBound.Budget.{SoonOrLate, soon, late}
use Rattle.machine_progress.proofs.LockFree.Change.{past, Steady, BothSteady, BothNoCut}
use Rattle.machine_progress.proofs.LockFree.Disturbances.{Room, Moving}
use Rattle.machine_progress.proofs.LockFree.TickProgress.{TickProgress, disturbs, moves}
use Rattle.machine_progress.proofs.LockFree.QuietOutcomes.{back-disturbs, chain-op}

module _ (T : ℕ) (held : ℕ → Bool) (k : ℕ) {L : ℕ} {s o : Side} {m : View} {class : ℕ → Class} {r : ℕ → List ℕ}
    (D : Lanes L s o m class r) (t : Task) (own : t.lane < L) (g f n : ℕ) where
  abbrev Ok : Effect → Type 0
  Ok e = TickProgress T L held class t.lane s o m n e

  abbrev mine : Lane t.lane s o m class (r t.lane)
  mine = D.lane t.lane own

  abbrev Z : Structure t.lane s o m class mine.frame
  Z = mine.structure

  module _ (h : TaskOk k s o m class Steps.line72 t) (at-A : m.hats t.lane s ≡ t.A) where
    abbrev moved : View
    moved = written t.lane s (hat≔ t.C ∷ []) m

    hat-moved : moved.hats t.lane s ≡ t.C
    hat-moved = update_hat-same m.hats t.lane s t.C

    far-stays : (l : ℕ) → moved.hats l o ≡ m.hats l o
    far-stays l =
        elim (equal? l t.lane) [
          | inl e ↦
              subst (λ (j : ℕ). moved.hats j o ≡ m.hats j o) (sym e)
              (update_hat-far m.hats t.lane s o t.C Z.sides)
          | inr ne ↦ ap (λ (f : Side → ℕ). f o) (update_hat-elsewhere m.hats t.lane s t.C l ne)
        ]

    C-inward : m.inn t.C ≡ m.inn (m.hats t.lane s)
    C-inward =
        let q = inn-hat Z in
        let l : j Z < mine.frame.n = omega (arith, j-next Z, Z.b≤n) in
        let j-main : class (m.inn t.A) ≡ main t.lane = cc (Z.main_list.is-main (j Z) (omega arith)) in
        elim (h.relies.C-follows t.lane j-main) [
          | inl e ↦ let z = j-next Z in cc (past-hat Z, Z.links.links-in (j Z) l)
          | inr y ↦ cc y.leads-back
        ]

    own-steady : Steady t.lane s m moved
    own-steady =
        record {
          behind-same = cc (hat-moved, C-inward);
          past_same = cc (hat-moved, C-inward);
          stays-off-Y = λ ne. absurd (ne (cc h.relies.A-Y));
        }

    -- The hats of the other lanes stay.
    other-steady : (l : ℕ) → l ≢ t.lane → Steady l s m moved
    other-steady l ne =
        let same : moved.hats l s ≡ m.hats l s =
        ap (λ (f : Side → ℕ). f s) (update_hat-elsewhere m.hats t.lane s t.C l ne) in
        record { behind-same = cc; past_same = cc; stays-off-Y = λ off y. off (cc) }

    move-steady : BothSteady L s o m moved
    move-steady =
        record {
          near =
              λ l q. elim (equal? l t.lane) [
                | inl e ↦ subst (λ (j : ℕ). Steady j s m moved) (sym e) own-steady
                | inr ne ↦ other-steady l ne
              ];
          far =
              λ l q. record {
                behind-same = cc (far-stays l);
                past_same = cc (far-stays l);
                stays-off-Y = λ ne y. ne (cc (far-stays l));
              };
        }

    move-no-cut : BothNoCut L held class s o m moved
    move-no-cut =
        record {
          near = λ l q. record { N-stays = λ v. v; no-X = λ x _ _ ne. ne };
          far = λ l q. record { N-stays = λ v. v; no-X = λ x _ _ ne. ne };
        }

    -- The splices left, with the hat moved.
    room-then : {i : ℕ} (w : Moving s m t n) → w.splices ≤ i
        → SoonOrLate ((t.D ≡ no_node) × Room t.lane s moved) 0 1 i
    room-then w l =
        elim w.may-splice [
          | soon p h ↦ soon (p.0, cc (hat-moved, C-inward, p.1)) (omega arith)
          | late h ↦ late (omega arith)
        ]

    by_move : {st : Step} (w : Moving s m t n)
        → SoonOrLate (m.inn t.A ≡ m.inn (m.hats t.lane s) → t.C ≡ past t.lane s m)
        w.splices (suc w.splices) n
        → B.Back t st
        → Ok (record { writes = hat≔ t.C ∷ []; task = B.onward t t st; answer = Going })
    by_move w (soon e l) c =
        let d : t.C ≡ past t.lane s m = e (cc) in
        moves move-steady move-no-cut (cc h.relies.A-Y) (λ y. past-off-Y Z (cc (hat-moved)))
        (back-disturbs T s moved t t c (chain-op T k D t own g f n h.chain) (room-then w l))
    by_move w (late l) c =
        disturbs {i = n - 1} move-steady move-no-cut (omega arith)
        (back-disturbs T s moved t t c (chain-op T k D t own g f n h.chain) (room-then w (omega arith)))

    pub done-72 : {st : Step} → Moving s m t n → B.Back t st
        → Ok (record { writes = hat≔ t.C ∷ []; task = B.onward t t st; answer = Going })
    done-72 w = by_move w w.may-move
