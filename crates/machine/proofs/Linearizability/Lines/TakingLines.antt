-- The lines that build a chain of nodes taken: 28 and 31.
use mathlib.Core.Path.{◌≡◌, refl, ◌∙◌}
use mathlib.Core.Logic.{◌≢◌, inl, inr}
use mathlib.Core.Bool.{Bool}
use mathlib.Core.List.{List, [], ◌∷◌}
use Prim.Native.Nat.{ℕ, suc, ◌<◌}
use Rattle.machine.specs.Sides.{Side}
use Rattle.machine.specs.Values.{N, X}
use Rattle.machine.specs.Steps.{Step, line28, line31}
use Rattle.machine.specs.Tasks.{goto, Task, no_node, with_d, with_counted}
use Rattle.machine.specs.Lines.{Write, out≔, inn≔, val≔, Effect, next, writing}
use Rattle.machine.proofs.Basics.Contradiction.{equal?}
use Rattle.machine.proofs.Basics.Updates.{Wrote, update, update-wrote}
use Rattle.machine.proofs.Words.Memories.{View, written}
use Rattle.machine.proofs.Linearizability.Model.Classes.{Class, new}
use Rattle.machine.proofs.Linearizability.Writes.ClassChanges.{taken_class}
use Rattle.machine.proofs.Linearizability.Model.Guarantee.{SameIn}
use Rattle.machine.proofs.Linearizability.Model.Chain.{HasChainIn}
use Rattle.machine.proofs.Linearizability.Writes.ChainGrowth.{first-node, head-new, one_more}
use Rattle.machine.proofs.Linearizability.Model.Phases.{TaskOk}
use Rattle.machine.proofs.Linearizability.Model.Structure.{Structure}
use Rattle.machine.proofs.Linearizability.Model.Invariant.{Lane, Lanes, TickOk}
use Rattle.machine.proofs.Linearizability.Writes.Take.{TakeOk, taken-new, new-not-taken, new-stays, was-new}
use Rattle.machine.proofs.Linearizability.Writes.Take.{takes}

module _ (held : ℕ → Bool) (k : ℕ) {L : ℕ} {s o : Side} {m : View} {class : ℕ → Class} {r : ℕ → List ℕ}
    (D : Lanes L s o m class r) (t : Task) (own : t.lane < L) (f : ℕ) where
  abbrev Ok : Effect → Type 0
  Ok e = TickOk held L k s o m class r t e

  abbrev mine : Lane t.lane s o m class (r t.lane)
  mine = D.lane t.lane own

  abbrev S : Structure t.lane s o m class mine.frame
  S = mine.structure

  -- ---- Line 28: the first node.
  abbrev first-writes : List Write
  first-writes = out≔ f no_node ∷ inn≔ f no_node ∷ val≔ f (X s) ∷ []

  abbrev first_taken : Step → Effect
  first_taken st = writing first-writes (next (with_counted (with_d t f) 0) st)

  module _ (h : TaskOk k s o m class line28 t) (T : TakeOk L held m class f) (f-some : f ≢ no_node) where
    f-new : taken_class k held f class f ≡ new k
    f-new = taken-new k D S.none_free T f-some

    first-same : (x : ℕ)
        → taken_class k held f class x ≢ new k
        → SameIn m (written t.lane s first-writes m) x
    first-same x not_new =
        let x≢f : x ≢ f = λ e. not_new (cc (f-new)) in
        record {
          same_out = (update-wrote m.out f no_node).elsewhere x x≢f;
          same-inn = (update-wrote m.inn f no_node).elsewhere x x≢f;
          same-val = (update-wrote m.val f (X s)).elsewhere x x≢f;
        }

    only-f : (x : ℕ) → taken_class k held f class x ≡ new k → x ≡ f
    only-f x q =
        elim (equal? x f) [
          | inl e ↦ e
          | inr ne ↦ absurd (h.chain.none-new x (was-new k D S.none_free T f-some x k ne q))
        ]

    pub first-chain : HasChainIn k s (written t.lane s first-writes m) (taken_class k held f class) f
    first-chain =
        first-node f-new only-f (update-wrote m.out f no_node).here (update-wrote m.inn f no_node).here
        (update-wrote m.val f (X s)).here

    pub taken-28 : (st : Step) → TaskOk k s o (written t.lane s first-writes m) (taken_class k held f class) st
        (goto (with_counted (with_d t f) 0) st)
        → Ok (first_taken st)
    taken-28 st q = takes k D S.none_free T f-some t first-writes refl first-same refl q

  -- ---- Line 31: one more.
  abbrev more-writes : List Write
  more-writes = val≔ f (N s) ∷ inn≔ f no_node ∷ out≔ f t.D ∷ inn≔ t.D f ∷ []

  abbrev more-taken : Step → Effect
  more-taken st = writing more-writes (next (with_counted (with_d t f) (suc t.counted)) st)

  module _ (h : TaskOk k s o m class line31 t) (T : TakeOk L held m class f) (f-some : f ≢ no_node) where
    D-new : taken_class k held f class t.D ≡ new k
    D-new = new-stays k D S.none_free T f-some t.D k (head-new h.chain)

    w-D : Wrote (update m.inn f no_node) t.D f (written t.lane s more-writes m).inn
    w-D = update-wrote (update m.inn f no_node) t.D f

    more_same : (x : ℕ)
        → taken_class k held f class x ≢ new k
        → SameIn m (written t.lane s more-writes m) x
    more_same x not_new =
        let x≢f : x ≢ f = λ e. not_new (cc (taken-new k D S.none_free T f-some)) in
        let x≢D : x ≢ t.D = λ e. not_new (cc (D-new)) in
        record {
          same_out = (update-wrote m.out f t.D).elsewhere x x≢f;
          same-inn = w-D.elsewhere x x≢D ∙ (update-wrote m.inn f no_node).elsewhere x x≢f;
          same-val = (update-wrote m.val f (N s)).elsewhere x x≢f;
        }

    pub more-chain : HasChainIn k s (written t.lane s more-writes m) (taken_class k held f class) f
    more-chain =
        one_more h.chain
        (update-wrote m.out f t.D) (update-wrote m.val f (N s)) (update-wrote m.inn f no_node) w-D
        (taken-new k D S.none_free T f-some) (λ x. new-stays k D S.none_free T f-some x k)
        (λ x. was-new k D S.none_free T f-some x k) (λ x. new-not-taken k D S.none_free T f-some x k)

    pub taken-31 : (st : Step) → TaskOk k s o (written t.lane s more-writes m) (taken_class k held f class) st
        (goto (with_counted (with_d t f) (suc t.counted)) st)
        → Ok (more-taken st)
    taken-31 st q = takes k D S.none_free T f-some t more-writes refl more_same refl q
