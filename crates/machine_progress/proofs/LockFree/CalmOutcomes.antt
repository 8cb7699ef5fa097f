-- The lines that write and are calm: 24, 28, 31, 78 and 79.
use mathlib.Core.Path.{◌≡◌, refl}
use mathlib.Core.Logic.{◌≢◌}
use mathlib.Core.Bool.{Bool, true}
use mathlib.Core.List.{List, [], ◌∷◌}
use Prim.Native.Nat.{ℕ, ◌<◌}
use Rattle.machine.specs.Sides.{Side}
use Rattle.machine.specs.Values.{N, X, Y}
use Rattle.machine.specs.Steps as Steps
use Rattle.machine.specs.Tasks.{Task, no_node}
use Rattle.machine.specs.Lines.{Write, out≔, inn≔, val≔}
use Rattle.machine.proofs.Basics.Contradiction.{refute}
use Rattle.machine.proofs.Basics.Updates.{it-is, it-is-not, update, update-wrote, wrote?, update_other}
use Rattle.machine.proofs.Words.Memories.{View, written}
use Rattle.machine.proofs.Linearizability.Model.Held.{ClosedSet}
use Rattle.machine.proofs.Linearizability.Model.Classes.{Class, Old}
use Rattle.machine.proofs.Linearizability.Model.Nodes.{hat-old}
use Rattle.machine.proofs.Linearizability.Model.Guarantee.{SameIn}
use Rattle.machine.proofs.Linearizability.Writes.ChainGrowth.{head-new}
use Rattle.machine.proofs.Linearizability.Model.Phases.{TaskOk}
use Rattle.machine.proofs.Linearizability.Writes.Take.{TakeOk}
use Rattle.machine.proofs.Linearizability.Model.Invariant.{Lanes}
use Rattle.machine_progress.proofs.SoloBound.Walks.{ends-cut}
use Rattle.machine_progress.proofs.LockFree.Change.{kept, marked, Calm, past}
use Rattle.machine_progress.proofs.LockFree.Calmness.{calm-untouched}

module _ {held : ℕ → Bool} (k : ℕ) {L : ℕ} {s o : Side} {m : View} {class : ℕ → Class} {r : ℕ → List ℕ}
    (D : Lanes L s o m class r) (H : ClosedSet L held m) (t : Task) (own : t.lane < L) (f : ℕ) where
  -- Held old nodes keep their words.
  untouched : (l : List Write) → (written t.lane s l m).hats ≡ m.hats
      → ((x : ℕ) → held x ≡ true → Old class x → SameIn m (written t.lane s l m) x)
      → Calm held class m (written t.lane s l m)
  untouched l same_hats same = calm-untouched (D.lane t.lane own).structure D H same_hats same

  -- ---- Line 24.
  module _ (h : TaskOk k s o m class Steps.line24 t) where
    not-D : (x : ℕ) → Old class x → update m.inn t.D t.A x ≡ m.inn x
    not-D x x-old = update_other m.inn t.D t.A x (λ e. refute (cc (head-new h.chain)))

    pub calm-24 : Calm held class m (written t.lane s (inn≔ t.D t.A ∷ []) m)
    calm-24 =
        untouched (inn≔ t.D t.A ∷ []) refl
        (λ x _ x-old. record { same_out = refl; same-inn = not-D x x-old; same-val = refl })

    pub past-24 : m.out (update m.inn t.D t.A (m.hats t.lane s)) ≡ past t.lane s m
    past-24 = cc (not-D (m.hats t.lane s) (hat-old (D.lane t.lane own).structure))

  -- ---- Lines 28 and 31.
  module _ (K : TakeOk L held m class f) where
    pub calm-28 : Calm held class m (written t.lane s (out≔ f no_node ∷ inn≔ f no_node ∷ val≔ f (X s) ∷ []) m)
    calm-28 =
        untouched (out≔ f no_node ∷ inn≔ f no_node ∷ val≔ f (X s) ∷ []) refl (λ x x-held _.
        let apart : x ≢ f = λ e. refute (cc K.not-held) in
        record {
          same_out = update_other m.out f no_node x apart;
          same-inn = update_other m.inn f no_node x apart;
          same-val = update_other m.val f (X s) x apart;
        })

    pub calm-31 : TaskOk k s o m class Steps.line31 t
        → Calm held class m
        (written t.lane s (val≔ f (N s) ∷ inn≔ f no_node ∷ out≔ f t.D ∷ inn≔ t.D f ∷ []) m)
    calm-31 h =
        untouched (val≔ f (N s) ∷ inn≔ f no_node ∷ out≔ f t.D ∷ inn≔ t.D f ∷ []) refl (λ x x-held x-old.
        let apart : x ≢ f = λ e. refute (cc K.not-held) in
        let not-D : x ≢ t.D = λ e. refute (cc (head-new h.chain)) in
        record {
          same_out = update_other m.out f t.D x apart;
          same-inn =
              cc (update_other (update m.inn f no_node) t.D f x not-D, update_other m.inn f no_node x apart);
          same-val = update_other m.val f (N s) x apart;
        })

  -- ---- Lines 78 and 79, in the spur.
  pub calm-78 : TaskOk k s o m class Steps.line78 t → Calm held class m (written t.lane s (val≔ t.B (Y s) ∷ []) m)
  calm-78 h =
      record {
        same_hats = refl;
        main-same =
            λ x l c. record {
              same_out = refl;
              same-inn = refl;
              same-val = update_other m.val t.B (Y s) x (λ e. refute (cc h.relies.B-spur));
            };
        out-ends = λ i x _ _ w. w;
        inn-ends = λ i x _ _ w. w;
        values =
            λ x _ _. elim (wrote? (update-wrote m.val t.B (Y s)) x) [
              | it-is e q ↦ marked {z = s} (cc h.relies.B-spur) q
              | it-is-not e q ↦ kept q
            ];
      }

  pub calm-79 : TaskOk k s o m class Steps.line79 t
      → Calm held class m (written t.lane s (out≔ t.A no_node ∷ []) m)
  calm-79 h =
      record {
        same_hats = refl;
        main-same =
            λ x l c. record {
              same_out = update_other m.out t.A no_node x (λ e. refute (cc h.relies.A-spur));
              same-inn = refl;
              same-val = refl;
            };
        out-ends = λ i x _ _ w. ends-cut (update-wrote m.out t.A no_node) w;
        inn-ends = λ i x _ _ w. w;
        values = λ x _ _. kept refl;
      }
