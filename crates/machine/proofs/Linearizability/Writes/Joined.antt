-- What a splice keeps of the classes and of the other tasks' chains, whichever old class the chain joins.
use mathlib.Core.Path.{◌≡◌, refl}
use mathlib.Core.Logic.{◌≢◌}
use mathlib.Core.Bool.{true}
use Prim.Native.Nat.{ℕ}
use Rattle.machine.specs.Values.{Value}
use Rattle.machine.proofs.Basics.Contradiction.{clash, refute}
use Rattle.machine.proofs.Basics.Updates.{Wrote}
use Rattle.machine.proofs.Linearizability.Model.Classes.{Class, new, old, Old}
use Rattle.machine.proofs.Linearizability.Writes.ClassChanges.{Joined, joins, not-joined}
use Rattle.machine.proofs.Linearizability.Model.Guarantee.{ChainsKept}

module _ {k : ℕ} {c : Class} {class class' : ℕ → Class} (join : (x : ℕ) → Joined k c class class' x) where
  pub old-same : (x : ℕ) → Old class x → class' x ≡ class x
  old-same x h = elim (join x) [ joins n e ↦ clash (cc) | not-joined n e ↦ e ]

  pub new-joins : (x : ℕ) → class x ≡ new k → class' x ≡ c
  new-joins x h = elim (join x) [ joins n e ↦ e | not-joined n e ↦ absurd (n h) ]

  module _ (c-old : old c ≡ true) where
    pub joined-none-new : (x : ℕ) → class' x ≢ new k
    joined-none-new x h = elim (join x) [ joins n e ↦ refute (cc) | not-joined n e ↦ n (cc) ]

    -- Where the outward link and the value of an old node are written.
    pub joined-chains : {out out' inn : ℕ → ℕ} {val val' : ℕ → Value} {x y : ℕ} {v : Value}
        → Wrote out x y out'
        → Wrote val x v val'
        → Old class x
        → ChainsKept k out inn val class out' inn val' class'
    joined-chains wrote-out wrote-val x-old =
        record {
          stays-new =
              λ u j ne h. elim (join u) [ joins n e ↦ absurd (ne (cc)) | not-joined n e ↦ cc ];
          same-words =
              λ u j ne h. record {
                same_out = wrote-out.elsewhere u (λ p. refute (cc));
                same-inn = refl;
                same-val = wrote-val.elsewhere u (λ p. refute (cc));
              };
          was-new = λ u j ne h. elim (join u) [ joins n e ↦ clash (cc) | not-joined n e ↦ cc ];
        }
