-- What a write to a node keeps: a value, of the spurs and the guarantee where the node is in main; a value or an
-- outward link, of the chains where the node is old.
use mathlib.Core.Path.{◌≡◌, refl, ◌∙◌}
use mathlib.Core.Logic.{inl}
use mathlib.Core.Bool.{Bool}
use Prim.Native.Nat.{ℕ}
use Rattle.machine.specs.Sides.{Side}
use Rattle.machine.specs.Values.{Value}
use Rattle.machine.proofs.Basics.Contradiction.{clash, refute}
use Rattle.machine.proofs.Basics.Updates.{Wrote}
use Rattle.machine.proofs.Linearizability.Model.Classes.{Class, main, Old}
use Rattle.machine.proofs.Linearizability.Model.Structure.{CutFrom, Spur}
use Rattle.machine.proofs.Linearizability.Model.Guarantee.{Guarantee, ChainsKept}

module _ {val val' : ℕ → Value} {class : ℕ → Class} {x : ℕ} {v : Value}
    {ℓ : ℕ} (w : Wrote val x v val') (c : class x ≡ main ℓ) where
  pub cut-from-kept : {z : Side} {inn : ℕ → ℕ} {y u : ℕ} → CutFrom z inn val class y u → CutFrom z inn val' class y u
  cut-from-kept h =
      record {
        in-spur = h.in-spur;
        is-Y = w.elsewhere _ (λ e. refute (cc)) ∙ h.is-Y;
        leads-back = h.leads-back;
      }

  pub spur-kept : {z : Side} {out inn : ℕ → ℕ} → Spur z out inn val class → Spur z out inn val' class
  spur-kept h =
      record {
        own-mark = λ y q. cc (w.elsewhere y (λ e. refute (cc)), h.own-mark y q);
        inward-old = h.inward-old;
        outward-spur = h.outward-spur;
      }

  pub value-guarantee : (held : ℕ → Bool) {z : Side} {out inn : ℕ → ℕ}
      → Guarantee held z out inn val class out inn val' class
  value-guarantee held =
      record {
        spur-stays = λ y _ h. h;
        spur-inward = λ y _ h. refl;
        Y-stays = λ y _ h q. w.elsewhere y (λ e. refute (cc)) ∙ q;
        spur-not-main = λ y l h e. refute (cc);
        main-old = λ y l h. cc;
        main-outward = λ y l h ne. inl refl;
        cut-inward = λ y l h q. refl;
        cut-behind-main = λ y l h q. clash (cc);
      }

pub value-chains-kept : (k : ℕ) {out inn : ℕ → ℕ} {val val' : ℕ → Value} {class : ℕ → Class} {x : ℕ} {v : Value}
    → Wrote val x v val'
    → Old class x
    → ChainsKept k out inn val class out inn val' class
value-chains-kept k w c =
    record {
      stays-new = λ y j _ h. h;
      same-words =
          λ y j _ h. record { same_out = refl; same-inn = refl; same-val = w.elsewhere y (λ e. refute (cc)) };
      was-new = λ y j _ h. h;
    }

pub out-chains-kept : (k : ℕ) {out out' inn : ℕ → ℕ} {val : ℕ → Value} {class : ℕ → Class} {x y : ℕ}
    → Wrote out x y out'
    → Old class x
    → ChainsKept k out inn val class out' inn val class
out-chains-kept k w c =
    record {
      stays-new = λ u j _ h. h;
      same-words =
          λ u j _ h. record { same_out = w.elsewhere u (λ e. refute (cc)); same-inn = refl; same-val = refl };
      was-new = λ u j _ h. h;
    }
