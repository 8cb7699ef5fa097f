-- Two opposite sides as variables, so that each lemma is proved once for both.
use mathlib.Core.Path.{◌≡◌, refl, ap, ◌∙◌}
use Prim.Native.Nat.{ℕ}
use mathlib.Core.Logic.{◌⊎◌, inl, inr}
use mathlib.Core.Bool.{Bool, true, false, not}
use Rattle.machine.specs.Sides.{Side, left, right, opposite}
use Rattle.machine.proofs.Basics.Contradiction.{clash}
use Rattle.machine.proofs.Basics.Updates.{update_side, update_hat, update_hat-own}

-- s and o are the two sides. The tag tells them apart in a form that `cc` reads.
pub record Opposite (s o : Side) : Type 0 where
  pub tag : Side → Bool
  pub tag-near : tag s ≡ true
  pub tag-far : tag o ≡ false
  pub either : (z : Side) → (z ≡ s) ⊎ (z ≡ o)

pub sides : (s : Side) → Opposite s (opposite s)
sides left =
    record {
      tag = λ z. elim z [ left ↦ true | right ↦ false ];
      tag-near = refl;
      tag-far = refl;
      either = elim [ left ↦ inl refl | right ↦ inr refl ];
    }
sides right =
    record {
      tag = λ z. elim z [ left ↦ false | right ↦ true ];
      tag-near = refl;
      tag-far = refl;
      either = elim [ left ↦ inr refl | right ↦ inl refl ];
    }

pub opposite-exchanged : {s o : Side} → Opposite s o → Opposite o s
opposite-exchanged w =
    record {
      tag = λ z. not (w.tag z);
      tag-near = cc;
      tag-far = cc;
      either = λ z. elim (w.either z) [ inl e ↦ inr e | inr e ↦ inl e ];
    }

-- What is written at one side is not written at the other.
update_side-other : {T : Type 0} (f : Side → T) (s o : Side) (v : T) → Opposite s o → update_side f s v o ≡ f o
update_side-other f left left v w = clash (cc (w.tag-near, w.tag-far))
update_side-other f left right v w = refl
update_side-other f right left v w = refl
update_side-other f right right v w = clash (cc (w.tag-near, w.tag-far))

-- A hat of a lane written leaves its other hat.
pub update_hat-far : {T : Type 0} (f : ℕ → Side → T) (l : ℕ) (s o : Side) (v : T) → Opposite s o
    → update_hat f l s v l o ≡ f l o
update_hat-far {T} f l s o v w =
    ap (λ (g : Side → T). g o) (update_hat-own f l s v) ∙ update_side-other (f l) s o v w
