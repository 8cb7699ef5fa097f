-- Choices and decisions whose outcome is known; rewriting by `equal` and its neighbours makes a choice compute.
use mathlib.Core.Path.{◌≡◌, refl, ap}
use mathlib.Core.Logic.{◌≢◌}
use mathlib.Core.HLevel.{hedberg, ¬_prop}
use Prim.Native.Nat.{ℕ}
use native.Mathlib.Nat.{ℕ_set}
use Rattle.machine.specs.Choice.{◌≟◌, if?◌then◌else◌}
use Rattle.machine.specs.Values.{Value, Value-discrete, ◌≟ᵛ◌}

decided-yes : {P : Type 0} → IsProp P → (d : Dec P) (h : P) → d ≡ yes h
decided-yes p (yes g) h = ap yes (p g h)
decided-yes p (no g) h = absurd (g h)

decided-no : {P : Type 0} (d : Dec P) (h : ¬ P) → d ≡ no h
decided-no (yes g) h = absurd (h g)
decided-no (no g) h = ap no (¬_prop g h)

-- Two numbers known to be equal, or not.
pub test-equal : {x y : ℕ} (h : x ≡ y) → (x ≟ y) ≡ yes h
test-equal {x} {y} h = decided-yes (ℕ_set x y) (x ≟ y) h

pub test-unequal : {x y : ℕ} (h : x ≢ y) → (x ≟ y) ≡ no h
test-unequal {x} {y} h = decided-no (x ≟ y) h

-- Two values known to be equal, or not.
pub equalᵛ : {u v : Value} (h : u ≡ v) → (u ≟ᵛ v) ≡ yes h
equalᵛ {u} {v} h = decided-yes (hedberg Value-discrete u v) (u ≟ᵛ v) h

pub unequalᵛ : {u v : Value} (h : u ≢ v) → (u ≟ᵛ v) ≡ no h
unequalᵛ {u} {v} h = decided-no (u ≟ᵛ v) h

-- What holds of both ends of a choice, each where it is taken, holds of the choice.
pub by-if : {T Q : Type 0} (P : T → Type 0) {a b : T} (d : Dec Q) → (Q → P a) → (¬ Q → P b) → P (if? d then a else b)
by-if P (yes h) f g = f h
by-if P (no h) f g = g h

-- A choice whose proposition is known.
module _ {T P : Type 0} (d : Dec P) (a b : T) where
  pub if_yes : P → (if? d then a else b) ≡ a
  if_yes h = by-if (λ x. x ≡ a) d (λ _. refl) (λ n. absurd (n h))

  pub if_no : ¬ P → (if? d then a else b) ≡ b
  if_no n = by-if (λ x. x ≡ b) d (λ h. absurd (n h)) (λ _. refl)
