-- Contradictions and cases of numbers, in the forms that `cc` and `omega` produce and use.
use mathlib.Core.Path.{◌≡◌}
use mathlib.Core.Logic.{◌≢◌, ◌⊎◌, inl, inr}
use Prim.Native.Nat.{ℕ, ◌≤◌, ◌<◌}
use native.Mathlib.Omega.{arith}
use Rattle.machine.specs.Choice.{◌≟◌, ◌<?◌}

-- The equation that `cc` derives from any clash of constructors.
abbrev pub Clash : Type 0
Clash = ◌≡◌ {A = ℕ} 0 1

pub refute : Clash → ⊥
refute h = omega arith

pub clash : {T : Type 0} → Clash → T
clash h = absurd (refute h)

pub equal? : (x y : ℕ) → (x ≡ y) ⊎ (x ≢ y)
equal? x y = elim (x ≟ y) [ yes h ↦ inl h | no h ↦ inr h ]

pub less? : (x y : ℕ) → (x < y) ⊎ (y ≤ x)
less? x y = elim (x <? y) [ yes h ↦ inl h | no h ↦ inr (omega arith) ]
