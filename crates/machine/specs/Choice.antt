-- Choices: a case by a decided proposition, and equality and order of numbers as decisions.
use Rattle.std.specs.Prelude.{◌≡◌, ℕ, ◌<◌, ◌≤◌}
use Rattle.std.proofs.Math.Decide.{ℕ_discrete, dec_lt, dec_le}

infix 4 ◌≟◌
infix 4 ◌<?◌
infix 4 ◌≤?◌
infix 1 if?◌then◌else◌
-- Whether two numbers are equal.
abbrev pub ◌≟◌ : (x y : ℕ) → Dec (x ≡ y)
◌≟◌ x y = ℕ_discrete x y

-- Whether one number is below another.
abbrev pub ◌<?◌ : (x y : ℕ) → Dec (x < y)
◌<?◌ x y = dec_lt x y

-- Whether one number is at most another.
abbrev pub ◌≤?◌ : (x y : ℕ) → Dec (x ≤ y)
◌≤?◌ x y = dec_le x y

-- The first where the proposition holds, the second where it does not.
abbrev pub if?◌then◌else◌ : {T P : Type 0} → Dec P → T → T → T
if?◌then◌else◌ (yes h) a b = a
if?◌then◌else◌ (no h) a b = b
