-- Tests, taken apart and put together; choices that are known; contradictions.
-- `search (and_left, and_right)` gives each part of a test joined by `&&`, and `search (test-passed, tests_left)` each
-- test of a list of refusals of which none was met.
use mathlib.Core.Path.{◌≡◌, refl, sym}
use mathlib.Core.Logic.{◌⊎◌, inl, inr}
use mathlib.Core.Bool.{Bool, true, false, ◌&&◌, ◌||◌, beq}
use mathlib.Core.Option.{Option, none}
use Prim.Native.Nat.{ℕ}
use Rattle.machine.proofs.Basics.Contradiction.{clash}
use Rattle.machine.specs.Calls.{unless}

pub and_left : (a b : Bool) → a && b ≡ true → a ≡ true
and_left true b h = refl
and_left false b h = h

pub and_right : (a b : Bool) → a && b ≡ true → b ≡ true
and_right true b h = h
and_right false b h = clash (cc)

pub or-either : (a b : Bool) → a || b ≡ true → (a ≡ true) ⊎ (b ≡ true)
or-either true b h = inl refl
or-either false b h = inr h

pub or_left : (a b : Bool) → a ≡ true → a || b ≡ true
or_left a b h = rw h

pub or_right : (a b : Bool) → b ≡ true → a || b ≡ true
or_right true b h = refl
or_right false b h = h

pub beq-equal : (a b : Bool) → beq a b ≡ true → a ≡ b
beq-equal true true h = refl
beq-equal true false h = sym h
beq-equal false true h = h
beq-equal false false h = refl

-- A list of refusals: where none is met, the first test passes and none is met of the others.
pub test-passed : (b : Bool) (n : ℕ) (others : Option ℕ) → unless b n others ≡ none → b ≡ true
test-passed true n others e = refl
test-passed false n others e = clash (cc)

pub tests_left : (b : Bool) (n : ℕ) (others : Option ℕ) → unless b n others ≡ none → others ≡ none
tests_left true n others e = e
tests_left false n others e = clash (cc)
