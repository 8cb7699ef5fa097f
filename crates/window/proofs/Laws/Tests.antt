-- Tests, taken apart and put together; contradictions.
use Rattle.std.proofs.Common.{◌≡◌, ℕ, Bool, true, false, ◌&&◌, Some, None, refl, ap, arith}
use Rattle.std.specs.Bool.{then_some}

pub clash : {T : Type 0} → ◌≡◌ {A = ℕ} 0 1 → T
clash h = absurd (omega arith)

pub and_left : (a b : Bool) → a && b ≡ true → a ≡ true
and_left true b h = refl
and_left false b h = h

pub and_right : (a b : Bool) → a && b ≡ true → b ≡ true
and_right true b h = h
and_right false b h = clash (cc)

pub both_hold : {a b : Bool} → a ≡ true → b ≡ true → a && b ≡ true
both_hold g h = rw (g, h)

-- Two tests that imply each other are the same.
pub same_test : (a b : Bool) → (a ≡ true → b ≡ true) → (b ≡ true → a ≡ true) → a ≡ b
same_test true true f g = refl
same_test true false f g = clash (cc (f refl))
same_test false true f g = clash (cc (g refl))
same_test false false f g = refl

-- ---- A value where a test passes.

pub same-then : (a b : Bool) {m n : ℕ} → a ≡ b → (b ≡ true → m ≡ n) → then_some a m ≡ then_some b n
same-then true true e same = ap Some (same refl)
same-then true false e same = clash (cc)
same-then false true e same = clash (cc)
same-then false false e same = refl

pub passed-then : (a : Bool) {m n : ℕ} → Some n ≡ then_some a m → (a ≡ true) × (n ≡ m)
passed-then true e = (refl, cc e)
passed-then false e = clash (cc)

pub failed-then : (a : Bool) (m : ℕ) → None ≡ then_some a m → a ≡ false
failed-then true m e = clash (cc)
failed-then false m e = refl
