-- A refusal is known by its number. Two tests before others: the refusal that the two give alone is that of all, and
-- where they give none the others say.
use Rattle.std.proofs.Common.{◌≡◌, ◌≢◌, refl, sym, ap, Bool, true, false, ℕ}
use Rattle.std.proofs.Math.Option.{Option, some, none}
use Rattle.machine.specs.Calls.{unless}
use Rattle.machine.proofs.Basics.Contradiction.{clash}

-- The number of a refusal; 0, which is none of 01's, where a call is not refused.
abbrev pub number_of : Option ℕ → ℕ
number_of none = 0
number_of (some n) = n

pub refusal-due : (o : Option ℕ) {n : ℕ} → n ≡ number_of o → n ≢ 0 → o ≡ some n
refusal-due none e h = absurd (h e)
refusal-due (some m) e h = ap some (sym e)

pub two_refuse :
    (a b : Bool) (m n : ℕ) {k : ℕ} (others : Option ℕ)
    → unless a m (unless b n none) ≡ some k
    → unless a m (unless b n others) ≡ some k
two_refuse true true m n others e = clash (cc)
two_refuse true false m n others e = e
two_refuse false b m n others e = e

pub two_pass : (a b : Bool) (m n : ℕ) → unless a m (unless b n none) ≡ none → (a ≡ true) × (b ≡ true)
two_pass true true m n e = (refl, refl)
two_pass true false m n e = clash (cc)
two_pass false b m n e = clash (cc)
