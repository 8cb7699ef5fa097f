-- What sides and operations are, known by comparisons of their numbers.
use mathlib.Core.Path.{◌≡◌, refl, sym, ◌∙◌}
use mathlib.Core.Logic.{◌≢◌}
use mathlib.Core.Bool.{false, not}
use Prim.Native.Nat.{ℕ}
use native.Mathlib.Decide.{ℕ_discrete}
use lib.Dec.{eqb}
use borrow.Author.Tests.{ne_eqb}
use Rattle.machine.specs.Choice.{◌≟◌}
use Rattle.machine.specs.Operations.{Operation, idle, push, pop, add, remove, operation_of}
use Rattle.machine.specs.Calls.{is_idle, is_busy}
use Rattle.machine.proofs.Basics.Choices.{test-unequal, by-if}

-- Every number but 0 is that of an operation.
pub idle-number : (n : ℕ) → eqb n 0 ≡ is_idle (operation_of n)
unfolding ℕ_discrete
idle-number n = go (n ≟ 0)
  where
    others : (n : ℕ) → n ≢ 0 → is_idle (operation_of n) ≡ false
    others n h =
        by-if (λ op. is_idle op ≡ false) (n ≟ 0) (λ e. absurd (h e)) (λ _.
        by-if (λ op. is_idle op ≡ false) (n ≟ 1) (λ _. refl) (λ _.
        by-if (λ op. is_idle op ≡ false) (n ≟ 2) (λ _. refl) (λ _.
        by-if (λ op. is_idle op ≡ false) (n ≟ 3) (λ _. refl) (λ _. refl))))

    go : Dec (n ≡ 0) → eqb n 0 ≡ is_idle (operation_of n)
    go (yes e) = rw e refl
    go (no e) = ne_eqb n 0 e ∙ sym (others n e)

pub not-busy : (op : Operation) → is_busy op ≡ not (is_idle op)
not-busy idle = refl
not-busy push = refl
not-busy pop = refl
not-busy add = refl
not-busy remove = refl

-- The last operation.
pub remove-else : (n : ℕ) → n ≢ 0 → n ≢ 1 → n ≢ 2 → n ≢ 3 → operation_of n ≡ remove
remove-else n a b c d = rw (test-unequal a, test-unequal b, test-unequal c, test-unequal d)
