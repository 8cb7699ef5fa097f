-- Going round by number: past the last one comes 0. In this order free nodes are looked for and tasks dispatched.
use Rattle.std.specs.Prelude.{◌≡◌, Bool, true, false, cond, ℕ, zero, suc, ◌+◌, ◌-◌, ◌≤◌, ◌<◌, ltb}
use Rattle.std.proofs.Math.Option.{Option, some, none}
use Rattle.machine.specs.Choice.{◌<?◌, if?◌then◌else◌}

-- The number after i of those below n. 01: upward, going round past S - 1 to 0.
abbrev pub following : (n i : ℕ) → ℕ
following n i = cond (ltb (i + 1) n) (i + 1) 0

-- The first of m numbers from i on, going round below n, that passes the test.
unfoldable pub first_from : (n : ℕ) → (ℕ → Bool) → (m i : ℕ) → Option ℕ
first_from n test zero i = none
first_from n test (suc m) i =
    elim (test i) as (λ _. Option ℕ) [ true ↦ some i | false ↦ first_from n test m (following n i) ]

-- The next one after i that passes the test: each number below n is asked once, i itself last.
abbrev pub next_after : (n : ℕ) → (ℕ → Bool) → (i : ℕ) → Option ℕ
next_after n test i = first_from n test n (following n i)

-- ---- The same without a search.

-- How many steps lead from i to k: 1 to the number after it, n round to i itself.
abbrev pub steps : (n i k : ℕ) → ℕ
steps n i k = if? i <? k then k - i else n + k - i

-- j passes the test, and no number that does is fewer steps away.
pub record IsNext (n : ℕ) (test : ℕ → Bool) (i j : ℕ) : Type 0 where
  pub below : j < n
  pub passes : test j ≡ true
  pub nearest : (k : ℕ) → k < n → test k ≡ true → steps n i j ≤ steps n i k

-- What is found is the next one; where none is found, none passes.
abbrev pub FindsNext : Type 0
FindsNext =
    (n : ℕ) (test : ℕ → Bool) (i : ℕ)
    → i < n
    → ((j : ℕ) → next_after n test i ≡ some j → IsNext n test i j)
    × (next_after n test i ≡ none → (k : ℕ) → k < n → test k ≡ false)
