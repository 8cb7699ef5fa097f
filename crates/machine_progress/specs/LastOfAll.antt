-- Request 2026-07: T - 1 dispatches are not enough for a busy task, whatever T is.
use Rattle.std.specs.Prelude.{◌≡◌, List, [], ◌∷◌, map, ℕ, zero, suc}
use Rattle.machine.specs.Sides.{left, side_number}
use Rattle.machine.specs.Values.{stored}
use Rattle.machine.specs.Operations.{pop, operation_number}
use Rattle.machine.specs.Table.{dispatched}
use Rattle.machine.specs.Calls.{start_words, dispatch}
use Rattle.machine.specs.Demand3.{Call, begin_call}
use Rattle.machine.specs.Begun.{after_all}

-- The tasks last dispatched after each of n dispatches with hint 0.
unfoldable pub turns : (n : ℕ) → List ℕ → List ℕ
turns zero ws = []
turns (suc n) ws = let vs = (dispatch ws 0).words in dispatched vs ∷ turns n vs

-- Pops begun for tasks k, k + 1, .., n of them.
unfoldable pub begin_pops : (n k : ℕ) → List Call
begin_pops zero k = []
begin_pops (suc n) k =
    begin_call k 0 (operation_number pop) (side_number left) (stored 0) ∷ begin_pops n (suc k)

-- The numbers from k on, n of them.
unfoldable pub numbers_from : (n k : ℕ) → List ℕ
numbers_from zero k = []
numbers_from (suc n) k = k ∷ numbers_from n (suc k)

-- Of T tasks, all busy since the start, each gets its tick in turn, and the last one at the T-th dispatch: for every T
-- that a table may have.
abbrev pub LastOfAll : Type 0
LastOfAll =
    map (λ T. turns T (after_all (begin_pops T 0) (start_words 2 T 0 1))) (numbers_from 16 1)
    ≡ map (λ T. numbers_from T 0) (numbers_from 16 1)
