-- The table of steps answers as 01's lists do: at all of its entries, by one test, and past its end.
use mathlib.Core.Path.{◌≡◌, refl, sym, ◌∙◌}
use mathlib.Core.Bool.{Bool, true, false, ◌&&◌, beq}
use mathlib.Core.List.{List, [], ◌∷◌}
use Prim.Native.Nat.{ℕ, ◌≤◌, ◌<◌}
use native.Mathlib.Omega.{arith}
use lib.Dec.{T, leb}
use lib.ListN.{length, get_or, get_or-eq_default}
use borrow.Author.Tests.{leb-true, ne_eqb}
use Rattle.machine.specs.Choice.{◌≟◌, ◌<?◌}
use Rattle.machine.specs.Operations.{Operation, idle, push, pop, add, remove, operation_of}
use Rattle.machine.specs.Steps.{Step, step_number, steps_of, is_step_in}
use Rattle.machine.proofs.Basics.Tests.{beq-equal, and_left, and_right}
use Rattle.table_steps.proofs.Laws.Tables.{at, every}
use Rattle.table_steps.specs.Owners.{owned, OwnerOk, OwnersOk}

-- ---- The test of an entry: it answers as the operation's list does, for each operation.
unfoldable pub agrees : (step owner operation : ℕ) → Bool
agrees s o op = beq (owned op o) (is_step_in (steps_of (operation_of op)) s)

unfoldable pub entry_ok : (step owner : ℕ) → Bool
entry_ok s o = agrees s o 1 && agrees s o 2 && agrees s o 3 && agrees s o 4

-- What holds of 1, 2, 3 and 4 holds of each number between.
between : (P : ℕ → Type 0) → P 1 → P 2 → P 3 → P 4 → (n : ℕ) → 1 ≤ n → n ≤ 4 → P n
between P a b c d n l m = go (n ≟ 1) (n ≟ 2) (n ≟ 3)
  where
    go : Dec (n ≡ 1) → Dec (n ≡ 2) → Dec (n ≡ 3) → P n
    go (yes e) g h = rw e a
    go (no e) (yes g) h = rw g b
    go (no e) (no g) (yes h) = rw h c
    go (no e) (no g) (no h) = let q : n ≡ 4 = omega arith in rw q d

entry-answers : (s o : ℕ) → entry_ok s o ≡ true → OwnerOk s o
unfolding entry_ok agrees
entry-answers s o h =
    let one : agrees s o 1 ≡ true = search (and_left, and_right) depth 4 in
    let two : agrees s o 2 ≡ true = search (and_left, and_right) depth 4 in
    let three : agrees s o 3 ≡ true = search (and_left, and_right) depth 4 in
    let four : agrees s o 4 ≡ true = search (and_left, and_right) depth 4 in
    record {
      answers =
          between (λ n. owned n o ≡ is_step_in (steps_of (operation_of n)) s)
          (beq-equal _ _ one) (beq-equal _ _ two) (beq-equal _ _ three) (beq-equal _ _ four);
    }

-- ---- No step is past the table's end.
abbrev pub in_table : List Step → Bool
in_table [] = true
in_table (st ∷ sts) = leb (step_number st) 82 && in_table sts

absent : (sts : List Step) (s : ℕ) → 83 ≤ s → in_table sts ≡ true → is_step_in sts s ≡ false
unfolding is_step_in
absent [] s h t = refl
absent (st ∷ sts) s h t =
    let l : step_number st ≤ 82 = leb-true _ _ (and_left (leb (step_number st) 82) (in_table sts) t) in
    rw (ne_eqb s (step_number st) (omega arith))
    (absent sts s h (and_right (leb (step_number st) 82) (in_table sts) t))

past_end : (op : Operation) (s : ℕ) → 83 ≤ s → is_step_in (steps_of op) s ≡ false
past_end idle s h = absent (steps_of idle) s h refl
past_end push s h = absent (steps_of push) s h refl
past_end pop s h = absent (steps_of pop) s h refl
past_end add s h = absent (steps_of add) s h refl
past_end remove s h = absent (steps_of remove) s h refl

none-past-end : (s : ℕ) → 83 ≤ s → OwnerOk s 0
none-past-end s h =
    record {
      answers =
          λ op l m. between (λ n. owned n 0 ≡ false) refl refl refl refl op l m ∙ sym (past_end (operation_of op) s h);
    }

-- ---- A table that has as many entries as steps have numbers is right if each of them passes the test.
pub owners-if : (table : List ℕ) → length table ≡ 83 → T (every entry_ok 0 table) → OwnersOk table
owners-if table long all-ok = record { at-step = λ s. go s (s <? 83) }
  where
    go : (s : ℕ) → Dec (s < 83) → OwnerOk s (get_or table s 0)
    go s (yes h) = entry-answers s (get_or table s 0) (at entry_ok table all-ok s (omega arith))
    go s (no h) = rw (get_or-eq_default table 0 {n = s} (omega arith)) (none-past-end s (omega arith))
