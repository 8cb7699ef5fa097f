-- A table of held registers answers as the definition does: at all of its entries, by one test, and past its end.
use mathlib.Core.Path.{◌≡◌, refl, ap, ◌∙◌}
use mathlib.Core.Bool.{Bool, true, ◌&&◌, beq}
use mathlib.Core.List.{List, [], ◌∷◌, ◌++◌}
use Prim.Native.Nat.{ℕ, ◌≤◌, ◌<◌}
use native.Mathlib.Omega.{arith}
use lib.Dec.{T, leb}
use lib.ListN.{length, get_or, get_or-eq_default}
use borrow.Author.Tests.{leb-true}
use Rattle.machine.specs.Choice.{◌≟◌, ◌<?◌}
use Rattle.machine.specs.Steps.{Step, rest, step_number, step_in, step_of, push_steps, pop_steps, remove_steps}
use Rattle.machine.specs.Tasks.{Register, in_a, in_b, in_c, in_d}
use Rattle.machine.specs.Registers.{holds}
use Rattle.machine.proofs.Basics.Tests.{beq-equal, and_left, and_right}
use Rattle.machine.proofs.Basics.Choices.{if_no}
use Rattle.table_steps.proofs.Laws.Tables.{at, every}
use Rattle.table_steps.proofs.Laws.OwnerTable.{in_table}
use Rattle.table_steps.specs.Bits.{is_in, Exact}

-- ---- The test of an entry: it answers as the definition does, for each register.
unfoldable pub agrees : (step entry : ℕ) → Register → Bool
agrees s e r = beq (is_in e r) (holds (step_of s) r)

unfoldable pub entry_ok : (step entry : ℕ) → Bool
entry_ok s e = agrees s e in_a && agrees s e in_b && agrees s e in_c && agrees s e in_d

each-agrees : (s e : ℕ) → entry_ok s e ≡ true → (r : Register) → agrees s e r ≡ true
unfolding entry_ok
each-agrees s e h in_a = search (and_left, and_right) depth 4
each-agrees s e h in_b = search (and_left, and_right) depth 4
each-agrees s e h in_c = search (and_left, and_right) depth 4
each-agrees s e h in_d = search (and_left, and_right) depth 4

-- ---- No step is past the table's end.
absent : (sts : List Step) (s : ℕ) → 83 ≤ s → in_table sts ≡ true → step_in sts s ≡ rest
unfolding step_in
absent [] s h t = refl
absent (st ∷ sts) s h t =
    let l : step_number st ≤ 82 = leb-true _ _ (and_left (leb (step_number st) 82) (in_table sts) t) in
    if_no (s ≟ step_number st) st (step_in sts s) (λ e. omega arith)
    ∙ absent sts s h (and_right (leb (step_number st) 82) (in_table sts) t)

past_end : (s : ℕ) → 83 ≤ s → step_of s ≡ rest
unfolding step_of
past_end s h = absent (push_steps ++ (pop_steps ++ remove_steps)) s h refl

none-past-end : (s : ℕ) → 83 ≤ s → (r : Register) → is_in 0 r ≡ holds (step_of s) r
none-past-end s h r = none-in-zero r ∙ rw (past_end s h)
  where
    none-in-zero : (r : Register) → is_in 0 r ≡ holds rest r
    none-in-zero in_a = refl
    none-in-zero in_b = refl
    none-in-zero in_c = refl
    none-in-zero in_d = refl

-- ---- A table that has as many entries as steps have numbers is exact if each of them passes the test.
pub exact-if : (table : List ℕ) → length table ≡ 83 → T (every entry_ok 0 table) → Exact table
unfolding agrees
exact-if table long all-ok = record { at-step = λ s r. go s r (s <? 83) }
  where
    go : (s : ℕ) (r : Register) → Dec (s < 83) → is_in (get_or table s 0) r ≡ holds (step_of s) r
    go s r (yes h) = beq-equal _ _ (each-agrees s (get_or table s 0) (at entry_ok table all-ok s (omega arith)) r)
    go s r (no h) =
        ap (λ (e : ℕ). is_in e r) (get_or-eq_default table 0 {n = s} (omega arith))
        ∙ none-past-end s (omega arith) r
