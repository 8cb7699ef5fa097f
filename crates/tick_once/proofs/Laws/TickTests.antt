-- The tests of a tick, in 01's order: each refusal, and the tick that passes them all.
use mathlib.Core.Path.{◌≡◌, refl, sym, ap, ◌∙◌}
use mathlib.Core.Bool.{Bool, true, false, not}
use mathlib.Core.Logic.{◌≢◌}
use mathlib.Core.List.{List}
use mathlib.Core.Option.{some, none}
use Prim.Native.Nat.{ℕ, zero, suc, ◌≤◌, ◌<◌}
use borrow.Author.Tests.{lt-ltb, le-ltb}
use Rattle.machine.specs.Outcomes.Answer.{Refused}
use Rattle.machine.specs.Operations.{operation_of}
use Rattle.machine.specs.Tasks.{operation_word}
use Rattle.machine.specs.Table.{node_count, task_count, record_words, task}
use Rattle.machine.specs.Shape.{WellFormed}
use Rattle.machine.specs.Calls.{is_idle, is_busy, table_refusal, Ticked, tick_on, tick, ticks}
use Rattle.machine.specs.Answers.{is_going}
use Rattle.machine.proofs.Words.RunLaws.{first-is-last}
use Rattle.table_layout.proofs.Laws.Numbers.{not-busy}
use Rattle.tick_once.specs.Steps.{made}
use Rattle.tick_once.proofs.Laws.TickWords.{told}
use Rattle.table_shape.proofs.Laws.PassedTable.{table-refused, table-passed, operation-is}

-- ---- Refusals 3 and 4.
module _ (ws : List ℕ) (k h : ℕ) where
  pub tick-refused : {n : ℕ} → some n ≡ table_refusal ws none → told (Refused n) ws ≡ tick ws k h
  unfolding tick
  tick-refused r = rw (table-refused ws r none, tick)

  pub tick-goes-on : none ≡ table_refusal ws none → tick_on ws k h ≡ tick ws k h
  unfolding tick
  tick-goes-on e = let P = table-passed ws e in rw (P.length_passes, P.shape_passes, tick)

  pub ticks-refused :
      {n : ℕ} → some n ≡ table_refusal ws none → (times : ℕ) → times ≢ 0 → told (Refused n) ws ≡ ticks times ws k h
  ticks-refused r zero asked = absurd (asked refl)
  ticks-refused r (suc m) asked =
      let e = tick-refused r in
      e ∙ sym (first-is-last m ws k h (ap (λ (t : Ticked). is_going t.answer) (sym e)))

-- ---- The others, of a table that passes.
module _ (ws : List ℕ) (P : WellFormed ws) (k : ℕ) (is_task : k < task_count ws) where
  abbrev is-idle : Bool
  is-idle = is_idle (operation_of (operation_word (record_words ws k)))

  busy-by-word : {b : Bool} → is-idle ≡ b → is_busy (task ws k).operation ≡ not b
  busy-by-word e =
      ap is_busy (operation-is ws P k is_task) ∙ not-busy (operation_of (operation_word (record_words ws k))) ∙ ap not e

  pub busy-task : is-idle ≡ false → is_busy (task ws k).operation ≡ true
  busy-task e = busy-by-word e

module _ (ws : List ℕ) (P : WellFormed ws) (k h : ℕ) where
  pub tick-5 : task_count ws ≤ k → told (Refused 5) ws ≡ tick_on ws k h
  unfolding tick_on
  tick-5 a = rw (le-ltb k (task_count ws) a, tick_on)

  module _ (is_task : k < task_count ws) where
    pub tick-9 : node_count ws ≤ h → told (Refused 9) ws ≡ tick_on ws k h
    unfolding tick_on
    tick-9 b = rw (lt-ltb k (task_count ws) is_task, le-ltb h (node_count ws) b, tick_on)

    module _ (is_hint : h < node_count ws) where
      pub tick-10 : is-idle ws P k is_task ≡ true → told (Refused 10) ws ≡ tick_on ws k h
      unfolding tick_on
      tick-10 e =
          rw (
            lt-ltb k (task_count ws) is_task,
            lt-ltb h (node_count ws) is_hint,
            busy-by-word ws P k is_task e,
            tick_on,
          )

      pub tick-passes : is-idle ws P k is_task ≡ false → made ws k h ≡ tick_on ws k h
      unfolding tick_on
      tick-passes e =
          rw (
            lt-ltb k (task_count ws) is_task,
            lt-ltb h (node_count ws) is_hint,
            busy-by-word ws P k is_task e,
            tick_on,
          )
