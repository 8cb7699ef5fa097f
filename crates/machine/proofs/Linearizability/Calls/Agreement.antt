-- The table and the row agree; so each lane in the table is its row.
use mathlib.Core.Path.{◌≡◌, refl, sym, ap, ◌∙◌, subst}
use mathlib.Core.List.{List}
use mathlib.Core.Option.{Option, some, none, bind}
use Prim.Native.Nat.{ℕ, zero, suc, ◌≤◌, ◌<◌}
use native.Mathlib.Omega.{arith}
use Rattle.machine.specs.Choice.{◌≟◌}
use Rattle.machine.specs.Shape.{WellFormed}
use Rattle.machine.specs.Sides.{right}
use Rattle.machine.specs.Operations.{Operation, idle, push, pop, add, remove, operation_of}
use Rattle.machine.specs.Tasks.{Task}
use Rattle.machine.specs.Table.{task_count, lane_count, dispatched, task}
use Rattle.machine.specs.Calls.{is_busy, lanes_below, all_lanes}
use Rattle.machine.specs.Twice.{rows_below, all_bags}
use Rattle.machine.specs.Row.{Note, Row, has_note}
use Rattle.machine.specs.Demand3.{LanesAre}
use Rattle.machine.proofs.Basics.Choices.{by-if}
use Rattle.machine.proofs.Words.Memories.{viewed}
use Rattle.machine.proofs.Linearizability.Model.Classes.{Class}
use Rattle.machine.proofs.Linearizability.Model.Invariant.{Invariant, note_of}
use Rattle.machine.proofs.Linearizability.Calls.Reading.{lane_row}

-- The note of a task: its call, or none where it is idle.
abbrev pub note_under : Operation → Note → Option Note
note_under idle n = none
note_under push n = some n
note_under pop n = some n
note_under add n = some n
note_under remove n = some n

abbrev pub note_in : Task → Option Note
note_in t = note_under t.operation (note_of t)

pub record Agrees (ws : List ℕ) (ρ : Row) : Type 0 where
  pub accepted : WellFormed ws
  pub class : ℕ → Class
  pub invariant : Invariant (lane_count ws) (viewed right ws) (task ws) class ρ.bags
  pub notes : (k : ℕ) → ρ.notes k ≡ note_in (task ws k)
  pub same-lanes : ρ.lanes ≡ lane_count ws
  pub same_count : ρ.tasks ≡ task_count ws
  pub same_dispatched : ρ.dispatched ≡ dispatched ws

-- A begun task has the note of its call.
pub begun-note : (n : ℕ) → 1 ≤ n → (m : Note) → note_under (operation_of n) m ≡ some m
begun-note n h m =
    by-if (λ op. note_under op m ≡ some m) (n ≟ 0) (λ e. absurd (omega arith)) (λ _.
    by-if (λ op. note_under op m ≡ some m) (n ≟ 1) (λ _. refl) (λ _.
    by-if (λ op. note_under op m ≡ some m) (n ≟ 2) (λ _. refl) (λ _.
    by-if (λ op. note_under op m ≡ some m) (n ≟ 3) (λ _. refl) (λ _. refl))))

-- The tasks with a note are the busy ones.
pub noted-if-busy : {ws : List ℕ} {ρ : Row} → Agrees ws ρ → (k : ℕ)
    → has_note (ρ.notes k) ≡ is_busy (task ws k).operation
noted-if-busy {ws} A k = ap has_note (A.notes k) ∙ under (task ws k).operation (note_of (task ws k))
  where
    under : (op : Operation) (n : Note) → has_note (note_under op n) ≡ is_busy op
    under idle n = refl
    under push n = refl
    under pop n = refl
    under add n = refl
    under remove n = refl

pub lanes-are-rows : {ws : List ℕ} {ρ : Row} → Agrees ws ρ → LanesAre ws ρ
lanes-are-rows {ws} A l h =
    lane_row ws (A.invariant.lanes.lane l (subst (λ (n : ℕ). l < n) A.same-lanes h))

-- All lanes, one after another, are the rows one after another.
module _ (ws : List ℕ) (ρ : Row) (A : LanesAre ws ρ) where
  lanes-below : (n : ℕ) → n ≤ ρ.lanes → lanes_below ws n ≡ some (rows_below ρ.bags n)
  unfolding lanes_below rows_below bind
  lanes-below zero h = refl
  lanes-below (suc n) h = rw (lanes-below n (omega arith), A n h)

pub all-lanes-are-rows : {ws : List ℕ} {ρ : Row} → Agrees ws ρ → all_lanes ws ≡ some (all_bags ρ)
all-lanes-are-rows {ws} {ρ} A =
    ap (lanes_below ws) (sym A.same-lanes) ∙ lanes-below ws ρ (lanes-are-rows A) ρ.lanes (omega arith)
