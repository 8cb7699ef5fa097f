-- Request 2026-07: a busy task gets its tick within T dispatches, in every accepted table, whatever calls are between.
use Rattle.std.specs.Prelude.{◌≡◌, true, false, List, [], ◌∷◌, ℕ, ◌+◌, ◌≤◌, ◌<◌}
use Rattle.std.proofs.Math.Option.{Option, some, none}
use Rattle.machine.specs.Outcomes.Dispatch.{Answered}
use Rattle.machine.specs.Table.{task_count, dispatched, set_dispatched}
use Rattle.machine.specs.Answers.{refusal_of, dispatch_refusal_of}
use Rattle.machine.specs.Calls.{
  table_refusal,
  tick,
  is_busy_task,
  Dispatched,
  dispatch,
  dispatches,
  dispatches_made,
}
use Rattle.machine.specs.Demand3.{Call, after}
use Rattle.machine.specs.Kinds.{Asked, a_start, a_begin, ticks-of, dispatches_with, a_look, asked}

-- ---- The task last dispatched.

-- 02: "A plain tick does not touch it": nor does any call that asks for no dispatch and no fresh table.
abbrev pub LeavesDispatched : Asked → List ℕ → List ℕ → Type 0
LeavesDispatched (a_start S T g lanes) ws vs = Unit {0}
LeavesDispatched (a_begin k l op side argument) ws vs = dispatched vs ≡ dispatched ws
LeavesDispatched (ticks-of list) ws vs = dispatched vs ≡ dispatched ws
LeavesDispatched (dispatches_with h times) ws vs = Unit {0}
LeavesDispatched a_look ws vs = dispatched vs ≡ dispatched ws

abbrev pub OthersLeaveDispatched : Type 0
OthersLeaveDispatched =
    (ws : List ℕ) → table_refusal ws none ≡ none → (c : Call) → LeavesDispatched (asked c) ws (after c ws)

-- ---- Lists of calls with dispatches in them.

-- Consecutive dispatches: their hint, and how many are asked for.
pub record Repeat : Type 0 where
  pub hint : ℕ
  pub times : ℕ

-- Those that a call asks for, where it asks for dispatches; a dispatch asks for one.
abbrev pub dispatches_in : Asked → Option Repeat
dispatches_in (dispatches_with h times) = some (record { hint = h; times = times })
dispatches_in (a_start S T g lanes) = none
dispatches_in (a_begin k l op side argument) = none
dispatches_in (ticks-of list) = none
dispatches_in a_look = none

abbrev pub dispatches_of : Call → Option Repeat
dispatches_of c = dispatches_in (asked c)

-- How many dispatches a call makes, and a list of calls.
abbrev pub made_by : Call → List ℕ → ℕ
made_by c ws =
    elim (dispatches_of c) as (λ _. ℕ) [ some d ↦ dispatches_made d.times ws d.hint | none ↦ 0 ]

abbrev pub dispatch_count : List Call → List ℕ → ℕ
dispatch_count [] ws = 0
dispatch_count (c ∷ cs) ws = made_by c ws + dispatch_count cs (after c ws)

-- 02: "provided none is refused". Of consecutive dispatches only the last can be.
abbrev pub NoneRefused : List Call → List ℕ → Type 0
NoneRefused [] ws = Unit {0}
NoneRefused (c ∷ cs) ws =
    ((d : Repeat)
    → dispatches_of c ≡ some d
    → dispatch_refusal_of (dispatches d.times ws d.hint).answer ≡ none)
    × NoneRefused cs (after c ws)

-- What a dispatch did is the tick of task k, made; and k is the task last dispatched.
pub record IsTickOf (k hint : ℕ) (ws : List ℕ) (done : Dispatched) : Type 0 where
  pub made : refusal_of (tick ws k hint).answer ≡ none
  pub same_answer : done.answer ≡ Answered (tick ws k hint).answer
  pub same-words : done.words ≡ set_dispatched k (tick ws k hint).words

-- A dispatch of a call ticks task k: one of those made, on the table that the dispatches before it left.
pub record TicksTask (k : ℕ) (c : Call) (ws : List ℕ) : Type 0 where
  pub row : Repeat
  pub asked : dispatches_of c ≡ some row
  pub place : ℕ
  pub is_made : place < dispatches_made row.times ws row.hint
  pub is_tick :
      let vs = (dispatches place ws row.hint).words in IsTickOf k row.hint vs (dispatch vs row.hint)

-- ---- The claim, for a task that stays busy.

-- Some dispatch of the list ticks task k.
pub data GetsTick (k : ℕ) : List Call → List ℕ → Type 0 where
  ticks_it : {cs : List Call} {ws : List ℕ} (c : Call) → TicksTask k c ws → GetsTick k (c ∷ cs) ws
  after_it : {cs : List Call} {ws : List ℕ} (c : Call) → GetsTick k cs (after c ws) → GetsTick k (c ∷ cs) ws

-- Task k is busy before every call of the list.
abbrev pub BusyThroughout : (k : ℕ) → List Call → List ℕ → Type 0
BusyThroughout k [] ws = Unit {0}
BusyThroughout k (c ∷ cs) ws = (is_busy_task ws k ≡ true) × BusyThroughout k cs (after c ws)

-- 02: "A task that is busy gets its tick within T dispatches". While it is busy no start is accepted,
-- so T is the same throughout.
abbrev pub Fair : Type 0
Fair =
    (ws : List ℕ)
    → table_refusal ws none ≡ none
    → (k : ℕ) (calls : List Call)
    → BusyThroughout k calls ws
    → NoneRefused calls ws
    → task_count ws ≤ dispatch_count calls ws
    → GetsTick k calls ws

-- ---- The same for every list: the task gets its tick, or another call ends it first.

-- What becomes of a busy task k: a dispatch ticks it; or, while dispatches are still to come, a call that is no
-- dispatch ends the task's call.
pub data TickedOrEnded (k : ℕ) : List Call → List ℕ → Type 0 where
  gets_tick : {cs : List Call} {ws : List ℕ} (c : Call) → TicksTask k c ws → TickedOrEnded k (c ∷ cs) ws
  ends_first :
      {cs : List Call} {ws : List ℕ} (c : Call)
      → dispatches_of c ≡ none
      → is_busy_task (after c ws) k ≡ false
      → 0 < dispatch_count cs (after c ws)
      → TickedOrEnded k (c ∷ cs) ws
  still_busy :
      {cs : List Call} {ws : List ℕ} (c : Call)
      → is_busy_task (after c ws) k ≡ true
      → TickedOrEnded k cs (after c ws)
      → TickedOrEnded k (c ∷ cs) ws

-- 02: "provided none is refused and no plain tick or start ends it first".
abbrev pub FairUnlessEnded : Type 0
FairUnlessEnded =
    (ws : List ℕ)
    → table_refusal ws none ≡ none
    → (k : ℕ)
    → is_busy_task ws k ≡ true
    → (calls : List Call)
    → NoneRefused calls ws
    → task_count ws ≤ dispatch_count calls ws
    → TickedOrEnded k calls ws
