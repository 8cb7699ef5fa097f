-- The cabinet drains: dispatches alone come to "idle", within a bound, and by then every call has answered.
use Rattle.std.specs.Prelude.{◌≡◌, true, false, cond, List, ◌∷◌, ℕ, zero, suc, ◌+◌, ◌*◌, ◌≤◌, ◌<◌, length}
use Rattle.machine.specs.Outcomes.Answer.{Answer, Going}
use Rattle.machine.specs.Outcomes.Dispatch.{Idle, Answered}
use Rattle.machine.specs.Answers.{ends_call}
use Rattle.machine.specs.Table.{node_count, task_count, lane_count}
use Rattle.machine.specs.Calls.{is_busy_task, dispatch}
use Rattle.machine.specs.Begun.{Begun}
use Rattle.machine.specs.Events.{Always, every_copy}
use Rattle.machine_progress.specs.Solo.{HintsBelow}
use Rattle.machine_progress.specs.LockFree.{too_many_ticks}

-- How many of the first n tasks are in a call, and how many of all.
unfoldable pub busy_below : List ℕ → (n : ℕ) → ℕ
busy_below ws zero = 0
busy_below ws (suc n) = cond (is_busy_task ws n) (suc (busy_below ws n)) (busy_below ws n)

abbrev pub busy_tasks : List ℕ → ℕ
busy_tasks ws = busy_below ws (task_count ws)

-- A dispatch for each hint, one after another, and nothing else is done: one of them says "idle", with no task in a
-- call; those before it are ticks that were made, of which n ended a call and the others said "going".
pub data Drained : (n : ℕ) (hints ws : List ℕ) → Type 0 where
  idle_now :
      {h : ℕ} {hints ws : List ℕ}
      → (dispatch ws h).answer ≡ Idle
      → ((k : ℕ) → is_busy_task ws k ≡ false)
      → Drained 0 (h ∷ hints) ws
  goes_on :
      {n h : ℕ} {hints ws : List ℕ}
      → (dispatch ws h).answer ≡ Answered Going
      → Drained n hints (dispatch ws h).words
      → Drained n (h ∷ hints) ws
  answers :
      {n h : ℕ} {hints ws : List ℕ} (a : Answer)
      → ends_call a ≡ true
      → (dispatch ws h).answer ≡ Answered a
      → Drained n hints (dispatch ws h).words
      → Drained (suc n) (h ∷ hints) ws

-- With any hints below S, so many dispatches come to "idle", and by then each task that was in a call has answered.
abbrev pub DrainsByAt : (enough : (ws : List ℕ) → ℕ → Type 0) → List ℕ → Type 0
DrainsByAt enough ws =
    (hints : List ℕ)
    → HintsBelow (node_count ws) hints
    → enough ws (length hints)
    → Drained (busy_tasks ws) hints ws

-- So it is from any table that start and our calls can reach.
abbrev DrainsBy : (enough : (ws : List ℕ) → ℕ → Type 0) → Type 0
DrainsBy enough = (ws : List ℕ) → Begun ws → DrainsByAt enough ws

-- T times the ticks of lock-freedom are enough.
abbrev pub Drains : Type 0
Drains = DrainsBy (λ ws n. task_count ws * too_many_ticks (node_count ws) (task_count ws) (lane_count ws) ≤ n)

-- ---- A closer bound, by the number of tasks that are in a call.

-- With b tasks in a call, so many ticks are too many without an answer: as `too_many_ticks`, but for these tasks only.
abbrev pub busy_ticks : (S T lanes b : ℕ) → ℕ
busy_ticks S T lanes b = (b * (T + 1) + 2 * lanes + 1) * (b * (6 * S + 153) + 1)

-- One answer after another; the last task is alone.
abbrev pub drain_ticks : (S T lanes b : ℕ) → ℕ
drain_ticks S T lanes zero = 0
drain_ticks S T lanes (suc zero) = 4 * S + 154
drain_ticks S T lanes (suc (suc b)) = busy_ticks S T lanes (suc (suc b)) + drain_ticks S T lanes (suc b)

-- So many dispatches answer all calls, and the next one says "idle".
abbrev pub DrainsCloser : Type 0
DrainsCloser =
    DrainsBy (λ ws n. drain_ticks (node_count ws) (task_count ws) (lane_count ws) (busy_tasks ws) < n)

-- 2026-10, 2026-14: and so at every place of a list of events at which a row is known, whatever pending records were
-- copied, also over busy tasks.
abbrev pub DrainsWhereKnown : Type 0
DrainsWhereKnown =
    Always every_copy (λ ws ρ.
    DrainsByAt (λ vs n. drain_ticks (node_count vs) (task_count vs) (lane_count vs) (busy_tasks vs) < n) ws)
