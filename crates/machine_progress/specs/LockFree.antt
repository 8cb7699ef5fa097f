-- Lock-freedom with a bound: some call answers, whoever ticks and in whatever order.
use Rattle.std.specs.Prelude.{◌≡◌, true, List, [], ◌∷◌, ℕ, suc, ◌+◌, ◌*◌, ◌≤◌, ◌<◌, length}
use Rattle.machine.specs.Outcomes.Answer.{Going, Refused}
use Rattle.machine.specs.Outcomes.Dispatch.{Idle, Answered}
use Rattle.machine.specs.declared.Stored.{Stored}
use Rattle.machine.specs.Table.{node_count, task_count, lane_count, task}
use Rattle.machine.specs.Calls.{is_busy, begin, tick, dispatch}
use Rattle.machine.specs.Begun.{Begun}
use Rattle.machine.specs.Answers.{ends_call}
use Rattle.machine.specs.Events.{Always, every_copy}

-- ---- No long stretch without an answer.

-- What is done to the table: a tick of any task with any hint, a dispatch (2026-07), or a begin with any arguments. (A
-- run is its ticks, reading changes nothing, and a start ends every call.)
pub data Move : Type 0 where
  ticks : (k hint : ℕ) → Move
  dispatches : (hint : ℕ) → Move
  begins : (k lane operation side : ℕ) (argument : Stored) → Move

-- The moves are made one after another and no tick answers: n ticks, those of dispatches too, say "going", other ticks
-- and dispatches are refused, some dispatches are idle, and begins are accepted or refused.
pub data AnswerFree : (n : ℕ) (moves : List Move) (ws : List ℕ) → Type 0 where
  no_more : {ws : List ℕ} → AnswerFree 0 [] ws
  going :
      {n k h : ℕ} {moves : List Move} {ws : List ℕ}
      → (tick ws k h).answer ≡ Going
      → AnswerFree n moves (tick ws k h).words
      → AnswerFree (suc n) (ticks k h ∷ moves) ws
  refused :
      {n k h r : ℕ} {moves : List Move} {ws : List ℕ}
      → (tick ws k h).answer ≡ Refused r
      → AnswerFree n moves (tick ws k h).words
      → AnswerFree n (ticks k h ∷ moves) ws
  dispatched :
      {n h : ℕ} {moves : List Move} {ws : List ℕ}
      → (dispatch ws h).answer ≡ Answered Going
      → AnswerFree n moves (dispatch ws h).words
      → AnswerFree (suc n) (dispatches h ∷ moves) ws
  dispatch-refused :
      {n h r : ℕ} {moves : List Move} {ws : List ℕ}
      → (dispatch ws h).answer ≡ Answered (Refused r)
      → AnswerFree n moves (dispatch ws h).words
      → AnswerFree n (dispatches h ∷ moves) ws
  idle :
      {n h : ℕ} {moves : List Move} {ws : List ℕ}
      → (dispatch ws h).answer ≡ Idle
      → AnswerFree n moves (dispatch ws h).words
      → AnswerFree n (dispatches h ∷ moves) ws
  begun :
      {n k l op side : ℕ} {argument : Stored} {moves : List Move} {ws : List ℕ}
      → AnswerFree n moves (begin ws k l op side argument).words
      → AnswerFree n (begins k l op side argument ∷ moves) ws

-- With S nodes, T tasks and so many lanes, so many ticks are too many: the first factor counts how often a tick can
-- disturb the other tasks before some call answers, by a task or by a hat that moves, and one more; the second, the
-- ticks that all tasks can make between two of these.
abbrev pub too_many_ticks : (S T lanes : ℕ) → ℕ
too_many_ticks S T lanes = (T * (T + 1) + 2 * lanes + 1) * (T * (6 * S + 153) + 1)

-- From any table that start and our calls can reach, whatever the ticks and begins: of so many ticks made, one ends a
-- call.
abbrev pub LockFree : Type 0
LockFree =
    (ws : List ℕ)
    → Begun ws
    → (n : ℕ) (moves : List Move)
    → AnswerFree n moves ws
    → n < too_many_ticks (node_count ws) (task_count ws) (lane_count ws)

-- 2026-10, 2026-14: and so at every place of a list of events at which a row is known, whatever pending records were
-- copied, also over busy tasks. A copy begins a new stretch, as a start or a snapshot put back does: it is no `Move`.
-- (With copies among the ticks there is no bound: `CopiesPutOff.CopiesPutOff`.)
abbrev pub LockFreeWhereKnown : Type 0
LockFreeWhereKnown =
    Always every_copy (λ ws ρ.
    (n : ℕ) (moves : List Move)
    → AnswerFree n moves ws
    → n < too_many_ticks (node_count ws) (task_count ws) (lane_count ws))

-- ---- The same, as what a schedule of ticks comes to.

-- A tick of a schedule: of which task, with which hint.
pub record Turn : Type 0 where
  pub task : ℕ
  pub hint : ℕ

-- The ticks of a schedule are made one after another, and nothing else is done: one of them ends a call, and those
-- before it answer "going".
pub data SomeAnswers : (turns : List Turn) (ws : List ℕ) → Type 0 where
  answers_now :
      {u : Turn} {turns : List Turn} {ws : List ℕ}
      → ends_call (tick ws u.task u.hint).answer ≡ true
      → SomeAnswers (u ∷ turns) ws
  answers_later :
      {u : Turn} {turns : List Turn} {ws : List ℕ}
      → (tick ws u.task u.hint).answer ≡ Going
      → SomeAnswers turns (tick ws u.task u.hint).words
      → SomeAnswers (u ∷ turns) ws

-- Every tick of a schedule is one of a task that is busy in the table, with a hint below S.
abbrev pub OfBusy : (ws : List ℕ) → List Turn → Type 0
OfBusy ws [] = Unit {0}
OfBusy ws (u ∷ turns) = (is_busy (task ws u.task).operation ≡ true) × (u.hint < node_count ws) × OfBusy ws turns

-- Of so many ticks of busy tasks, in any order and with any hints, one ends a call.
abbrev pub SomeCallAnswers : Type 0
SomeCallAnswers =
    (ws : List ℕ)
    → Begun ws
    → (turns : List Turn)
    → too_many_ticks (node_count ws) (task_count ws) (lane_count ws) ≤ length turns
    → OfBusy ws turns
    → SomeAnswers turns ws
