-- Request 2026-08: a call that gets all the ticks answers, within a bound by the number of nodes.
use Rattle.std.specs.Prelude.{◌≡◌, true, List, [], ◌∷◌, ℕ, suc, ◌+◌, ◌*◌, ◌<◌}
use Rattle.std.proofs.Math.Option.{some}
use Rattle.machine.specs.Outcomes.Answer.{Answer, Going}
use Rattle.machine.specs.Outcomes.Dispatch.{Answered}
use Rattle.machine.specs.Answers.{ends_call}
use Rattle.machine.specs.Table.{node_count, task}
use Rattle.machine.specs.Calls.{is_busy, tick, next_busy, dispatch}
use Rattle.machine.specs.Demand3.{Call, after}
use Rattle.machine.specs.Begun.{Begun}
use Rattle.machine.specs.Events.{Always, every_copy}

-- What is done while a task alone gets ticks: a tick of it, a dispatch, or a call that leaves every word, as reads and
-- refused calls do. (A run of ticks is the ticks, and consecutive dispatches are dispatches.)
pub data AloneMove : Type 0 where
  own_tick : (hint : ℕ) → AloneMove
  dispatch-to : (hint : ℕ) → AloneMove
  other_call : (c : Call) → AloneMove

-- The ticks that the task gets, a dispatch being one.
abbrev pub own_ticks : List AloneMove → ℕ
own_ticks [] = 0
own_ticks (own_tick h ∷ moves) = suc (own_ticks moves)
own_ticks (dispatch-to h ∷ moves) = suc (own_ticks moves)
own_ticks (other_call c ∷ moves) = own_ticks moves

-- So long as it says "going", task k alone gets ticks: every dispatch reaches it, and other calls leave the words. The
-- hints may be anything below S.
abbrev pub Alone : (k : ℕ) → List AloneMove → List ℕ → Type 0
Alone k [] ws = Unit {0}
Alone k (own_tick h ∷ moves) ws =
    (h < node_count ws) × ((tick ws k h).answer ≡ Going → Alone k moves (tick ws k h).words)
Alone k (dispatch-to h ∷ moves) ws =
    (h < node_count ws)
    × (next_busy ws ≡ some k)
    × ((dispatch ws h).answer ≡ Answered Going → Alone k moves (dispatch ws h).words)
Alone k (other_call c ∷ moves) ws = (after c ws ≡ ws) × Alone k moves ws

-- One of the task's ticks ends its call, and those before it answer "going".
pub data AnswersAlone (k : ℕ) : List AloneMove → (ws : List ℕ) → Type 0 where
  answers_now :
      {h : ℕ} {moves : List AloneMove} {ws : List ℕ}
      → ends_call (tick ws k h).answer ≡ true
      → AnswersAlone k (own_tick h ∷ moves) ws
  answers_later :
      {h : ℕ} {moves : List AloneMove} {ws : List ℕ}
      → (tick ws k h).answer ≡ Going
      → AnswersAlone k moves (tick ws k h).words
      → AnswersAlone k (own_tick h ∷ moves) ws
  dispatch-answers :
      {h : ℕ} {moves : List AloneMove} {ws : List ℕ} (a : Answer)
      → (dispatch ws h).answer ≡ Answered a
      → ends_call a ≡ true
      → AnswersAlone k (dispatch-to h ∷ moves) ws
  dispatch-goes-on :
      {h : ℕ} {moves : List AloneMove} {ws : List ℕ}
      → (dispatch ws h).answer ≡ Answered Going
      → AnswersAlone k moves (dispatch ws h).words
      → AnswersAlone k (dispatch-to h ∷ moves) ws
  words_left :
      {moves : List AloneMove} {ws : List ℕ} (c : Call)
      → AnswersAlone k moves (after c ws)
      → AnswersAlone k (other_call c ∷ moves) ws

-- From any table that start and our calls can reach, with every other task given no tick, no start made and no new call
-- begun, a busy task answers within so many of its own ticks, by the number of nodes.
abbrev pub AnswersWithinAt : (bound : ℕ → ℕ) → List ℕ → Type 0
AnswersWithinAt bound ws =
    (k : ℕ)
    → is_busy (task ws k).operation ≡ true
    → (moves : List AloneMove)
    → own_ticks moves ≡ bound (node_count ws)
    → Alone k moves ws
    → AnswersAlone k moves ws

abbrev pub AnswersWithin : (bound : ℕ → ℕ) → Type 0
AnswersWithin bound = (ws : List ℕ) → Begun ws → AnswersWithinAt bound ws

-- 2026-08: within 8S + 400 of its own ticks.
abbrev pub SoloBound : Type 0
SoloBound = AnswersWithin (λ S. 8 * S + 400)

-- 2026-10, 2026-14: and so at every place of a list of events at which a row is known, whatever pending records were
-- copied, also over busy tasks. The ticks are counted with no snapshot put back and no record copied between them:
-- `AnswersAlone` has none.
abbrev pub SoloBoundWhereKnown : Type 0
SoloBoundWhereKnown = Always every_copy (λ ws ρ. AnswersWithinAt (λ S. 8 * S + 400) ws)

-- Within 4S + 154: a remove takes four ticks for each node that it cuts off, a push or an add two for each node on its
-- way, twice; 154 covers a growth of 64 and a round with registers that were read before the others stopped.
abbrev pub CloserSoloBound : Type 0
CloserSoloBound = AnswersWithin (λ S. 4 * S + 154)

-- ---- Ticks alone.

-- Every hint of a list is below S.
abbrev pub HintsBelow : (S : ℕ) → List ℕ → Type 0
HintsBelow S [] = Unit {0}
HintsBelow S (h ∷ hints) = (h < S) × HintsBelow S hints
