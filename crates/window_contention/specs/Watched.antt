-- Request 2026-11: a window that is fed after each tick counts the lost swaps.
use Rattle.std.specs.Prelude.{◌≡◌, List, [], ◌∷◌, ℕ, suc, ◌*◌, ◌≤◌, ◌<◌, get_or, take}
use Rattle.std.proofs.Math.Option.{none}
use Rattle.machine.specs.Outcomes.Answer.{Answer}
use Rattle.machine.specs.Outcomes.Dispatch.{Answered}
use Rattle.machine.specs.Table.{tick_count, dispatched}
use Rattle.machine.specs.Answers.{refusal_of}
use Rattle.machine.specs.Calls.{tick, dispatch, run, panel}
use Rattle.machine.specs.Demand3.{after_ticks}
use Rattle.window.specs.Window.{lost, fresh_words}
use Rattle.window.specs.History.{Feed, fed_to}
use Rattle.window_contention.specs.LostSwaps.{step_at, IsLostSwap}

-- A tick that was made: the tables before and after, and the task.
pub record Tick : Type 0 where
  pub before : List ℕ
  pub after : List ℕ
  pub task : ℕ

abbrev tick_of : (before after : List ℕ) → (k : ℕ) → Tick
tick_of before after k = record { before = before; after = after; task = k }

-- The ways to make one, on any table.
pub data IsMade : Tick → Type 0 where
  by_tick :
      (ws : List ℕ) (k h : ℕ)
      → refusal_of (tick ws k h).answer ≡ none
      → IsMade (tick_of ws (tick ws k h).words k)
  by_dispatch :
      (ws : List ℕ) (h : ℕ) (a : Answer)
      → (dispatch ws h).answer ≡ Answered a
      → refusal_of a ≡ none
      → IsMade (tick_of ws (dispatch ws h).words (dispatched (dispatch ws h).words))
  in-run :
      (ws list answers : List ℕ) (i : ℕ)
      → i < (run ws list answers).ran.made
      → IsMade (tick_of (after_ticks i list ws) (after_ticks (suc i) list ws) (get_or list (2 * i) 0))
  in_panel :
      (ws list answers : List ℕ) (i : ℕ)
      → i < (panel ws list answers).ran.made
      → IsMade (tick_of (after_ticks i list ws) (after_ticks (suc i) list ws) (get_or list (2 * i) 0))

-- Ticks one after another, the newest first, with none left out: each finds the tick count that the one before it left.
-- Between two of them calls may be made that make no tick.
pub data Consecutive : List Tick → Type 0 where
  no_tick : Consecutive []
  first : {x : Tick} → IsMade x → Consecutive (x ∷ [])
  later :
      {x y : Tick} {l : List Tick}
      → IsMade x
      → tick_count x.before ≡ tick_count y.after
      → Consecutive (y ∷ l)
      → Consecutive (x ∷ y ∷ l)

-- How many of them are lost swaps.
pub data LostCount : List Tick → ℕ → Type 0 where
  none_lost : LostCount [] 0
  one_lost :
      {x : Tick} {l : List Tick} {n : ℕ}
      → IsLostSwap x.before x.task
      → LostCount l n
      → LostCount (x ∷ l) (suc n)
  not_lost :
      {x : Tick} {l : List Tick} {n : ℕ}
      → ¬ IsLostSwap x.before x.task
      → LostCount l n
      → LostCount (x ∷ l) n

-- 02: "fed each tick's count from the header and the task's step before and after".
abbrev pub feed_of : Tick → Feed
feed_of x =
    record {
      count = tick_count x.after;
      before = step_at x.before x.task;
      after = step_at x.after x.task;
    }

-- A fresh window, fed after each tick.
unfoldable pub watched : (W : ℕ) → List Tick → List ℕ
watched W [] = fresh_words W
watched W (x ∷ l) = (fed_to (watched W l) (feed_of x)).words

-- It refuses nothing, and answers how many of the last W ticks were lost swaps.
abbrev pub CountsLostSwaps : Type 0
CountsLostSwaps =
    (W : ℕ) → 1 ≤ W → W ≤ 4_096
    → (x : Tick) (l : List Tick) → Consecutive (x ∷ l)
    → (n : ℕ) × ((fed_to (watched W l) (feed_of x)).answer ≡ lost n) × LostCount (take W (x ∷ l)) n
