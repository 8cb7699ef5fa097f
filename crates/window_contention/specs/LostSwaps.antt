-- Request 2026-11: what a lost swap is, by the lines of the figure; and that the steps before and after a tick tell it.
use Rattle.std.specs.Prelude.{◌≡◌, ◌↔◌, true, List, ℕ, suc, ◌+◌, ◌*◌, ◌%◌, ◌^◌, ◌<◌, get_or}
use Rattle.std.proofs.Math.Option.{none}
use Rattle.machine.specs.Outcomes.Answer.{Answer}
use Rattle.machine.specs.Outcomes.Dispatch.{Answered}
use Rattle.machine.specs.Sides.{Side}
use Rattle.machine.specs.Values.{N, X}
use Rattle.machine.specs.Steps.{Step, step_number, line5, line25, line48, line51, line62}
use Rattle.machine.specs.Tasks.{Task, step_word}
use Rattle.machine.specs.Table.{tick_count, dispatched, record_words, task}
use Rattle.machine.specs.Lines.{Memory, seen, act}
use Rattle.machine.specs.Answers.{refusal_of}
use Rattle.machine.specs.Calls.{tick, dispatch, run, panel}
use Rattle.machine.specs.Demand3.{after_ticks}
use Rattle.window.specs.Lost.{is_lost}

-- 02: "A lost swap is a tick at 5, 25, 48, 51 or 62 whose compare did not match." Of a task t on side s, where m is
-- what it sees; 01 writes the right side.
pub data LostSwap (s : Side) (m : Memory) (t : Task) : Step → Type 0 where
  -- 5: swap hat A to B and A.V RN to the argument.
  at_5 : ¬ ((m.hat ≡ t.A) × (m.val t.A ≡ N s)) → LostSwap s m t line5
  -- 25: swap A.R from B to D and A.V RX to RN.
  at_25 : ¬ ((m.out t.A ≡ t.B) × (m.val t.A ≡ X s)) → LostSwap s m t line25
  -- 48: hat equals A and B.V equals value.
  at_48 : ¬ ((m.hat ≡ t.A) × (m.val t.B ≡ t.value)) → LostSwap s m t line48
  -- 51: swap hat A to B and B.V from value to RN.
  at_51 : ¬ ((m.hat ≡ t.A) × (m.val t.B ≡ t.value)) → LostSwap s m t line51
  -- 62: swap A.V RN to RX and B.V RN to RY.
  at_62 : ¬ ((m.val t.A ≡ N s) × (m.val t.B ≡ N s)) → LostSwap s m t line62

-- ---- Of a line: the steps before and after are a lost pair exactly if the tick, which is not refused, is a lost swap.
abbrev pub LostByLine : Type 0
LostByLine =
    (st : Step) (s o : Side) (m : Memory) (t : Task) (g f : ℕ)
    → refusal_of (act st s o m t g f).answer ≡ none
    → (is_lost (step_number st) (step_number (act st s o m t g f).task.step) ≡ true) ↔ LostSwap s m t st

-- ---- Of a table: a tick of task k was made between two tables. What the window is fed of it are words of these.
abbrev pub step_at : List ℕ → (k : ℕ) → ℕ
step_at ws k = step_word (record_words ws k)

-- The tick that task k is to make next is a lost swap.
abbrev pub IsLostSwap : List ℕ → (k : ℕ) → Type 0
IsLostSwap ws k = let t = task ws k in LostSwap t.side (seen t.lane t.side ws) t t.step

-- The words tell it, and the count is the next one.
pub record Told (before after : List ℕ) (k : ℕ) : Type 0 where
  pub lost_told : (is_lost (step_at before k) (step_at after k) ≡ true) ↔ IsLostSwap before k
  pub count_next : tick_count after ≡ (tick_count before + 1) % 2 ^ 32

-- For every table, of every tick that is made:
abbrev pub LostByTick : Type 0
LostByTick =
    (ws : List ℕ) (k h : ℕ)
    → refusal_of (tick ws k h).answer ≡ none
    → Told ws (tick ws k h).words k

-- by a dispatch, of the task that the header then names;
abbrev pub LostByDispatch : Type 0
LostByDispatch =
    (ws : List ℕ) (h : ℕ) (a : Answer)
    → (dispatch ws h).answer ≡ Answered a
    → refusal_of a ≡ none
    → Told ws (dispatch ws h).words (dispatched (dispatch ws h).words)

-- and inside a run and the panel's list, of the task that the list names.
abbrev pub ToldInside : (list ws : List ℕ) → (i : ℕ) → Type 0
ToldInside list ws i = Told (after_ticks i list ws) (after_ticks (suc i) list ws) (get_or list (2 * i) 0)

abbrev pub LostInRun : Type 0
LostInRun = (ws list answers : List ℕ) (i : ℕ) → i < (run ws list answers).ran.made → ToldInside list ws i

abbrev pub LostInPanel : Type 0
LostInPanel = (ws list answers : List ℕ) (i : ℕ) → i < (panel ws list answers).ran.made → ToldInside list ws i
