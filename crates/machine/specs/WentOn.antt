-- Consecutive dispatches: how many went on is told by the tick count.
use Rattle.std.specs.Prelude.{◌≡◌, cond, List, ℕ, ◌+◌, ◌-◌, ◌%◌, ◌^◌, ◌<◌}
use Rattle.std.proofs.Math.Option.{none}
use Rattle.machine.specs.Outcomes.Dispatch.{Dispatch, Idle, Answered}
use Rattle.machine.specs.Table.{tick_count}
use Rattle.machine.specs.Answers.{ends_call}
use Rattle.machine.specs.Calls.{table_refusal, dispatches, went_on}

-- One where the last dispatch was a tick that ended a call.
abbrev pub ended_one : Dispatch → ℕ
ended_one Idle = 0
ended_one (Answered a) = cond (ends_call a) 1 0

-- A caller takes the tick count before the call from the one after it, by wrapping subtract: these are the ticks made.
-- With the answer they tell how many went on, which is what the row is fed. Every word is below 2^32.
abbrev pub CountTells : Type 0
CountTells =
    (ws : List ℕ)
    → table_refusal ws none ≡ none
    → tick_count ws < 2 ^ 32
    → (hint times : ℕ)
    → times < 2 ^ 32
    → let done = dispatches times ws hint in
    went_on times ws hint + ended_one done.answer
    ≡ (tick_count done.words + (2 ^ 32 - tick_count ws)) % 2 ^ 32
