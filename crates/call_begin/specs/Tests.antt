-- The tests of a begin after those of its table: of the lane and the task that it names, of its numbers, and of the tag
-- and the task.
use Rattle.std.specs.Prelude.{List, ℕ, ◌&&◌, ◌<◌, ltb, leb}
use Rattle.std.proofs.Math.Option.{Option, none}
use Rattle.machine.specs.declared.Stored.{Stored}
use Rattle.machine.specs.Values.{number}
use Rattle.machine.specs.Operations.{Operation, operation_of, argument_ok}
use Rattle.machine.specs.Table.{task_count, lane_count, task}
use Rattle.machine.specs.Calls.{unless, is_idle, twice_refusal}

-- 02: "26, lane out of range at begin, read or sheet, straight after 4"; 01: 5 after it.
abbrev pub place_refusal : List ℕ → (k l : ℕ) → Option ℕ
place_refusal ws k l = unless (ltb l (lane_count ws)) 26 (unless (ltb k (task_count ws)) 5 none)

pub record Placed (ws : List ℕ) (k l : ℕ) : Type 0 where
  pub is_lane : l < lane_count ws
  pub is_task : k < task_count ws

-- 01: 6 and 7.
abbrev pub asked_refusal : (operation side : ℕ) → (argument : Stored) → Option ℕ
asked_refusal op side argument =
    unless (leb 1 op && leb op 4 && leb side 1) 6 (unless (argument_ok (operation_of op) argument) 7 none)

-- 02: 11 and 16 of a push; 01: 8.
abbrev pub own_refusal : List ℕ → (k : ℕ) → Operation → (argument : Stored) → Option ℕ
own_refusal ws k op argument =
    twice_refusal ws op (number argument) (unless (is_idle (task ws k).operation) 8 none)
