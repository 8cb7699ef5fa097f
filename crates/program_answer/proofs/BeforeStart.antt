-- Before a start: the forms on a table of no words, computed.
use mathlib.Core.Path.{◌≡◌, refl}
use mathlib.Core.List.{[]}
use Prim.Native.Nat.{ℕ, suc}
use Rattle.machine.specs.Calls.{begin, tick, ticks}
use Rattle.program_print.specs.Lines.{refused_text}
use Rattle.program_answer.specs.Forms.{begin_command, tick_command, lane_command}
use Rattle.program_answer.specs.Space.{answered_of}

-- 01: before an accepted start the others give 3.
pub begin-first :
    (k op side digit low : ℕ) → begin_command [] k op side digit low ≡ answered_of (refused_text 3) []
unfolding begin_command begin
begin-first k op side digit low = refl

pub tick-first : (n k h : ℕ) → tick_command (suc n) [] k h ≡ answered_of (refused_text 3) []
unfolding tick_command ticks tick
tick-first n k h = refl

pub lane_first : lane_command [] ≡ answered_of (refused_text 3) []
unfolding lane_command
lane_first = refl
