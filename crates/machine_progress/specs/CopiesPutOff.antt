-- 2026-14: with copies among the ticks lock-freedom has no bound: a panel that begins its push anew before every tick
-- of it is never answered.
use Rattle.std.specs.Prelude.{◌≡◌, refl, List, [], ◌∷◌, ◌++◌, ℕ, zero, suc, replicate}
use Rattle.std.proofs.Math.Option.{some}
use Rattle.machine.specs.Outcomes.Answer.{Going}
use Rattle.machine.specs.Sides.{right, side_number}
use Rattle.machine.specs.Values.{stored}
use Rattle.machine.specs.Operations.{push, operation_number}
use Rattle.machine.specs.Tasks.{fresh, words_of}
use Rattle.machine.specs.Calls.{begun_task}
use Rattle.machine.specs.Row.{Row}
use Rattle.machine.specs.Demand3.{start_call, tick_call, lent_begin_call, given}
use Rattle.machine.specs.Kinds.{Tick, of_task, Did, started, begun, lent_begun, ticked, did}
use Rattle.machine.specs.Events.{
  Event,
  call_event,
  take_event,
  put_event,
  copy_event,
  write_event,
  after_event,
  Known,
  nothing_known,
  every_copy,
  known_after,
}

-- The ticks made by a list of events, each on the table as the one before left it, with their answers.
abbrev pub ticks_of : Did → List Tick
ticks_of (started T lanes) = []
ticks_of (begun k n) = []
ticks_of (lent_begun k n words) = []
ticks_of (ticked ts) = ts

abbrev event_ticks : Event → List ℕ → List Tick
event_ticks (call_event c) ws = ticks_of (did c (given c ws))
event_ticks (take_event out) ws = []
event_ticks (put_event ss) ws = []
event_ticks (copy_event k words) ws = []
event_ticks (write_event words) ws = []

unfoldable pub ticks_made : List Event → List ℕ → List Tick
ticks_made [] ws = []
ticks_made (e ∷ es) ws = event_ticks e ws ++ ticks_made es (after_event e ws)

-- A round: the panel begins a push of the tag 51 over an idle record of its own, copies it to task 0's place and gives
-- the task one tick.
unfoldable pub rounds : ℕ → List Event
rounds zero = []
rounds (suc n) =
    call_event (lent_begin_call (words_of fresh) refl 0 0 (operation_number push) (side_number right) (stored 51))
    ∷ copy_event 0 (words_of (begun_task 0 push right 51))
    ∷ call_event (tick_call 0 0)
    ∷ rounds n

-- A start with S 2, T 1 and one lane, on words that are all 0, and so many rounds.
abbrev pub old : List ℕ
old = replicate 37 0

abbrev pub putting_off : ℕ → List Event
putting_off n = call_event (start_call 2 1 0 1) ∷ rounds n

-- Along the events every answer is one that the row gives, and a row is known at the end; n ticks are made, and all of
-- them say "going".
pub record PutOff (n : ℕ) (es : List Event) (ws : List ℕ) (κ : Known) : Type 0 where
  pub known_then : Known
  pub row : Row
  pub explained : known_after every_copy es ws κ ≡ some known_then
  pub still_known : known_then.row ≡ some row
  pub all_going : ticks_made es ws ≡ replicate n (of_task 0 Going)

-- So it is for every number of rounds.
abbrev pub CopiesPutOff : Type 0
CopiesPutOff = (n : ℕ) → PutOff n (putting_off n) old nothing_known
