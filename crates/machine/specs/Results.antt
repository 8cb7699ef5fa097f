-- What a call in code gives back, with the lent words that it leaves, as one of the definitions' results.
use Rattle.std.specs.Prelude.{List, ℕ, Result, Ok, Err, Option, Some, None}
use Rattle.std.proofs.Math.Option.{Option as Maybe, some, none}
use Rattle.machine.specs.declared.refusal.Refusal.{Refusal}
use Rattle.machine.specs.declared.refusal.Refusal.TheVariants.{Sizes, Length, Table, Shape, Task, Operation, Argument, Busy, Hint, Idle, NoSlot, Out, List as List-refusal, Answers, Panel, Twice, Page, PageOut, Snapshot, Lanes, Lane}
use Rattle.machine.specs.declared.answer.Answer.{Answer as Made}
use Rattle.machine.specs.declared.answer.Answer.TheVariants as made
use Rattle.machine.specs.declared.answer.Ran.{Ran as Run-in-code}
use Rattle.machine.specs.Outcomes.Answer.{Answer, Going, Pushed, Bag, Empty, Full, Yes, No, Refused}
use Rattle.machine.specs.Outcomes.Dispatch.{Dispatch, Idle as No-task, Answered}
use Rattle.machine.specs.Outcomes.Reply.{Reply, Accepted, Refused as Reply-Refused}
use Rattle.machine.specs.Outcomes.Reading.{Reading, Count, Refused as Reading-Refused}
use Rattle.machine.specs.Outcomes.Ran.{Ran}
use Rattle.machine.specs.Calls.{Changed, Ticked, Dispatched, RunDone, ReadDone}

-- ---- The numbers of the refusals, as the papers list them.
abbrev pub refusal_number : Refusal → ℕ
refusal_number Sizes = 1
refusal_number Length = 2
refusal_number Table = 3
refusal_number Shape = 4
refusal_number Task = 5
refusal_number Operation = 6
refusal_number Argument = 7
refusal_number Busy = 8
refusal_number Hint = 9
refusal_number Idle = 10
refusal_number NoSlot = 11
refusal_number Out = 12
refusal_number List-refusal = 13
refusal_number Answers = 14
refusal_number Panel = 15
refusal_number Twice = 16
refusal_number Page = 20
refusal_number PageOut = 21
refusal_number Snapshot = 22
refusal_number Lanes = 25
refusal_number Lane = 26

-- The number of the refusal that a test gives, if it gives one.
abbrev pub refusal_in : {T : Type 0} → Result T Refusal → Maybe ℕ
refusal_in (Ok x) = none
refusal_in (Err r) = some (refusal_number r)

-- ---- Answers.

-- What a tick that is made answers.
abbrev pub said : Made → Answer
said made.Going = Going
said made.Pushed = Pushed
said (made.Bag b) = Bag b
said made.Empty = Empty
said made.Full = Full
said made.Yes = Yes
said made.No = No

abbrev pub answered : Result Made Refusal → Answer
answered (Ok a) = said a
answered (Err r) = Refused (refusal_number r)

abbrev pub replied : {T : Type 0} → Result T Refusal → Reply
replied (Ok x) = Accepted
replied (Err r) = Reply-Refused (refusal_number r)

-- ---- With the lent words.

-- Of start and begin: the table afterwards.
abbrev pub changed_of : {T : Type 0} → Result T Refusal → List ℕ → Changed
changed_of r ws = record { reply = replied r; words = ws }

-- Of a tick: the table afterwards.
abbrev pub ticked_of : Result Made Refusal → List ℕ → Ticked
ticked_of r ws = record { answer = answered r; words = ws }

-- Of a dispatch: the table afterwards. None is "idle".
abbrev pub dispatch_in : Result (Option Made) Refusal → Dispatch
dispatch_in (Ok None) = No-task
dispatch_in (Ok (Some a)) = Answered (said a)
dispatch_in (Err r) = Answered (Refused (refusal_number r))

abbrev pub dispatched_of : Result (Option Made) Refusal → List ℕ → Dispatched
dispatched_of r ws = record { answer = dispatch_in r; words = ws }

-- Of a run: the table and the answer slice afterwards.
abbrev pub stop_number : Option Refusal → ℕ
stop_number None = 0
stop_number (Some r) = refusal_number r

abbrev pub ran_in : Run-in-code → Ran
ran_in r = record { made = r.made; refusal = stop_number r.refusal }

abbrev pub run_done_of : Run-in-code → (ws answers : List ℕ) → RunDone
run_done_of r ws answers = record { ran = ran_in r; words = ws; answers = answers }

-- Of a read: its out slice afterwards.
abbrev pub reading_in : Result ℕ Refusal → Reading
reading_in (Ok n) = Count n
reading_in (Err r) = Reading-Refused (refusal_number r)

abbrev pub read_of : Result ℕ Refusal → (out : List ℕ) → ReadDone
read_of r out = record { reading = reading_in r; out = out }
