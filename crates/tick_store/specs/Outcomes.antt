-- What a line's outcome comes to in the words of the table.
use Rattle.std.specs.Prelude.{◌≡◌, ℕ, Bool, true, List, Result, Ok, Err}
use Rattle.std.proofs.lemmas.List.Edits.{sets}
use Rattle.machine.specs.declared.refusal.Refusal.{Refusal}
use Rattle.machine.specs.Sides.{Side}
use Rattle.machine.specs.Table.{node_count, record_at, record_words, set_hat}
use Rattle.machine.specs.Calls.{Ticked, tick_counted}
use Rattle.machine.specs.Results.{ticked_of}
use Rattle.table_record.specs.declared.Task as Tasks
use Rattle.table_record.specs.Coded.{struct_of, record_of, SameCall}
use Rattle.line_parts.specs.declared.ends.Done.{Done}

-- A task that goes on has the call of its record in the table.
abbrev pub GoesOn : List ℕ → (k : ℕ) → (going : Bool) → (next : Tasks.Task) → Type 0
GoesOn ws k going t = going ≡ true → SameCall (struct_of (record_words ws k)) t

-- A record in its place.
abbrev pub recorded : List ℕ → (k : ℕ) → Tasks.Task → List ℕ
recorded ws k t = sets ws (record_at (node_count ws) k) (record_of t)

-- The words with a lane's hat, a record and one tick more in them.
abbrev pub stored : List ℕ → (lane : ℕ) → Side → (hat k : ℕ) → Tasks.Task → List ℕ
stored ws l s h k t = tick_counted (recorded (set_hat l s h ws) k t)

-- What a line comes to: a refusal leaves the words, and a tick that is made is stored.
abbrev pub finished : List ℕ → (lane : ℕ) → Side → (k : ℕ) → Result Done Refusal → Ticked
finished ws l s k (Err e) = ticked_of (Err e) ws
finished ws l s k (Ok d) = ticked_of (Ok d.answer) (stored ws l s d.hat k d.task)
