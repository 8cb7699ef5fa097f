-- What the corollaries of demand 3 speak of: the tables that our calls lead to, the operations finished, the bags.
use Rattle.std.specs.Prelude.{◌≡◌, Bool, cond, ◌&&◌, List, [], ◌∷◌, ℕ, ◌-◌, eqb}
use Rattle.std.proofs.Math.Option.{Option, some, none}
use Rattle.machine.specs.Outcomes.Answer.{Answer, Pushed, Bag}
use Rattle.machine.specs.Outcomes.Reply.{Accepted}
use Rattle.machine.specs.Operations.{Operation, push, pop, operation_number}
use Rattle.machine.specs.Answers.{kind_of, payload_of, is_going}
use Rattle.machine.specs.Calls.{start}
use Rattle.machine.specs.Row.{Note, with_note, next_noted}
use Rattle.machine.specs.Demand3.{Call, given, after}
use Rattle.machine.specs.Kinds.{Tick, of_task, of_next, Did, started, begun, lent_begun, ticked, did}

-- ---- The tables.

-- A table that an accepted start, on any slice, and then any calls lead to.
pub data Begun : List ℕ → Type 0 where
  by_start :
      (S T growth lanes : ℕ) (old : List ℕ)
      → (start old S T growth lanes).reply ≡ Accepted
      → Begun (start old S T growth lanes).words
  by_call : {ws : List ℕ} → Begun ws → (c : Call) → Begun (after c ws)

-- The table as a list of calls leaves it.
unfoldable pub after_all : List Call → List ℕ → List ℕ
after_all [] ws = ws
after_all (c ∷ cs) ws = after_all cs (after c ws)

-- ---- The operations finished since the latest start, by the calls' arguments and answers alone.

-- What was asked of a task, and what it answered.
pub record Finished : Type 0 where
  pub note : Note
  pub answer : Answer

-- Each task's note, or none, how many tasks there are and the one last dispatched, as in the row; and the operations
-- finished, the latest first.
pub record History : Type 0 where
  pub notes : ℕ → Option Note
  pub tasks : ℕ
  pub dispatched : ℕ
  pub finished : List Finished

-- An accepted start: no notes, and nothing is finished.
abbrev pub no_history : (T : ℕ) → History
no_history T = record { notes = λ k. none; tasks = T; dispatched = T - 1; finished = [] }

-- What a note asks of task k is finished with an answer, and the task has no note.
abbrev pub finish : History → ℕ → Option Note → Answer → History
finish η k none a = η
finish η k (some n) a =
    record {
      notes = with_note η.notes k none;
      tasks = η.tasks;
      dispatched = η.dispatched;
      finished = record { note = n; answer = a } ∷ η.finished;
    }

-- A tick of task k that was made, with its answer.
abbrev pub record_made : History → ℕ → Answer → History
record_made η k a = cond (is_going a) η (finish η k (η.notes k) a)

-- A tick of the task whose turn it is.
abbrev pub record_next : History → Option ℕ → Answer → History
record_next η none a = η
record_next η (some k) a =
    let η' = record_made η k a in
    record { notes = η'.notes; tasks = η'.tasks; dispatched = k; finished = η'.finished }

abbrev pub record_tick : History → Tick → History
record_tick η (of_task k a) = record_made η k a
record_tick η (of_next a) = record_next η (next_noted η.notes η.tasks η.dispatched) a

unfoldable pub record_ticks : History → List Tick → History
record_ticks η [] = η
record_ticks η (t ∷ ts) = record_ticks (record_tick η t) ts

-- What a call did.
abbrev pub record_did : History → Did → History
record_did η (started T lanes) = no_history T
record_did η (begun k n) =
    record {
      notes = with_note η.notes k (some n);
      tasks = η.tasks;
      dispatched = η.dispatched;
      finished = η.finished;
    }
record_did η (lent_begun k n words) = η
record_did η (ticked ts) = record_ticks η ts

-- A list of calls, each on the table as the one before left it.
unfoldable pub history : List Call → List ℕ → History → History
history [] ws η = η
history (c ∷ cs) ws η = history cs (after c ws) (record_did η (did c (given c ws)))

-- ---- The bags.

-- A finished operation is this one, on lane l, with an answer of this kind.
abbrev is_of : (l : ℕ) → Operation → Answer → Finished → Bool
is_of l op a f =
    eqb (operation_number f.note.operation) (operation_number op)
    && eqb (kind_of f.answer) (kind_of a)
    && eqb f.note.lane l

-- The bags of the finished pushes on lane l answered "pushed".
unfoldable pub bags_pushed : (l : ℕ) → List Finished → List ℕ
bags_pushed l [] = []
bags_pushed l (f ∷ fs) = cond (is_of l push Pushed f) (f.note.argument ∷ bags_pushed l fs) (bags_pushed l fs)

-- The bags that the finished pops on lane l were answered with.
unfoldable pub bags_popped : (l : ℕ) → List Finished → List ℕ
bags_popped l [] = []
bags_popped l (f ∷ fs) =
    let b = payload_of f.answer in cond (is_of l pop (Bag b) f) (b ∷ bags_popped l fs) (bags_popped l fs)
