-- The calls by kind: what each asks for, by its arguments, and what it did, by its arguments and answers. What is said
-- of every call is said by these.
use Rattle.std.specs.Prelude.{List, [], ◌∷◌, ℕ, zero, suc}
use Rattle.std.proofs.Math.Option.{some, none}
use Rattle.machine.specs.Outcomes.Answer.{Answer, Going}
use Rattle.machine.specs.Outcomes.Dispatch.{Dispatch, Idle, Answered}
use Rattle.machine.specs.Outcomes.Reply.{Reply, Accepted, Refused as Reply-Refused}
use Rattle.machine.specs.declared.Stored.{Stored}
use Rattle.machine.specs.Outcomes.ByList.{ByList, Replied, Faulty}
use Rattle.airline_list.specs.Outcomes.{Sent, To, NotSent}
use Rattle.airline_list.specs.Lists.{verdict, sent}
use Rattle.machine.specs.Sides.{side_number}
use Rattle.machine.specs.Values.{number}
use Rattle.machine.specs.Operations.{push, operation_number}
use Rattle.machine.specs.Answers.{refusal_of, answer_of}
use Rattle.machine.specs.Calls.{times}
use Rattle.machine.specs.PushByList.{side_at}
use Rattle.machine.specs.Row.{Note, new_note}
use Rattle.machine.specs.Demand3.{
  Call,
  start_call,
  begin_call,
  tick_call,
  ticks_call,
  dispatch_call,
  dispatches_call,
  run_call,
  panel_call,
  read_call,
  sheet_call,
  push_by_list_call,
  lent_begin_call,
  Given,
}

-- ---- What a call asks for.

-- A fresh table; a call begun; the ticks of a list of (task, hint) pairs; consecutive dispatches; only a look.
pub data Asked : Type 0 where
  a_start : (S T growth lanes : ℕ) → Asked
  a_begin : (k lane operation side : ℕ) (argument : Stored) → Asked
  ticks-of : (list : List ℕ) → Asked
  dispatches_with : (hint times : ℕ) → Asked
  a_look : Asked

-- A push by list asks for its begin, or for nothing where the list is faulty.
abbrev pub sent_asks : Sent → (k lane : ℕ) (argument : Stored) → Asked
sent_asks (To end) k l argument = a_begin k l (operation_number push) (side_number (side_at end)) argument
sent_asks (NotSent n line) k l argument = a_look

abbrev pub asked : Call → Asked
asked (start_call S T g lanes) = a_start S T g lanes
asked (begin_call k l op side argument) = a_begin k l op side argument
asked (tick_call k h) = ticks-of (k ∷ h ∷ [])
asked (ticks_call k h n) = ticks-of (times n (k ∷ h ∷ []))
asked (dispatch_call h) = dispatches_with h 1
asked (dispatches_call h n) = dispatches_with h n
asked (run_call list answers) = ticks-of list
asked (panel_call list answers) = ticks-of list
asked (read_call l out) = a_look
asked (sheet_call l page out) = a_look
asked (push_by_list_call list k l argument) = sent_asks (sent (verdict list) (number argument)) k l argument
asked (lent_begin_call lent whole k l op side argument) = a_look

-- ---- What a call did.

-- A tick that was made, with its answer: of task k, or of the task whose turn it was.
pub data Tick : Type 0 where
  of_task : (k : ℕ) → Answer → Tick
  of_next : Answer → Tick

-- It made a fresh table; it gave task k a call; it left a lent record begun, for task k, with these words; or it made
-- ticks: none where it was refused or only looked.
pub data Did : Type 0 where
  started : (T lanes : ℕ) → Did
  begun : (k : ℕ) → Note → Did
  lent_begun : (k : ℕ) → Note → (words : List ℕ) → Did
  ticked : List Tick → Did

abbrev pub start_did : (T lanes : ℕ) → Reply → Did
start_did T lanes Accepted = started T lanes
start_did T lanes (Reply-Refused n) = ticked []

abbrev pub begin_did : (k : ℕ) → Note → Reply → Did
begin_did k n Accepted = begun k n
begin_did k n (Reply-Refused r) = ticked []

abbrev pub lent_did : (k : ℕ) → Note → Reply → (words : List ℕ) → Did
lent_did k n Accepted words = lent_begun k n words
lent_did k n (Reply-Refused r) words = ticked []

abbrev pub tick_did : (k : ℕ) → Answer → List Tick
tick_did k a = elim (refusal_of a) as (λ _. List Tick) [ some n ↦ [] | none ↦ of_task k a ∷ [] ]

-- Of consecutive ticks the last: those before it went on, which ends no call.
abbrev pub ticks_did : (k times : ℕ) → Answer → List Tick
ticks_did k zero a = []
ticks_did k (suc n) a = tick_did k a

abbrev pub dispatch_did : Dispatch → List Tick
dispatch_did Idle = []
dispatch_did (Answered a) =
    elim (refusal_of a) as (λ _. List Tick) [ some n ↦ [] | none ↦ of_next a ∷ [] ]

-- Those that went on, and the last where one did not.
unfoldable pub dispatches_did : (times went_on : ℕ) → Dispatch → List Tick
dispatches_did zero m d = []
dispatches_did (suc n) zero d = dispatch_did d
dispatches_did (suc n) (suc m) d = of_next Going ∷ dispatches_did n m d

-- The ticks that a run made, by its pairs and the words that it wrote.
unfoldable pub run_did : (made : ℕ) → (list answers : List ℕ) → List Tick
run_did zero list answers = []
run_did (suc n) [] answers = []
run_did (suc n) (k ∷ []) answers = []
run_did (suc n) (k ∷ h ∷ list) [] = []
run_did (suc n) (k ∷ h ∷ list) (kind ∷ []) = []
run_did (suc n) (k ∷ h ∷ list) (kind ∷ digit ∷ []) = []
run_did (suc n) (k ∷ h ∷ list) (kind ∷ digit ∷ low ∷ answers) =
    elim (answer_of kind digit low) as (λ _. List Tick) [
      | some a ↦ of_task k a ∷ run_did n list answers
      | none ↦ []
    ]

abbrev pub by_list_did : Sent → (k lane : ℕ) (argument : Stored) → ByList → Did
by_list_did (To end) k l argument (Replied r) =
    begin_did k (new_note l (operation_number push) (side_number (side_at end)) argument) r
by_list_did (To end) k l argument (Faulty n line) = ticked []
by_list_did (NotSent n line) k l argument r = ticked []

abbrev pub did : (c : Call) → Given c → Did
did (start_call S T g lanes) r = start_did T lanes r
did (begin_call k l op side argument) r = begin_did k (new_note l op side argument) r
did (tick_call k h) a = ticked (tick_did k a)
did (ticks_call k h n) a = ticked (ticks_did k n a)
did (dispatch_call h) d = ticked (dispatch_did d)
did (dispatches_call h n) r = ticked (dispatches_did n r.1 r.0)
did (run_call list answers) r = ticked (run_did r.0.made list r.1)
did (panel_call list answers) r = ticked (run_did r.0.made list r.1)
did (read_call l out) r = ticked []
did (sheet_call l page out) r = ticked []
did (push_by_list_call list k l argument) r = by_list_did (sent (verdict list) (number argument)) k l argument r
did (lent_begin_call lent whole k l op side argument) r = lent_did k (new_note l op side argument) r.0 r.1
