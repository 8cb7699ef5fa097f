-- What a machine is: what its starts and reads do, what its ticks do, alone and consecutive, what its runs report,
-- which lists its panel takes, what its begin refuses, what its dispatches do, alone and consecutive. The calls over
-- any machine, and the right one.
use Rattle.std.specs.Prelude.{true, false, List, [], ◌∷◌, ℕ, zero, suc, drop}
use Rattle.std.proofs.Math.Option.{Option, some, none}
use Rattle.machine.specs.Outcomes.Answer.{Going, Refused}
use Rattle.machine.specs.Outcomes.Dispatch.{Idle, Answered}
use Rattle.machine.specs.declared.Stored.{Stored}
use Rattle.machine.specs.Sides.{Side, opposite, side_of}
use Rattle.machine.specs.Values.{number}
use Rattle.machine.specs.Operations.{operation_of}
use Rattle.machine.specs.Steps.{Step}
use Rattle.machine.specs.Tasks.{Task, goal}
use Rattle.machine.specs.Table.{growth, task, set_dispatched, set_task}
use Rattle.machine.specs.Allocate.{allocate}
use Rattle.machine.specs.Lines.{Memory, Effect, seen, act}
use Rattle.machine.specs.Answers.{answer_length, refusal_of, is_going, dispatch_goes_on}
use Rattle.machine.specs.Calls.{
  table_refusal,
  begin_refusal,
  tick_refusal,
  dispatch_refusal,
  run_refusal,
  panel_refusal,
  Ticked,
  applied,
  next_busy,
  Dispatched,
  RunDone,
  stopped,
  after_tick,
  Changed,
  changed,
  start,
  begun_task,
  ReadDone,
  read,
}
use Rattle.machine.specs.Demand3.{
  Call,
  start_call,
  begin_call,
  tick_call,
  ticks_call,
  dispatch_call,
  dispatches_call,
  run_call,
  panel_call,
  read_call,
  Given,
}

-- The calls that a machine may make its own way.
pub data Act : Type 0 where
  start_act : (S T growth lanes : ℕ) → Act
  begin_act : (k lane operation side : ℕ) (argument : Stored) → Act
  tick_act : (k hint : ℕ) → Act
  ticks_act : (k hint times : ℕ) → Act
  dispatch_act : (hint : ℕ) → Act
  dispatches_act : (hint times : ℕ) → Act
  run_act : (list answers : List ℕ) → Act
  panel_act : (list answers : List ℕ) → Act
  read_act : (lane : ℕ) (out : List ℕ) → Act

abbrev pub call_of : Act → Call
call_of (start_act S T g lanes) = start_call S T g lanes
call_of (begin_act k l op side argument) = begin_call k l op side argument
call_of (tick_act k h) = tick_call k h
call_of (ticks_act k h times) = ticks_call k h times
call_of (dispatch_act h) = dispatch_call h
call_of (dispatches_act h times) = dispatches_call h times
call_of (run_act list answers) = run_call list answers
call_of (panel_act list answers) = panel_call list answers
call_of (read_act l out) = read_call l out

abbrev pub Ticks : Type 0
Ticks = List ℕ → (k hint : ℕ) → Ticked

-- One dispatch.
abbrev pub Turns : Type 0
Turns = List ℕ → (hint : ℕ) → Dispatched

-- What consecutive dispatches come to: the last of them, and how many went on.
pub record DispatchedMany : Type 0 where
  pub last : Dispatched
  pub went_on : ℕ

-- Consecutive ticks and dispatches are made of the machine's own ticks, consecutive dispatches of its own dispatches.
pub record Machine : Type 0 where
  pub starts : List ℕ → (S T growth lanes : ℕ) → Changed
  pub reads : List ℕ → (lane : ℕ) → (out : List ℕ) → ReadDone
  pub tick_on : Ticks
  pub consecutive_ticks : Ticks → (times : ℕ) → Ticks
  pub reports : RunDone → RunDone
  pub panel_refuses : (ws list answers : List ℕ) → Option ℕ
  pub panel_takes : (list : List ℕ) → List ℕ
  pub begin_refuses : List ℕ → (k lane operation side : ℕ) → (argument : Stored) → Option ℕ
  pub dispatches : Ticks → Turns
  pub consecutive_dispatches : Turns → (times : ℕ) → List ℕ → (hint : ℕ) → DispatchedMany

-- ---- Consecutive ticks, as in Calls.
unfoldable pub consecutive : Ticks → (times : ℕ) → Ticks
consecutive tick zero ws k h = record { answer = Going; words = ws }
consecutive tick (suc n) ws k h =
    let one = tick ws k h in
    elim (is_going one.answer) as (λ _. Ticked) [ true ↦ consecutive tick n one.words k h | false ↦ one ]

-- ---- Dispatches by the task that they choose.
unfoldable pub dispatch_to_by : Ticks → List ℕ → (k hint : ℕ) → Dispatched
dispatch_to_by tick_on ws k h =
    let one = tick_on ws k h in
    elim (refusal_of one.answer) as (λ _. Dispatched) [
      | some n ↦ record { answer = Answered one.answer; words = ws }
      | none ↦ record { answer = Answered one.answer; words = set_dispatched k one.words }
    ]

unfoldable pub dispatch_choosing : (List ℕ → Option ℕ) → Ticks → List ℕ → (hint : ℕ) → Dispatched
dispatch_choosing choice tick_on ws h =
    elim (dispatch_refusal ws h) as (λ _. Dispatched) [
      | some n ↦ record { answer = Answered (Refused n); words = ws }
      | none ↦
          elim (choice ws) as (λ _. Dispatched) [
            | some k ↦ dispatch_to_by tick_on ws k h
            | none ↦ record { answer = Idle; words = ws }
          ]
    ]

-- ---- Consecutive dispatches, as in Calls.
unfoldable pub consecutive_turns : Turns → (times : ℕ) → List ℕ → (hint : ℕ) → DispatchedMany
consecutive_turns turn zero ws h = record { last = record { answer = Answered Going; words = ws }; went_on = 0 }
consecutive_turns turn (suc n) ws h =
    let one = turn ws h in
    let others = consecutive_turns turn n one.words h in
    elim (dispatch_goes_on one.answer) as (λ _. DispatchedMany) [
      | true ↦ record { last = others.last; went_on = suc others.went_on }
      | false ↦ record { last = one; went_on = 0 }
    ]

-- A machine that is wrong in its ticks alone.
abbrev pub by_ticks : Ticks → Machine
by_ticks tick_on =
    record {
      starts = start;
      reads = read;
      tick_on = tick_on;
      consecutive_ticks = consecutive;
      reports = λ r. r;
      panel_refuses = panel_refusal;
      panel_takes = λ list. list;
      begin_refuses = begin_refusal;
      dispatches = dispatch_choosing next_busy;
      consecutive_dispatches = consecutive_turns;
    }

-- ---- A machine by what a line does and which node a take gives.
abbrev pub Line : Type 0
Line = Step → (s o : Side) → Memory → Task → (g f : ℕ) → Effect

abbrev pub Take : Type 0
Take = List ℕ → (hint : ℕ) → ℕ

unfoldable pub tick_on_by : Line → Take → List ℕ → (k hint : ℕ) → Ticked
tick_on_by line take ws k h =
    elim (tick_refusal ws k h) as (λ _. Ticked) [
      | some n ↦ record { answer = Refused n; words = ws }
      | none ↦
          let t = task ws k in
          applied t.lane t.side ws k
          (line t.step t.side (opposite t.side) (seen t.lane t.side ws) t
          (goal (growth ws) t) (take ws h))
    ]

abbrev pub by_lines : Line → Take → Machine
by_lines line take = by_ticks (tick_on_by line take)

-- The machine of the definitions: proofs/Right.antt shows that its calls are those of machine/specs/Calls.
abbrev pub right_machine : Machine
right_machine = by_lines act allocate

-- ---- The calls over a machine, as in Calls.
unfoldable pub begin_by : Machine → List ℕ → (k lane operation side : ℕ) → (argument : Stored) → Changed
begin_by M ws k l op side argument =
    changed (M.begin_refuses ws k l op side argument) ws
    (set_task k (begun_task l (operation_of op) (side_of side) (number argument)) ws)

unfoldable pub tick_by : Machine → List ℕ → (k hint : ℕ) → Ticked
tick_by M ws k h =
    elim (table_refusal ws none) as (λ _. Ticked) [
      | some n ↦ record { answer = Refused n; words = ws }
      | none ↦ M.tick_on ws k h
    ]

unfoldable pub ticks_by : Machine → (times : ℕ) → List ℕ → (k hint : ℕ) → Ticked
ticks_by M times ws k h = M.consecutive_ticks (tick_by M) times ws k h

unfoldable pub dispatch_by : Machine → List ℕ → (hint : ℕ) → Dispatched
dispatch_by M ws h = M.dispatches M.tick_on ws h

unfoldable pub dispatches_by : Machine → (times : ℕ) → List ℕ → (hint : ℕ) → DispatchedMany
dispatches_by M times ws h = M.consecutive_dispatches (dispatch_by M) times ws h

unfoldable pub run_on_by : Machine → (list : List ℕ) (ws answers : List ℕ) → RunDone
run_on_by M [] ws answers = stopped 0 ws answers
run_on_by M (k ∷ []) ws answers = stopped 0 ws answers
run_on_by M (k ∷ h ∷ list) ws answers =
    let one = M.tick_on ws k h in
    elim (refusal_of one.answer) as (λ _. RunDone) [
      | some n ↦ stopped n ws answers
      | none ↦ after_tick one.answer (run_on_by M list one.words (drop answer_length answers))
    ]

abbrev pub tested_by : Machine → Option ℕ → (ws list answers : List ℕ) → RunDone
tested_by M (some n) ws list answers = stopped n ws answers
tested_by M none ws list answers = M.reports (run_on_by M list ws answers)

unfoldable pub run_by : Machine → List ℕ → (list answers : List ℕ) → RunDone
run_by M ws list answers = tested_by M (run_refusal ws list answers) ws list answers

unfoldable pub panel_by : Machine → List ℕ → (list answers : List ℕ) → RunDone
panel_by M ws list answers = tested_by M (M.panel_refuses ws list answers) ws (M.panel_takes list) answers

-- What a call gives back, and the table as it leaves it.
abbrev pub given_by : Machine → (a : Act) → List ℕ → Given (call_of a)
given_by M (start_act S T g lanes) ws = (M.starts ws S T g lanes).reply
given_by M (begin_act k l op side argument) ws = (begin_by M ws k l op side argument).reply
given_by M (tick_act k h) ws = (tick_by M ws k h).answer
given_by M (ticks_act k h times) ws = (ticks_by M times ws k h).answer
given_by M (dispatch_act h) ws = (dispatch_by M ws h).answer
given_by M (dispatches_act h times) ws =
    let done = dispatches_by M times ws h in (done.last.answer, done.went_on)
given_by M (run_act list answers) ws = ((run_by M ws list answers).ran, (run_by M ws list answers).answers)
given_by M (panel_act list answers) ws = ((panel_by M ws list answers).ran, (panel_by M ws list answers).answers)
given_by M (read_act l out) ws = ((M.reads ws l out).reading, (M.reads ws l out).out)

abbrev pub after_by : Machine → Act → List ℕ → List ℕ
after_by M (start_act S T g lanes) ws = (M.starts ws S T g lanes).words
after_by M (begin_act k l op side argument) ws = (begin_by M ws k l op side argument).words
after_by M (tick_act k h) ws = (tick_by M ws k h).words
after_by M (ticks_act k h times) ws = (ticks_by M times ws k h).words
after_by M (dispatch_act h) ws = (dispatch_by M ws h).words
after_by M (dispatches_act h times) ws = (dispatches_by M times ws h).last.words
after_by M (run_act list answers) ws = (run_by M ws list answers).words
after_by M (panel_act list answers) ws = (panel_by M ws list answers).words
after_by M (read_act l out) ws = ws

-- The tables that a list of pairs leads through: before each of its ticks, and after the last.
unfoldable pub tables_by : Machine → (list ws : List ℕ) → List (List ℕ)
tables_by M [] ws = ws ∷ []
tables_by M (k ∷ []) ws = ws ∷ []
tables_by M (k ∷ h ∷ list) ws = ws ∷ tables_by M list (M.tick_on ws k h).words
