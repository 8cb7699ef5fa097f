-- How a list of calls judges a machine: by the row (demand 3), and by the definitions (demand 2).
use Rattle.std.specs.Prelude.{Bool, true, false, cond, ◌&&◌, List, [], ◌∷◌, ℕ, zero, suc, eqb, get_or}
use Rattle.std.proofs.Math.Option.{Option, some, none}
use Rattle.machine.specs.Outcomes.Answer.{Answer}
use Rattle.machine.specs.Outcomes.Dispatch.{Dispatch, Idle, Answered}
use Rattle.machine.specs.Outcomes.Ran.{Ran}
use Rattle.machine.specs.Outcomes.Reading.{Reading, Count, Refused as Reading-Refused}
use Rattle.machine.specs.Shape.{all_below, same_words}
use Rattle.machine.specs.Answers.{reply_number, kind_of, payload_of, dispatch_kind_of, dispatch_payload_of, is_going}
use Rattle.machine.specs.Allocate.{Marking}
use Rattle.machine.specs.Calls.{RunDone, lane}
use Rattle.machine.specs.Row.{Row, feed_run}
use Rattle.machine.specs.Demand3.{Given, given, after, feed_ticks, feed_dispatches, feed}
use Rattle.machine_refuted.specs.Machines.{
  Act,
  start_act,
  begin_act,
  tick_act,
  ticks_act,
  dispatch_act,
  dispatches_act,
  run_act,
  panel_act,
  read_act,
  call_of,
  Machine,
  ticks_by,
  dispatch_by,
  dispatches_by,
  run_by,
  panel_by,
  given_by,
  after_by,
  tables_by,
}

-- A call is named by its number in the list, from 1.
pub data Verdict : Type 0 where
  passes : Verdict
  not_the_row's_answer : (call : ℕ) → Verdict
  lane_is_not_the_row : (call : ℕ) → Verdict
  other_answer : (call : ℕ) → Verdict
  other_table : (call : ℕ) → Verdict

-- A call as a machine made it: the table before, what it gave back, and the table as it left it.
pub record Made : Type 0 where
  pub act : Act
  pub before : List ℕ
  pub gave : Given (call_of act)
  pub left : List ℕ

-- Calls that a machine makes one after another. Both judges read one such list, so that its ticks are computed once.
unfoldable pub made_by : Machine → List Act → List ℕ → List Made
made_by M [] ws = []
made_by M (c ∷ cs) ws =
    record { act = c; before = ws; gave = given_by M c ws; left = after_by M c ws } ∷ made_by M cs (after_by M c ws)

-- ---- Demand 3, as Demand3.Explained says it.
abbrev pub same_bags : Option (List ℕ) → List ℕ → Bool
same_bags none row = false
same_bags (some bags) row = same_words bags row

-- Each lane is its row.
abbrev pub same_lanes : List ℕ → Option Row → Bool
same_lanes ws none = false
same_lanes ws (some ρ) = all_below ρ.lanes (λ l. same_bags (lane ws l) (ρ.bags l))

abbrev pub same_within_list : Machine → (list ws : List ℕ) → Row → RunDone → Bool
same_within_list M list ws ρ r =
    let tables = tables_by M list ws in
    all_below (suc r.ran.made) (λ i. same_lanes (get_or tables i []) (feed_run ρ i list r.answers))

abbrev pub same_within_ticks : Machine → (k hint times : ℕ) → List ℕ → Row → Bool
same_within_ticks M k h times ws ρ =
    all_below (suc times) (λ i.
    let r = ticks_by M i ws k h in same_lanes r.words (feed_ticks ρ k i r.answer))

abbrev pub same_within_dispatches : Machine → (hint times : ℕ) → List ℕ → Row → Bool
same_within_dispatches M h times ws ρ =
    all_below (suc times) (λ i.
    let r = dispatches_by M i ws h in
    same_lanes r.last.words (feed_dispatches ρ i r.went_on r.last.answer))

abbrev pub same_within : Machine → (a : Act) → List ℕ → Row → Bool
same_within M (run_act list answers) ws ρ = same_within_list M list ws ρ (run_by M ws list answers)
same_within M (panel_act list answers) ws ρ = same_within_list M list ws ρ (panel_by M ws list answers)
same_within M (ticks_act k h times) ws ρ = same_within_ticks M k h times ws ρ
same_within M (dispatches_act h times) ws ρ = same_within_dispatches M h times ws ρ
same_within M (start_act S T g lanes) ws ρ = true
same_within M (begin_act k l op side argument) ws ρ = true
same_within M (tick_act k h) ws ρ = true
same_within M (dispatch_act h) ws ρ = true
same_within M (read_act l out) ws ρ = true

unfoldable pub by_row : Machine → List Made → (number : ℕ) → Row → Verdict
by_row M [] n ρ = passes
by_row M (m ∷ ms) n ρ =
    elim (feed ρ (call_of m.act) m.gave) as (λ _. Verdict) [
      | none ↦ not_the_row's_answer n
      | some ρ' ↦
          elim (same_within M m.act m.before ρ && same_lanes m.left (some ρ')) as (λ _. Verdict) [
            | true ↦ by_row M ms (suc n) ρ'
            | false ↦ lane_is_not_the_row n
          ]
    ]

-- ---- Demand 2: each call gives and leaves what the definitions' call does on the same table.
abbrev pub same_answer : Answer → Answer → Bool
same_answer a b = eqb (kind_of a) (kind_of b) && eqb (payload_of a) (payload_of b)

abbrev pub same_dispatch : Dispatch → Dispatch → Bool
same_dispatch d e =
    eqb (dispatch_kind_of d) (dispatch_kind_of e) && eqb (dispatch_payload_of d) (dispatch_payload_of e)

abbrev pub same_ran : Ran → Ran → Bool
same_ran r q = eqb r.made q.made && eqb r.refusal q.refusal

abbrev pub same_reading : Reading → Reading → Bool
same_reading (Count n) (Count m) = eqb n m
same_reading (Count n) (Reading-Refused m) = false
same_reading (Reading-Refused n) (Count m) = false
same_reading (Reading-Refused n) (Reading-Refused m) = eqb n m

abbrev pub same_given : (a : Act) → Given (call_of a) → Given (call_of a) → Bool
same_given (start_act S T g lanes) r q = eqb (reply_number r) (reply_number q)
same_given (begin_act k l op side argument) r q = eqb (reply_number r) (reply_number q)
same_given (tick_act k h) r q = same_answer r q
same_given (ticks_act k h times) r q = same_answer r q
same_given (dispatch_act h) r q = same_dispatch r q
same_given (dispatches_act h times) r q = same_dispatch r.0 q.0 && eqb r.1 q.1
same_given (run_act list answers) r q = same_ran r.0 q.0 && same_words r.1 q.1
same_given (panel_act list answers) r q = same_ran r.0 q.0 && same_words r.1 q.1
same_given (read_act l out) r q = same_reading r.0 q.0 && same_words r.1 q.1

unfoldable pub by_definitions : List Made → (number : ℕ) → Verdict
by_definitions [] n = passes
by_definitions (m ∷ ms) n =
    elim (same_given m.act m.gave (given (call_of m.act) m.before)) as (λ _. Verdict) [
      | false ↦ other_answer n
      | true ↦
          elim (same_words m.left (after (call_of m.act) m.before)) as (λ _. Verdict) [
            | true ↦ by_definitions ms (suc n)
            | false ↦ other_table n
          ]
    ]

-- ---- Beyond the two demands.

-- The table after calls, whatever they give back.
unfoldable pub after_all_by : Machine → List Act → List ℕ → List ℕ
after_all_by M [] ws = ws
after_all_by M (c ∷ cs) ws = after_all_by M cs (after_by M c ws)

-- How many of at most n ticks of a task alone, with hint 0, say "going" before one does not.
unfoldable pub going_alone : Machine → (n k : ℕ) → List ℕ → ℕ
going_alone M zero k ws = 0
going_alone M (suc n) k ws =
    let one = M.tick_on ws k 0 in
    elim (is_going one.answer) as (λ _. ℕ) [ true ↦ suc (going_alone M n k one.words) | false ↦ 0 ]

-- How many of at most n dispatches, with hint 0, are not "idle" before one is.
unfoldable pub dispatches_to_idle : Machine → (n : ℕ) → List ℕ → ℕ
dispatches_to_idle M zero ws = 0
dispatches_to_idle M (suc n) ws =
    let one = dispatch_by M ws 0 in
    elim one.answer as (λ _. ℕ) [ Idle ↦ 0 | Answered a ↦ suc (dispatches_to_idle M n one.words) ]

-- How many of the first n nodes are free.
unfoldable pub free_below : (n : ℕ) → Marking → ℕ
free_below zero m = 0
free_below (suc n) m = cond (eqb (get_or m.marks n 0) 0) (suc (free_below n m)) (free_below n m)
