-- Demand 3: one claim about a list of calls on one table, and nothing but the table and the row in it.
use Rattle.std.specs.Prelude.{◌≡◌, Bool, cond, ◌&&◌, List, [], ◌∷◌, ℕ, zero, suc, ◌*◌, ◌≤◌, ◌<◌, leb, ltb, eqb, length, take}
use Rattle.std.proofs.Math.Option.{Option, some, none, bind}
use Rattle.tag.specs.Tags.{all_tag_words}
use Rattle.machine.specs.Outcomes.Answer.{Answer, Going}
use Rattle.machine.specs.Outcomes.Dispatch.{Dispatch, Answered}
use Rattle.machine.specs.Outcomes.Reply.{Reply, Accepted, Refused as Reply-Refused}
use Rattle.machine.specs.Outcomes.Reading.{Reading, Count, Refused as Reading-Refused}
use Rattle.machine.specs.Outcomes.Ran.{Ran}
use Rattle.machine.specs.declared.Stored.{Stored}
use Rattle.machine.specs.Outcomes.ByList.{ByList, Replied, Faulty}
use Rattle.text_page.specs.Page.{page_text}
use Rattle.airline_list.specs.Outcomes.{Sent, To, NotSent}
use Rattle.airline_list.specs.Lists.{verdict, sent}
use Rattle.machine.specs.Sides.{side_number, side_of}
use Rattle.machine.specs.Values.{number}
use Rattle.machine.specs.Operations.{push, operation_number, operation_of, argument_ok}
use Rattle.machine.specs.Tasks.{record_length, words_of}
use Rattle.machine.specs.Shape.{same_words}
use Rattle.machine.specs.Answers.{same_reply, refusal_of, is_going, dispatch_goes_on}
use Rattle.machine.specs.Calls.{
  start,
  begin,
  tick,
  tick_on,
  ticks,
  dispatch,
  dispatches,
  went_on,
  RunDone,
  run,
  panel,
  lane,
  read,
  unless,
  changed,
  begun_task,
}
use Rattle.machine.specs.Sheets.{page_refusal, sheet}
use Rattle.machine.specs.PushByList.{side_at, push_by_list}
use Rattle.machine.specs.Lent.{begin_lent}
use Rattle.machine.specs.Row.{Row, empty_row, new_note, noted, feed_made, feed_dispatch, feed_run}

-- 01: the list holds start, begin, tick, run and reading the lane, with any arguments, and every call on the same table
-- that a request adds: 2026-01's panel, 2026-07's dispatch, 2026-09's sheet, 2026-13's push by list, 2026-14's begin
-- over a lent record; and consecutive ticks and dispatches. Lists, answer slices, out slices and lent records are that
-- call's own: here by their contents when the call is made. A lent record has as many words as a record has.
pub data Call : Type 0 where
  start_call : (S T growth lanes : ℕ) → Call
  begin_call : (k lane operation side : ℕ) (argument : Stored) → Call
  tick_call : (k hint : ℕ) → Call
  ticks_call : (k hint times : ℕ) → Call
  dispatch_call : (hint : ℕ) → Call
  dispatches_call : (hint times : ℕ) → Call
  run_call : (list answers : List ℕ) → Call
  panel_call : (list answers : List ℕ) → Call
  read_call : (lane : ℕ) (out : List ℕ) → Call
  sheet_call : (lane page : ℕ) (out : List ℕ) → Call
  push_by_list_call : (list : List ℕ) (k lane : ℕ) (argument : Stored) → Call
  lent_begin_call :
      (lent : List ℕ) (whole : length lent ≡ record_length) (k lane operation side : ℕ) (argument : Stored) → Call

-- What a call gives back: its answer, with a slice of its own as it leaves it. Of consecutive dispatches also how many
-- went on, which the tick count tells.
abbrev pub Given : Call → Type 0
Given (start_call S T g lanes) = Reply
Given (begin_call k l op side argument) = Reply
Given (tick_call k h) = Answer
Given (ticks_call k h times) = Answer
Given (dispatch_call h) = Dispatch
Given (dispatches_call h times) = Dispatch × ℕ
Given (run_call list answers) = Ran × List ℕ
Given (panel_call list answers) = Ran × List ℕ
Given (read_call l out) = Reading × List ℕ
Given (sheet_call l page out) = Reply × List ℕ
Given (push_by_list_call list k l argument) = ByList
Given (lent_begin_call lent whole k l op side argument) = Reply × List ℕ

abbrev pub given : (c : Call) → List ℕ → Given c
given (start_call S T g lanes) ws = (start ws S T g lanes).reply
given (begin_call k l op side argument) ws = (begin ws k l op side argument).reply
given (tick_call k h) ws = (tick ws k h).answer
given (ticks_call k h times) ws = (ticks times ws k h).answer
given (dispatch_call h) ws = (dispatch ws h).answer
given (dispatches_call h times) ws = ((dispatches times ws h).answer, went_on times ws h)
given (run_call list answers) ws = ((run ws list answers).ran, (run ws list answers).answers)
given (panel_call list answers) ws = ((panel ws list answers).ran, (panel ws list answers).answers)
given (read_call l out) ws = ((read ws l out).reading, (read ws l out).out)
given (sheet_call l page out) ws = ((sheet ws l page out).reply, (sheet ws l page out).words)
given (push_by_list_call list k l argument) ws = (push_by_list list ws k l argument).answer
given (lent_begin_call lent whole k l op side argument) ws =
    ((begin_lent ws lent k l op side argument).reply, (begin_lent ws lent k l op side argument).words)

-- The table as a call leaves it.
abbrev pub after : Call → List ℕ → List ℕ
after (start_call S T g lanes) ws = (start ws S T g lanes).words
after (begin_call k l op side argument) ws = (begin ws k l op side argument).words
after (tick_call k h) ws = (tick ws k h).words
after (ticks_call k h times) ws = (ticks times ws k h).words
after (dispatch_call h) ws = (dispatch ws h).words
after (dispatches_call h times) ws = (dispatches times ws h).words
after (run_call list answers) ws = (run ws list answers).words
after (panel_call list answers) ws = (panel ws list answers).words
after (read_call l out) ws = ws
after (sheet_call l page out) ws = ws
after (push_by_list_call list k l argument) ws = (push_by_list list ws k l argument).words
after (lent_begin_call lent whole k l op side argument) ws = ws

-- ---- The row, fed a call and what it gave back: the row afterwards, or nothing where the row does not give that.
abbrev pub feed_start : Row → (T lanes : ℕ) → Reply → Option Row
feed_start ρ T lanes Accepted = some (empty_row T lanes)
feed_start ρ T lanes (Reply-Refused n) = some ρ

-- The numbers of a begin are a call's: a task, a lane (2026-12), an operation, a side and an argument of it.
abbrev pub is_call : Row → (k lane operation side : ℕ) → (argument : Stored) → Bool
is_call ρ k l op side argument =
    ltb k ρ.tasks
    && ltb l ρ.lanes
    && leb 1 op
    && leb op 4
    && leb side 1
    && argument_ok (operation_of op) argument

-- 01: the task's note is the operation, side and argument. No other numbers are accepted.
abbrev pub feed_begin : Row → (k lane operation side : ℕ) → (argument : Stored) → Reply → Option Row
feed_begin ρ k l op side argument Accepted =
    cond (is_call ρ k l op side argument) (some (noted ρ k (some (new_note l op side argument)))) none
feed_begin ρ k l op side argument (Reply-Refused r) = some ρ

-- 01: a refused tick leaves the note.
unfoldable pub feed_tick : Row → ℕ → Answer → Option Row
feed_tick ρ k a =
    elim (refusal_of a) as (λ _. Option Row) [ some n ↦ some ρ | none ↦ feed_made ρ k a ]

-- Consecutive ticks are fed as the ticks that they are: those before the last went on, and leave the row as it is.
abbrev pub feed_ticks : Row → ℕ → (times : ℕ) → Answer → Option Row
feed_ticks ρ k zero a = cond (is_going a) (some ρ) none
feed_ticks ρ k (suc n) a = feed_tick ρ k a

-- Consecutive dispatches too: those that went on, and then the last, where fewer went on than were asked for.
unfoldable pub feed_dispatches : Row → (times went_on : ℕ) → Dispatch → Option Row
feed_dispatches ρ zero zero d = cond (dispatch_goes_on d) (some ρ) none
feed_dispatches ρ zero (suc m) d = none
feed_dispatches ρ (suc n) zero d = cond (dispatch_goes_on d) none (feed_dispatch ρ d)
feed_dispatches ρ (suc n) (suc m) d = bind (feed_dispatch ρ (Answered Going)) (λ ρ'. feed_dispatches ρ' n m d)

-- 01: reading: the row's count and the row in order, or 12 exactly when the out slice is too short for it; never 3, 4
-- or 11. 02: two words for a tag. 2026-12: of lane l its row, or 26 exactly when there is no such lane.
abbrev pub feed_read : Row → (l : ℕ) → List ℕ → Reading → List ℕ → Option Row
feed_read ρ l out (Count n) written =
    cond
    (ltb l ρ.lanes
    && eqb n (length (ρ.bags l))
    && leb (2 * n) (length out)
    && same_words (take (2 * n) written) (all_tag_words (ρ.bags l)))
    (some ρ) none
feed_read ρ l out (Reading-Refused n) written =
    cond (cond (ltb l ρ.lanes) (eqb n 12 && ltb (length out) (2 * length (ρ.bags l))) (eqb n 26)) (some ρ) none

-- 2026-09: a page of the row, or 26 exactly when there is no such lane, 20 and 21 by the page and the out slice alone;
-- never 3, 4 or 11. A refusal leaves the out slice.
abbrev pub feed_sheet : Row → (l page : ℕ) → List ℕ → Reply → List ℕ → Option Row
feed_sheet ρ l page out r written =
    let wanted = changed (unless (ltb l ρ.lanes) 26 (page_refusal page out)) out (page_text (ρ.bags l) page) in
    cond (same_reply r wanted.reply && same_words written wanted.words) (some ρ) none

-- 2026-13: a list's fault, exactly where it has one; or the begin of a push, at the end to which the list sends the
-- tag.
abbrev pub feed_by_list : Row → Sent → (k lane : ℕ) → (argument : Stored) → ByList → Option Row
feed_by_list ρ (To end) k l argument (Replied r) =
    feed_begin ρ k l (operation_number push) (side_number (side_at end)) argument r
feed_by_list ρ (To end) k l argument (Faulty number line) = none
feed_by_list ρ (NotSent number line) k l argument (Replied r) = none
feed_by_list ρ (NotSent number line) k l argument (Faulty n at) =
    cond (eqb n number && eqb at line) (some ρ) none

-- 2026-14: 02: "a begin not copied leaves the row and its notes as they were". Accepted, the record is the begun one,
-- of numbers that are a call's; refused, it is as it was.
abbrev pub feed_lent : Row → (lent : List ℕ) → (k lane operation side : ℕ) → (argument : Stored) → Reply → List ℕ
    → Option Row
feed_lent ρ lent k l op side argument Accepted written =
    cond
    (is_call ρ k l op side argument
    && same_words written (words_of (begun_task l (operation_of op) (side_of side) (number argument))))
    (some ρ) none
feed_lent ρ lent k l op side argument (Reply-Refused n) written = cond (same_words written lent) (some ρ) none

abbrev pub feed : Row → (c : Call) → Given c → Option Row
feed ρ (start_call S T g lanes) r = feed_start ρ T lanes r
feed ρ (begin_call k l op side argument) r = feed_begin ρ k l op side argument r
feed ρ (tick_call k h) a = feed_tick ρ k a
feed ρ (ticks_call k h times) a = feed_ticks ρ k times a
feed ρ (dispatch_call h) a = feed_dispatch ρ a
feed ρ (dispatches_call h times) r = feed_dispatches ρ times r.1 r.0
feed ρ (run_call list answers) r = feed_run ρ r.0.made list r.1
feed ρ (panel_call list answers) r = feed_run ρ r.0.made list r.1
feed ρ (read_call l out) r = feed_read ρ l out r.0 r.1
feed ρ (sheet_call l page out) r = feed_sheet ρ l page out r.0 r.1
feed ρ (push_by_list_call list k l argument) r = feed_by_list ρ (sent (verdict list) (number argument)) k l argument r
feed ρ (lent_begin_call lent whole k l op side argument) r = feed_lent ρ lent k l op side argument r.0 r.1

-- ---- The claim.

-- The lane in the table is the row; since 2026-12 each lane its own.
abbrev pub LanesAre : List ℕ → Row → Type 0
LanesAre ws ρ = (l : ℕ) → l < ρ.lanes → lane ws l ≡ some (ρ.bags l)

-- The table after the first i ticks of a list of pairs.
unfoldable pub after_ticks : (i : ℕ) → (list ws : List ℕ) → List ℕ
after_ticks zero list ws = ws
after_ticks (suc i) [] ws = ws
after_ticks (suc i) (k ∷ []) ws = ws
after_ticks (suc i) (k ∷ h ∷ list) ws = after_ticks i list (tick_on ws k h).words

-- After every tick made of a list, each lane is its row, fed the words so far that were written for it.
abbrev pub WithinList : (list ws : List ℕ) → Row → RunDone → Type 0
WithinList list ws ρ r =
    (i : ℕ)
    → i ≤ r.ran.made
    → (ρᵢ : Row) × (feed_run ρ i list r.answers ≡ some ρᵢ) × LanesAre (after_ticks i list ws) ρᵢ

-- The same of consecutive ticks, of which the first i are consecutive ticks.
abbrev pub WithinTicks : (k hint times : ℕ) → List ℕ → Row → Type 0
WithinTicks k h times ws ρ =
    (i : ℕ)
    → i ≤ times
    → (ρᵢ : Row) × (feed_ticks ρ k i (ticks i ws k h).answer ≡ some ρᵢ) × LanesAre (ticks i ws k h).words ρᵢ

-- And of consecutive dispatches.
abbrev pub WithinDispatches : (hint times : ℕ) → List ℕ → Row → Type 0
WithinDispatches h times ws ρ =
    (i : ℕ)
    → i ≤ times
    → (ρᵢ : Row)
    × (feed_dispatches ρ i (went_on i ws h) (dispatches i ws h).answer ≡ some ρᵢ)
    × LanesAre (dispatches i ws h).words ρᵢ

-- The same, inside a call.
abbrev pub Within : (c : Call) → List ℕ → Row → Type 0
Within (run_call list answers) ws ρ = WithinList list ws ρ (run ws list answers)
Within (panel_call list answers) ws ρ = WithinList list ws ρ (panel ws list answers)
Within (ticks_call k h times) ws ρ = WithinTicks k h times ws ρ
Within (dispatches_call h times) ws ρ = WithinDispatches h times ws ρ
Within (start_call S T g lanes) ws ρ = Unit {0}
Within (begin_call k l op side argument) ws ρ = Unit {0}
Within (tick_call k h) ws ρ = Unit {0}
Within (dispatch_call h) ws ρ = Unit {0}
Within (read_call l out) ws ρ = Unit {0}
Within (sheet_call l page out) ws ρ = Unit {0}
Within (push_by_list_call list k l argument) ws ρ = Unit {0}
Within (lent_begin_call lent whole k l op side argument) ws ρ = Unit {0}

-- The row explains a list of calls, each on the table as the one before left it.
abbrev pub Explained : List Call → List ℕ → Row → Type 0
Explained [] ws ρ = LanesAre ws ρ
Explained (c ∷ cs) ws ρ =
    LanesAre ws ρ
    × Within c ws ρ
    × ((ρ' : Row) × (feed ρ c (given c ws) ≡ some ρ') × Explained cs (after c ws) ρ')

-- 01: the first call gets the table as an accepted start left it.
abbrev pub Demand3 : Type 0
Demand3 =
    (S T growth lanes : ℕ) (old : List ℕ)
    → (start old S T growth lanes).reply ≡ Accepted
    → (calls : List Call)
    → Explained calls (start old S T growth lanes).words (empty_row T lanes)
