-- Corollaries of demand 3: refusals that are never met, nodes that are never taken, bags counted.
use mathlib.Core.Path.{◌≡◌, refl, sym, ap, ◌∙◌, subst}
use mathlib.Core.Logic.{◌≢◌}
use mathlib.Core.Bool.{Bool, true, false, not, ◌&&◌, ◌||◌}
use mathlib.Core.List.{List, [], ◌∷◌, ◌++◌}
use mathlib.Core.Option.{Option, some, none}
use Prim.Native.Nat.{ℕ, ◌+◌, ◌*◌, ◌/◌, ◌%◌, ◌≤◌, ◌<◌}
use native.Mathlib.Omega.{arith}
use lib.Dec.{leb, ltb, eqb}
use lib.ListN.{length, drop}
use Rattle.tag.specs.Tags.{all_tag_words}
use borrow.Author.Tests.{le-leb, lt-leb, lt-ltb}
use Rattle.machine.specs.Outcomes.Answer.{Refused}
use Rattle.machine.specs.Outcomes.Dispatch.{Answered}
use Rattle.machine.specs.Outcomes.Reply.{Accepted, Refused as Reply-Refused}
use Rattle.machine.specs.Outcomes.Reading.{Count}
use Rattle.machine.specs.declared.Stored.{Stored}
use Rattle.machine.specs.Counts.{count}
use Rattle.machine.specs.Sides.{side_of}
use Rattle.machine.specs.Values.{number}
use Rattle.machine.specs.Operations.{Operation, idle, push, pop, add, remove, operation_of, argument_ok}
use Rattle.machine.specs.Tasks.{no_node, Register, register}
use Rattle.machine.specs.Registers.{holds}
use Rattle.machine.specs.Table.{node_count, task_count, lane_count, task, set_task}
use Rattle.machine.specs.Shape.{length_ok, shape_ok, sizes_of, Sized}
use Rattle.machine.specs.Reach.{Reachable, from_register}
use Rattle.machine.specs.Allocate.{allocate}
use Rattle.machine.specs.Answers.{answer_length, refusal_of, dispatch_refusal_of}
use Rattle.machine.specs.Calls.{
  unless,
  is_idle,
  is_busy,
  table_refusal,
  is_among,
  is_begun,
  twice_refusal,
  begin_refusal,
  tick_refusal,
  list_refusal,
  room_refusal,
  run_refusal,
  panel_refusal,
  changed,
  start,
  begun_task,
  begin,
  Ticked,
  tick_on,
  tick,
  ticks,
  Dispatched,
  dispatch,
  dispatches,
  RunDone,
  stopped,
  after_tick,
  run_on,
  tested,
  run,
  panel,
  lane,
  unread,
  read_into,
  read,
}
use Rattle.machine.specs.Row.{Row, empty_row}
use Rattle.machine.specs.Demand3.{Call, tick_call, dispatch_call, given, LanesAre, after_ticks}
use Rattle.machine.specs.Kinds.{did}
use Rattle.machine.specs.FirstFree.{TakesFirstFree}
use Rattle.machine.specs.Twice.{all_bags}
use Rattle.machine.specs.Begun.{
  Begun,
  by_start,
  by_call,
  after_all,
  History,
  no_history,
  history,
  bags_pushed,
  bags_popped,
}
use Rattle.machine.proofs.Basics.Contradiction.{clash, refute}
use Rattle.machine.proofs.Shape.ShapeLaws.{well_sized}
use Rattle.machine.proofs.Shape.DispatchCases.{by_dispatch}
use Rattle.machine.proofs.Shape.ShapeKept.{is-accepted, table-passes, tick-passes as accepted-tick-passes}
use Rattle.machine.proofs.SlotRule.Reached.{node-not-none, reachable-node}
use Rattle.machine.proofs.SlotRule.FirstFree.{allocate-first-free, allocate-none}
use Rattle.machine.proofs.Words.TickLaws.{tick-stopped}
use Rattle.machine.proofs.Words.RunLaws.{by-last-tick}
use Rattle.machine.proofs.Words.DispatchLaws.{by-last-dispatch}
use Rattle.machine.proofs.Words.Kinds.{kept-in-list}
use Rattle.machine.proofs.Linearizability.Calls.Agreement.{Agrees, lanes-are-rows, all-lanes-are-rows}
use Rattle.machine.proofs.Linearizability.Calls.MadeTicks.{well-linked, made-tick}
use Rattle.machine.proofs.Linearizability.Calls.CallsAgree.{tick-explained}
use Rattle.machine.proofs.Linearizability.Calls.EveryCall.{call-told, call-explained}
use Rattle.machine.proofs.Linearizability.Theorem.{started-agrees}
use Rattle.machine.proofs.Linearizability.Histories.{Balanced, Recorded, nothing-recorded, did-recorded}

-- A table that our calls lead to agrees with a row.
pub begun-agrees : {ws : List ℕ} → Begun ws → (ρ : Row) × Agrees ws ρ
begun-agrees (by_start S T g L old accepted) = (empty_row T L, started-agrees S T g L old accepted)
begun-agrees (by_call B c) =
    let E = call-explained (begun-agrees B).1 c in
    (E.row, E.agrees)

-- ---- Refusals that are never met.

-- Every call but start is refused by its own tests alone.
pub no-call-refused-with-3-or-4 : {ws : List ℕ} → Begun ws → (others : Option ℕ) → table_refusal ws others ≡ others
no-call-refused-with-3-or-4 {ws} B = table-passes ws (begun-agrees B).1.accepted

-- A test with another number than 11.
other-number : (passed : Bool) {n : ℕ} {others : Option ℕ} → n ≢ 11 → others ≢ some 11
    → unless passed n others ≢ some 11
other-number true other later = later
other-number false {n} other later = λ e. let same : n ≡ 11 = cc in other same

not-refused : ◌≢◌ {A = Option ℕ} none (some 11)
not-refused e = refute (cc)

module _ {ws : List ℕ} {ρ : Row} (A : Agrees ws ρ) (k h : ℕ) where
  pub tick-passes : tick ws k h ≡ tick_on ws k h
  tick-passes = accepted-tick-passes ws A.accepted k h

  pub tick-agrees : (ρ' : Row) × Agrees (tick_on ws k h).words ρ'
  tick-agrees =
      let E = tick-explained A k h in
      (E.row, subst (λ (r : Ticked). Agrees r.words E.row) tick-passes E.agrees)

  pub ticked-sized : Sized (sizes_of (tick_on ws k h).words)
  ticked-sized = (well_sized (tick_on ws k h).words tick-agrees.1.accepted.length_passes).sized

  -- The tests before the line have other numbers, and the line meets no none.
  tick-not-11 : refusal_of (tick_on ws k h).answer ≢ some 11
  unfolding tick_on
  tick-not-11 = go (tick_refusal ws k h) refl
    where
      tests : tick_refusal ws k h ≢ some 11
      tests =
          other-number (ltb k (task_count ws)) (λ e. omega arith)
          (other-number (ltb h (node_count ws)) (λ e. omega arith)
          (other-number (is_busy (task ws k).operation) (λ e. omega arith) not-refused))

      go : (r : Option ℕ) → tick_refusal ws k h ≡ r → refusal_of (tick_on ws k h).answer ≢ some 11
      go (some n) e = rw (e, tick_on) (λ q. tests (e ∙ q))
      go none e = λ q. refute (cc (made-tick A k h e).no_number)

pub no-tick-refused-with-11 : {ws : List ℕ} → Begun ws → (k h : ℕ) → (tick ws k h).answer ≢ Refused 11
no-tick-refused-with-11 B k h e =
    let A = (begun-agrees B).1 in
    tick-not-11 A k h (ap (λ (r : Ticked). refusal_of r.answer) (sym (tick-passes A k h)) ∙ ap refusal_of e)

-- Nor consecutive ticks, of which the last is a tick on such a table.
pub no-ticks-refused-with-11 : {ws : List ℕ} → Begun ws → (n k h : ℕ) → (ticks n ws k h).answer ≢ Refused 11
no-ticks-refused-with-11 {ws} B n k h =
    by-last-tick Begun k h (λ vs X. by_call X (tick_call k h)) (λ (r : Ticked). r.answer ≢ Refused 11)
    (λ vs X e. refute (cc)) (λ vs X. no-tick-refused-with-11 X k h) n ws B

-- 2026-07: nor a dispatch, which is a tick.
no-dispatch-refused-with-11 : {ws : List ℕ} → Begun ws → (h : ℕ) → (dispatch ws h).answer ≢ Answered (Refused 11)
no-dispatch-refused-with-11 {ws} B h =
    let A = (begun-agrees B).1 in
    by_dispatch ws A.accepted h (λ (r : Dispatched). r.answer ≢ Answered (Refused 11)) (λ e. refute (cc))
    (λ _ e. refute (cc)) (λ k n _ _. of-tick A k) (λ k _ _ _. of-tick A k)
  where
    of-tick : {ρ : Row} → Agrees ws ρ → (k : ℕ) → Answered (tick_on ws k h).answer ≢ Answered (Refused 11)
    of-tick A k e = tick-not-11 A k h (ap dispatch_refusal_of e)

-- Nor consecutive dispatches, of which the last is one on such a table.
pub no-dispatches-refused-with-11 : {ws : List ℕ} → Begun ws → (n h : ℕ)
    → (dispatches n ws h).answer ≢ Answered (Refused 11)
no-dispatches-refused-with-11 {ws} B n h =
    by-last-dispatch Begun h (λ vs X. by_call X (dispatch_call h))
    (λ (r : Dispatched). r.answer ≢ Answered (Refused 11)) (λ vs X e. refute (cc))
    (λ vs X. no-dispatch-refused-with-11 X h) n ws B

-- 2026-03: nor a begin, which walks the lanes.
module _ {ws : List ℕ} (B : Begun ws) (k l op side : ℕ) (argument : Stored) where
  twice-not-11 : (o : Operation) (others : Option ℕ) → others ≢ some 11
      → twice_refusal ws o (number argument) others ≢ some 11
  twice-not-11 push others later =
      let n = number argument in
      let bags = all_bags (begun-agrees B).0 in
      rw (all-lanes-are-rows (begun-agrees B).1)
      (other-number (not (is_among n bags || is_begun ws (task_count ws) n)) {n = 16} (λ e. omega arith) later)
  twice-not-11 idle others later = later
  twice-not-11 pop others later = later
  twice-not-11 add others later = later
  twice-not-11 remove others later = later

  pub no-begin-refused-with-11 : (begin ws k l op side argument).reply ≢ Reply-Refused 11
  unfolding begin
  no-begin-refused-with-11 = go (begin_refusal ws k l op side argument) tests
    where
      tests : begin_refusal ws k l op side argument ≢ some 11
      tests =
          other-number (length_ok ws) (λ e. omega arith)
          (other-number (shape_ok ws) (λ e. omega arith)
          (other-number (ltb l (lane_count ws)) (λ e. omega arith)
          (other-number (ltb k (task_count ws)) (λ e. omega arith)
          (other-number (leb 1 op && leb op 4 && leb side 1) (λ e. omega arith)
          (other-number (argument_ok (operation_of op) argument) (λ e. omega arith)
          (twice-not-11 (operation_of op) _
          (other-number (is_idle (task ws k).operation) (λ e. omega arith) not-refused)))))))

      go : (r : Option ℕ) → r ≢ some 11
          → (changed r ws (set_task k (begun_task l (operation_of op) (side_of side) (number argument)) ws)).reply
          ≢ Reply-Refused 11
      go (some n) f = λ e. let same : n ≡ 11 = cc in f (ap some same)
      go none f = λ e. refute (cc)

-- A list is refused by its own tests, or by the tick at which it stops.
ticks-not-11 : (list : List ℕ) {ws : List ℕ} {ρ : Row} (answers : List ℕ) → Agrees ws ρ
    → (run_on list ws answers).ran.refusal ≢ 11
unfolding run_on
ticks-not-11 [] answers A = λ e. omega arith
ticks-not-11 (k ∷ []) answers A = λ e. omega arith
ticks-not-11 (k ∷ h ∷ list) {ws} answers A =
    go (refusal_of (tick_on ws k h).answer) (tick-not-11 A k h)
    (ticks-not-11 list (drop answer_length answers) (tick-agrees A k h).1)
  where
    others : RunDone
    others = run_on list (tick_on ws k h).words (drop answer_length answers)

    go :
        (r : Option ℕ)
        → r ≢ some 11
        → others.ran.refusal ≢ 11
        → (elim r as (λ _. RunDone) [
          | some n ↦ stopped n ws answers
          | none ↦ after_tick (tick_on ws k h).answer others
        ]).ran.refusal
        ≢ 11
    go (some n) f later = λ e. f (ap some e)
    go none f later = later

module _ {ws : List ℕ} (B : Begun ws) (list answers : List ℕ) where
  tested-not-11 : (r : Option ℕ) → r ≢ some 11 → (tested r ws list answers).ran.refusal ≢ 11
  tested-not-11 (some n) f = λ e. f (ap some e)
  tested-not-11 none f = ticks-not-11 list answers (begun-agrees B).1

  -- The tests before and after 15.
  list-not-11 : (others : Option ℕ) → others ≢ some 11 → list_refusal ws list others ≢ some 11
  list-not-11 others later =
      other-number (length_ok ws) (λ e. omega arith)
      (other-number (shape_ok ws) (λ e. omega arith)
      (other-number (eqb (length list % 2) 0 && leb (length list) 8192) (λ e. omega arith) later))

  room-not-11 : room_refusal list answers ≢ some 11
  room-not-11 =
      other-number (leb (answer_length * (length list / 2)) (length answers)) (λ e. omega arith) not-refused

  pub no-run-refused-with-11 : (run ws list answers).ran.refusal ≢ 11
  unfolding run
  no-run-refused-with-11 = tested-not-11 (run_refusal ws list answers) (list-not-11 _ room-not-11)

  pub no-panel-refused-with-11 : (panel ws list answers).ran.refusal ≢ 11
  unfolding panel
  no-panel-refused-with-11 =
      tested-not-11 (panel_refusal ws list answers)
      (list-not-11 _ (other-number (leb (length list) 64) (λ e. omega arith) room-not-11))

-- A tick that is not refused has passed its tests.
pub made-passes : {ws : List ℕ} → Begun ws → (k h : ℕ) → refusal_of (tick ws k h).answer ≡ none
    → tick_refusal ws k h ≡ none
made-passes {ws} B k h made = go (tick_refusal ws k h) refl
  where
    go : (r : Option ℕ) → tick_refusal ws k h ≡ r → tick_refusal ws k h ≡ none
    go none e = e
    go (some n) e =
        let is-stopped = tick-passes (begun-agrees B).1 k h ∙ tick-stopped ws k h e in
        let has-number = ap (λ (r : Ticked). refusal_of r.answer) is-stopped in
        clash (cc)

-- Every table inside a run is one that our calls lead to, so what is said of those is said of it.
pub begun-ticked : {ws : List ℕ} → Begun ws → (k h : ℕ) → Begun (tick_on ws k h).words
begun-ticked B k h =
    subst (λ (r : Ticked). Begun r.words) (tick-passes (begun-agrees B).1 k h) (by_call B (tick_call k h))

pub begun-inside-runs : (i : ℕ) (list : List ℕ) {ws : List ℕ} → Begun ws → Begun (after_ticks i list ws)
begun-inside-runs i list {ws} B = kept-in-list Begun (λ vs X k h. begun-ticked X k h) i list ws B

-- ---- Nodes that are never taken.

-- 01: "take" means the first free slot from the hint upward, going round; in every accepted table.
pub takes-first-free : TakesFirstFree
takes-first-free ws passes hint low =
    let W = well-linked (is-accepted ws passes) in
    (allocate-first-free W low, allocate-none W low)

-- A take never gives a node that a hat or a task's register holds, or that is reached from there.
pub held-node-never-taken : {ws : List ℕ} {hint x : ℕ} → Begun ws → hint < node_count ws → Reachable ws x
    → allocate ws hint ≢ x
held-node-never-taken {ws} {hint} B low held e =
    let W = well-linked (begun-agrees B).1.accepted in
    let found : allocate ws hint ≢ no_node = λ q. node-not-none W.few (reachable-node W held) (sym e ∙ q) in
    (allocate-first-free W low found).free.unreached (subst (Reachable ws) (sym e) held)

pub register-never-taken : {ws : List ℕ} {hint : ℕ} → Begun ws → hint < node_count ws → (k : ℕ) (r : Register)
    → holds (task ws k).step r ≡ true
    → register (task ws k) r ≢ no_node
    → allocate ws hint ≢ register (task ws k) r
register-never-taken B low k r h n = held-node-never-taken B low (from_register k r h n)

-- ---- Reading a lane.

-- Where the lanes are the rows: a lane's count and its row in order where it fits into the out slice, and 12 where it
-- does not.
pub reading-gives-the-row : {ws : List ℕ} → Begun ws → (ρ : Row) → LanesAre ws ρ → (l : ℕ) → l < ρ.lanes
    → l < lane_count ws
    → (out : List ℕ)
    → (2 * length (ρ.bags l) ≤ length out
    → read ws l out
    ≡ record {
      reading = Count (length (ρ.bags l));
      out = all_tag_words (ρ.bags l) ++ drop (2 * length (ρ.bags l)) out;
    })
    × (length out < 2 * length (ρ.bags l) → read ws l out ≡ unread 12 out)
unfolding read read_into
reading-gives-the-row {ws} B ρ are l h is_lane out =
    let passes = no-call-refused-with-3-or-4 B (unless (ltb l (lane_count ws)) 26 none) in
    let lane-passes = lt-ltb l (lane_count ws) is_lane in
    let is = are l h in (
      λ fits. rw (passes, lane-passes, read, is, le-leb _ _ fits, read_into),
      λ short. rw (passes, lane-passes, read, is, lt-leb _ _ short, read_into),
    )

-- ---- Bags counted.
agreed-recorded : (cs : List Call) {ws : List ℕ} {ρ : Row} {η : History} → Agrees ws ρ → Recorded ρ η
    → (ρ' : Row)
    × Agrees (after_all cs ws) ρ'
    × ((l b : ℕ) → Balanced l b (ρ'.bags l) (history cs ws η).finished)
unfolding after_all history
agreed-recorded [] {ρ = ρ} A R = (ρ, A, R.balanced)
agreed-recorded (c ∷ cs) {ws} A R =
    let E = call-told A c in
    agreed-recorded cs E.explains.agrees (did-recorded (did c (given c ws)) R E.fed-what-it-did)

-- No bag is lost or doubled: after every list of calls each bag is in a lane as often as it was pushed there and not
-- popped since the latest start.
pub bags-conserved :
    (S T growth lanes : ℕ) (old : List ℕ)
    → (start old S T growth lanes).reply ≡ Accepted
    → (calls : List Call) (l : ℕ)
    → l < lane_count (after_all calls (start old S T growth lanes).words)
    → (bags : List ℕ)
    × (lane (after_all calls (start old S T growth lanes).words) l ≡ some bags)
    × ((b : ℕ)
    → count b bags + count b (bags_popped l (history calls (start old S T growth lanes).words (no_history T)).finished)
    ≡ count b (bags_pushed l (history calls (start old S T growth lanes).words (no_history T)).finished))
bags-conserved S T g L old accepted calls l is_lane =
    let x = agreed-recorded calls (started-agrees S T g L old accepted) (nothing-recorded T L) in
    let A = x.1 in
    (x.0.bags l, lanes-are-rows A l (subst (λ (n : ℕ). l < n) (sym A.same-lanes) is_lane), x.2 l)
