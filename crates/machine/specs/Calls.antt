-- The calls: for every table and all numbers, the answer and every lent word afterwards.
use Rattle.std.specs.Prelude.{Bool, true, false, cond, not, ◌&&◌, ◌||◌, List, [], ◌∷◌, ◌++◌, ℕ, zero, suc, ◌+◌, ◌*◌, ◌-◌, ◌/◌, ◌%◌, ◌^◌, leb, ltb, eqb, length, drop}
use Rattle.std.proofs.Math.Option.{Option, some, none, map, bind}
use Rattle.tag.specs.Tags.{all_tag_words}
use Rattle.machine.specs.Outcomes.Answer.{Answer, Going, Refused}
use Rattle.machine.specs.Outcomes.Dispatch.{Dispatch, Idle, Answered}
use Rattle.machine.specs.Outcomes.Reply.{Reply, Accepted, Refused as Reply-Refused}
use Rattle.machine.specs.Outcomes.Reading.{Reading, Count, Refused as Reading-Refused}
use Rattle.machine.specs.Outcomes.Ran.{Ran}
use Rattle.machine.specs.declared.Stored.{Stored}
use Rattle.machine.specs.Choice.{◌≟◌, ◌<?◌, if?◌then◌else◌}
use Rattle.machine.specs.Round.{next_after}
use Rattle.machine.specs.Sides.{Side, left, right, opposite, side_number, side_of}
use Rattle.machine.specs.Values.{never, bag, N, X, Y, number}
use Rattle.machine.specs.Operations.{Operation, idle, push, pop, add, remove, operation_of, argument_ok}
use Rattle.machine.specs.Steps.{first_step}
use Rattle.machine.specs.Tasks.{Task, fresh, no_node, words_of, goal}
use Rattle.machine.specs.Table.{
  table_length,
  node_count,
  task_count,
  growth,
  lane_count,
  tick_count,
  dispatched,
  hat,
  header_words,
  node_words,
  link,
  value,
  task,
  set_tick_count,
  set_dispatched,
  set_task,
}
use Rattle.machine.specs.Shape.{lanes_ok, sizes_ok, length_ok, shape_ok}
use Rattle.machine.specs.Allocate.{allocate}
use Rattle.machine.specs.Lines.{Effect, seen, write_all, act}
use Rattle.machine.specs.Answers.{answer_length, answer_words, refusal_of, is_going, dispatch_goes_on}

-- ---- The lanes.

-- The bag numbers from node x on along R, in n nodes at most; nothing where a link is none, or n bags have no end.
unfoldable pub lane_from : List ℕ → (n x : ℕ) → Option (List ℕ)
lane_from ws zero x = none
lane_from ws (suc n) x =
    if? x ≟ no_node then none else
    elim (value ws x) as (λ _. Option (List ℕ)) [
      | never ↦ some []
      | bag b ↦ map (◌∷◌ b) (lane_from ws n (link ws right x))
      | N z ↦ some []
      | X z ↦ some []
      | Y z ↦ some []
    ]

-- 01: the lane is read from the left hat's R along R while V is a bag. 2026-12: lane l from its own left hat.
unfoldable pub lane : List ℕ → (l : ℕ) → Option (List ℕ)
lane ws l = lane_from ws (node_count ws) (link ws right (hat ws l left))

-- The bag numbers of the first n lanes, one lane after another; nothing where one of them cannot be read.
unfoldable pub lanes_below : List ℕ → (n : ℕ) → Option (List ℕ)
lanes_below ws zero = some []
lanes_below ws (suc n) = bind (lanes_below ws n) (λ before. map (◌++◌ before) (lane ws n))

-- Those of all lanes.
abbrev pub all_lanes : List ℕ → Option (List ℕ)
all_lanes ws = lanes_below ws (lane_count ws)

-- ---- Refusals, in the order of 01's table.

-- n where the test fails; where it passes, what the tests after it give.
abbrev pub unless : Bool → ℕ → Option ℕ → Option ℕ
unless true n others = others
unless false n others = some n

abbrev pub is_idle : Operation → Bool
is_idle idle = true
is_idle push = false
is_idle pop = false
is_idle add = false
is_idle remove = false

abbrev pub is_busy : Operation → Bool
is_busy idle = false
is_busy push = true
is_busy pop = true
is_busy add = true
is_busy remove = true

-- 02: "25, lanes out of range at start, before 1"; S under twice the lanes is 1.
abbrev pub start_refusal : List ℕ → (S T growth lanes : ℕ) → Option ℕ
start_refusal ws S T g lanes =
    unless (lanes_ok lanes) 25
    (unless (sizes_ok S T g lanes) 1
    (unless (eqb (length ws) (table_length S T)) 2 none))

-- The tests that all the other calls begin with.
abbrev pub table_refusal : List ℕ → Option ℕ → Option ℕ
table_refusal ws others = unless (length_ok ws) 3 (unless (shape_ok ws) 4 others)

-- 02: "26, lane out of range at begin, read or sheet, straight after 4".
abbrev pub lane_refusal : List ℕ → (l : ℕ) → Option ℕ → Option ℕ
lane_refusal ws l others = table_refusal ws (unless (ltb l (lane_count ws)) 26 others)

-- ---- 2026-03: a bag number already in the lane; since 2026-12 in any lane.
abbrev pub is_push : Operation → Bool
is_push idle = false
is_push push = true
is_push pop = false
is_push add = false
is_push remove = false

abbrev pub is_among : ℕ → List ℕ → Bool
is_among n [] = false
is_among n (b ∷ bs) = eqb n b || is_among n bs

-- The number is the argument of a busy push, of the tasks below m. 02: "16 compares whole tags".
unfoldable pub is_begun : List ℕ → (m n : ℕ) → Bool
is_begun ws zero n = false
is_begun ws (suc m) n =
    is_push (task ws m).operation && eqb n (task ws m).argument || is_begun ws m n

-- 02: "Begin of a push shall refuse a bag number that stands in the lane or is the argument of a busy push. The lane is
-- read as by the read call"; "a refusal 11 of the lane walk stands between 7 and 16". 2026-12: "the twice-seen tag of
-- 16 is looked for in all lanes".
abbrev pub seen_refusal : List ℕ → ℕ → (bags : Option (List ℕ)) → Option ℕ → Option ℕ
seen_refusal ws n none others = some 11
seen_refusal ws n (some bags) others = unless (not (is_among n bags || is_begun ws (task_count ws) n)) 16 others

-- Begins of the other operations walk nothing.
abbrev pub twice_refusal : List ℕ → Operation → ℕ → Option ℕ → Option ℕ
twice_refusal ws push n others = seen_refusal ws n (all_lanes ws) others
twice_refusal ws idle n others = others
twice_refusal ws pop n others = others
twice_refusal ws add n others = others
twice_refusal ws remove n others = others

-- The tests of the call that task k is to begin.
abbrev pub call_refusal : List ℕ → (k operation side : ℕ) → (argument : Stored) → Option ℕ
call_refusal ws k op side argument =
    unless (leb 1 op && leb op 4 && leb side 1) 6
    (unless (argument_ok (operation_of op) argument) 7
    (twice_refusal ws (operation_of op) (number argument)
    (unless (is_idle (task ws k).operation) 8 none)))

abbrev pub begin_refusal : List ℕ → (k lane operation side : ℕ) → (argument : Stored) → Option ℕ
begin_refusal ws k l op side argument =
    lane_refusal ws l (unless (ltb k (task_count ws)) 5 (call_refusal ws k op side argument))

-- The tests of a tick on a table that has passed 3 and 4. (11 is the lines' own: `through` in Lines.)
abbrev pub tick_refusal : List ℕ → (k hint : ℕ) → Option ℕ
tick_refusal ws k h =
    unless (ltb k (task_count ws)) 5
    (unless (ltb h (node_count ws)) 9
    (unless (is_busy (task ws k).operation) 10 none))

-- 02: "The caller still gives the hint, tested as in tick, before the choice." The task chosen is busy, so 5 and 10 do
-- not arise; 11 comes after "idle", with the tick.
abbrev pub dispatch_refusal : List ℕ → (hint : ℕ) → Option ℕ
dispatch_refusal ws h = table_refusal ws (unless (ltb h (node_count ws)) 9 none)

-- The tests that a run and the panel's list begin with, and the one that both end with: room for the words of each
-- tick.
abbrev pub list_refusal : (ws list : List ℕ) → Option ℕ → Option ℕ
list_refusal ws list others =
    table_refusal ws (unless (eqb (length list % 2) 0 && leb (length list) 8192) 13 others)

abbrev pub room_refusal : (list answers : List ℕ) → Option ℕ
room_refusal list answers = unless (leb (answer_length * (length list / 2)) (length answers)) 14 none

abbrev pub run_refusal : List ℕ → (list answers : List ℕ) → Option ℕ
run_refusal ws list answers = list_refusal ws list (room_refusal list answers)

-- 2026-01: 15, panel list over 64 words, tested where 13 is tested and straight after it.
abbrev pub panel_refusal : List ℕ → (list answers : List ℕ) → Option ℕ
panel_refusal ws list answers = list_refusal ws list (unless (leb (length list) 64) 15 (room_refusal list answers))

-- ---- start and begin.
pub record Changed : Type 0 where
  pub reply : Reply
  pub words : List ℕ

-- A refusal leaves the words as they were.
abbrev pub changed : Option ℕ → (before after : List ℕ) → Changed
changed (some n) before after = record { reply = Reply-Refused n; words = before }
changed none before after = record { reply = Accepted; words = after }

-- A list n times over.
unfoldable pub times : ℕ → List ℕ → List ℕ
times zero l = []
times (suc n) l = l ++ times n l

-- 02: "Lane k, from 0, starts with slots 2k and 2k + 1"; "unused ones none". 01: the hats are 0 and 1.
abbrev pub start_hat : (lanes l : ℕ) → Side → ℕ
start_hat lanes l s = if? l <? lanes then 2 * l + side_number s else no_node

-- The nodes of n lanes, from lane l on. 01: slot 0 as L none, R 1, V LX and slot 1 as L 0, R none, V RX.
unfoldable pub start_nodes : (n l : ℕ) → List ℕ
start_nodes zero l = []
start_nodes (suc n) l =
    node_words no_node (2 * l + 1) (X left) ++ (node_words (2 * l) no_node (X right) ++ start_nodes n (suc l))

-- 01: other slots have no links and V 0, the tick count is 0 and all tasks are idle. 02: "A start writes T - 1 there",
-- as the task last dispatched.
unfoldable pub start_words : (S T growth lanes : ℕ) → List ℕ
start_words S T g lanes =
    header_words S T g lanes 0 (T - 1) (start_hat lanes)
    ++ (start_nodes lanes 0
    ++ (times (S - 2 * lanes) (node_words no_node no_node never)
    ++ times T (words_of fresh)))

unfoldable pub start : List ℕ → (S T growth lanes : ℕ) → Changed
start ws S T g lanes = changed (start_refusal ws S T g lanes) ws (start_words S T g lanes)

-- 01: begin writes a fresh record with operation, side, argument and first step; 02: and its lane.
abbrev pub begun_task : (lane : ℕ) → Operation → Side → ℕ → Task
begun_task l op s argument =
    record {
      operation = op;
      step = first_step op;
      side = s;
      argument = argument;
      counted = 0;
      value = never;
      A = no_node;
      B = no_node;
      C = no_node;
      D = no_node;
      lane = l;
    }

unfoldable pub begin : List ℕ → (k lane operation side : ℕ) → (argument : Stored) → Changed
begin ws k l op side argument =
    changed (begin_refusal ws k l op side argument) ws
    (set_task k (begun_task l (operation_of op) (side_of side) (number argument)) ws)

-- ---- tick.
pub record Ticked : Type 0 where
  pub answer : Answer
  pub words : List ℕ

-- The effect of the line at which a task stands.
unfoldable pub effect_of : List ℕ → (k hint : ℕ) → Effect
effect_of ws k h =
    let t = task ws k in
    act t.step t.side (opposite t.side) (seen t.lane t.side ws) t (goal (growth ws) t) (allocate ws h)

-- 01: the tick count rises by 1 with each tick made and goes from 4,294,967,295 to 0.
abbrev pub tick_counted : List ℕ → List ℕ
tick_counted ws = set_tick_count ((tick_count ws + 1) % 2 ^ 32) ws

-- The table after an effect of a task on side s of a lane; a refusal leaves it as it was.
unfoldable pub applied : (lane : ℕ) → Side → List ℕ → ℕ → Effect → Ticked
applied l s ws k e =
    elim (refusal_of e.answer) as (λ _. Ticked) [
      | some n ↦ record { answer = e.answer; words = ws }
      | none ↦ record { answer = e.answer; words = tick_counted (set_task k e.task (write_all l s e.writes ws)) }
    ]

-- A tick on a table that has passed 3 and 4.
unfoldable pub tick_on : List ℕ → (k hint : ℕ) → Ticked
tick_on ws k h =
    elim (tick_refusal ws k h) as (λ _. Ticked) [
      | some n ↦ record { answer = Refused n; words = ws }
      | none ↦ applied (task ws k).lane (task ws k).side ws k (effect_of ws k h)
    ]

unfoldable pub tick : List ℕ → (k hint : ℕ) → Ticked
tick ws k h =
    elim (table_refusal ws none) as (λ _. Ticked) [
      | some n ↦ record { answer = Refused n; words = ws }
      | none ↦ tick_on ws k h
    ]

-- ---- Consecutive ticks: of one task, until one does not go on, or so many. The last outcome is given; "going" where
-- no tick was asked for.
unfoldable pub ticks : (times : ℕ) → List ℕ → (k hint : ℕ) → Ticked
ticks zero ws k h = record { answer = Going; words = ws }
ticks (suc n) ws k h =
    let one = tick ws k h in
    elim (is_going one.answer) as (λ _. Ticked) [ true ↦ ticks n one.words k h | false ↦ one ]

-- ---- 2026-07: dispatch.
pub record Dispatched : Type 0 where
  pub answer : Dispatch
  pub words : List ℕ

abbrev pub is_busy_task : List ℕ → ℕ → Bool
is_busy_task ws k = is_busy (task ws k).operation

-- 02: "the next busy task after the one it last ticked, going round by task number". That one itself comes last.
abbrev pub next_busy : List ℕ → Option ℕ
next_busy ws = next_after (task_count ws) (is_busy_task ws) (dispatched ws)

-- A tick of task k, and the header keeps that task. A refusal leaves every word as it was.
unfoldable pub dispatch_to : List ℕ → (k hint : ℕ) → Dispatched
dispatch_to ws k h =
    let one = tick_on ws k h in
    elim (refusal_of one.answer) as (λ _. Dispatched) [
      | some n ↦ record { answer = Answered one.answer; words = ws }
      | none ↦ record { answer = Answered one.answer; words = set_dispatched k one.words }
    ]

-- 02: "With every task idle it answers "idle" and changes nothing."
unfoldable pub dispatch_on : List ℕ → (hint : ℕ) → Dispatched
dispatch_on ws h =
    elim (next_busy ws) as (λ _. Dispatched) [
      | some k ↦ dispatch_to ws k h
      | none ↦ record { answer = Idle; words = ws }
    ]

unfoldable pub dispatch : List ℕ → (hint : ℕ) → Dispatched
dispatch ws h =
    elim (dispatch_refusal ws h) as (λ _. Dispatched) [
      | some n ↦ record { answer = Answered (Refused n); words = ws }
      | none ↦ dispatch_on ws h
    ]

-- ---- Consecutive dispatches: until one does not go on, or so many. The last outcome is given; "going" where no
-- dispatch was asked for.
unfoldable pub dispatches : (times : ℕ) → List ℕ → (hint : ℕ) → Dispatched
dispatches zero ws h = record { answer = Answered Going; words = ws }
dispatches (suc n) ws h =
    let one = dispatch ws h in
    elim (dispatch_goes_on one.answer) as (λ _. Dispatched) [ true ↦ dispatches n one.words h | false ↦ one ]

-- How many of them went on.
unfoldable pub went_on : (times : ℕ) → List ℕ → (hint : ℕ) → ℕ
went_on zero ws h = 0
went_on (suc n) ws h =
    let one = dispatch ws h in
    elim (dispatch_goes_on one.answer) as (λ _. ℕ) [ true ↦ suc (went_on n one.words h) | false ↦ 0 ]

-- How many were made: where fewer went on than were asked for, the one that did not as well.
abbrev pub dispatches_made : (times : ℕ) → List ℕ → (hint : ℕ) → ℕ
dispatches_made n ws h = let m = went_on n ws h in cond (ltb m n) (suc m) m

-- ---- run and panel.
pub record RunDone : Type 0 where
  pub ran : Ran
  pub words : List ℕ
  pub answers : List ℕ

abbrev pub stopped : ℕ → (ws answers : List ℕ) → RunDone
stopped n ws answers = record { ran = record { made = 0; refusal = n }; words = ws; answers = answers }

-- One tick more, made first, with its words.
abbrev pub after_tick : Answer → RunDone → RunDone
after_tick a r =
    record {
      ran = record { made = suc r.ran.made; refusal = r.ran.refusal };
      words = r.words;
      answers = answer_words a ++ r.answers;
    }

-- 01: a run takes (task, hint) pairs and stops at the first refused tick. 02: three words a tick.
unfoldable pub run_on : (list : List ℕ) (ws answers : List ℕ) → RunDone
run_on [] ws answers = stopped 0 ws answers
run_on (k ∷ []) ws answers = stopped 0 ws answers
run_on (k ∷ h ∷ list) ws answers =
    let one = tick_on ws k h in
    elim (refusal_of one.answer) as (λ _. RunDone) [
      | some n ↦ stopped n ws answers
      | none ↦ after_tick one.answer (run_on list one.words (drop answer_length answers))
    ]

-- What follows the tests: the refusal that they gave, or the ticks of the list.
abbrev pub tested : Option ℕ → (ws list answers : List ℕ) → RunDone
tested (some n) ws list answers = stopped n ws answers
tested none ws list answers = run_on list ws answers

unfoldable pub run : List ℕ → (list answers : List ℕ) → RunDone
run ws list answers = tested (run_refusal ws list answers) ws list answers

-- 2026-01: the panel's own entry, for a list of at most 32 ticks.
unfoldable pub panel : List ℕ → (list answers : List ℕ) → RunDone
panel ws list answers = tested (panel_refusal ws list answers) ws list answers

-- ---- Reading a lane.
pub record ReadDone : Type 0 where
  pub reading : Reading
  pub out : List ℕ

abbrev pub unread : ℕ → List ℕ → ReadDone
unread n out = record { reading = Reading-Refused n; out = out }

-- 01: the read writes bags in order, answers their count, and touches no later word. 02: two words for a tag.
unfoldable pub read_into : Option (List ℕ) → List ℕ → ReadDone
read_into none out = unread 11 out
read_into (some bags) out =
    elim (leb (2 * length bags) (length out)) as (λ _. ReadDone) [
      | true ↦ record { reading = Count (length bags); out = all_tag_words bags ++ drop (2 * length bags) out }
      | false ↦ unread 12 out
    ]

unfoldable pub read : List ℕ → (lane : ℕ) → (out : List ℕ) → ReadDone
read ws l out =
    elim (lane_refusal ws l none) as (λ _. ReadDone) [
      | some n ↦ unread n out
      | none ↦ read_into (lane ws l) out
    ]
