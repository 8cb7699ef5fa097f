-- 2026-10: wrong takes and puts, and a wrong row, each with a list of actions that tells it from the right one, and
-- how.
use Rattle.std.specs.Prelude.{◌≡◌, Bool, true, false, ◌&&◌, List, [], ◌∷◌, ◌++◌, map, ℕ, zero, suc, ◌*◌, ◌+◌, ◌-◌, eqb, length, get_or, set, take, drop, replicate}
use Rattle.std.proofs.Math.Option.{Option, some, none}
use Rattle.machine.specs.Outcomes.Reply.{Reply}
use Rattle.machine.specs.Values.{stored}
use Rattle.machine.specs.Sides.{Side, left, right, side_number}
use Rattle.machine.specs.Operations.{Operation, push, pop, add, operation_number}
use Rattle.machine.specs.Tasks.{record_length}
use Rattle.machine.specs.Table.{node_length, node_at, node_count, task_count, dispatched_at, hat_at, word14_at}
use Rattle.machine.specs.Shape.{same_words}
use Rattle.machine.specs.Answers.{reply_number}
use Rattle.machine.specs.Calls.{unless, table_refusal, Changed, changed}
use Rattle.machine.specs.Snapshots.{
  rows,
  transposed,
  reordered,
  by_columns,
  by_nodes,
  snapshot_refusal,
  take_snapshot,
  put_back,
}
use Rattle.machine.specs.Row.{Row}
use Rattle.machine.specs.Demand3.{Call, start_call, begin_call, tick_call, ticks_call, dispatch_call, given, after}
use Rattle.machine.specs.Events.{Known, nothing_known, feed_call, feed_take, feed_put}
use Rattle.machine_refuted.specs.Judged.{
  Verdict,
  passes,
  not_the_row's_answer,
  lane_is_not_the_row,
  other_answer,
  other_table,
  same_lanes,
}

-- What a machine does at a take and at a put. Its calls are the right ones.
pub record Copying : Type 0 where
  pub takes : (ws out : List ℕ) → Changed
  pub puts : (snapshot ws : List ℕ) → Changed

abbrev pub right_copying : Copying
right_copying = record { takes = take_snapshot; puts = put_back }

-- ---- Actions: a call; a take into a slice of so many words, which are 7; what was taken last is put back, as it is or
-- with one word altered.
pub data Action : Type 0 where
  calls : Call → Action
  takes_into : (words : ℕ) → Action
  puts_back : Action
  puts_altered : (place word : ℕ) → Action

-- An action that was made: what is known afterwards, if the row gives the answer; the table and the snapshot as it left
-- them; and how it differs from what the definitions do.
pub record Made : Type 0 where
  pub known : Option Known
  pub table : List ℕ
  pub snapshot : List ℕ
  pub gave_other : Bool
  pub left_other : Bool

-- What a put makes known.
abbrev pub Feeding : Type 0
Feeding = Known → (same_length : Bool) → (snapshot : List ℕ) → Reply → Option Known

abbrev pub same_reply : Changed → Changed → Bool
same_reply c d = eqb (reply_number c.reply) (reply_number d.reply)

abbrev pub other : Bool → Bool
other true = false
other false = true

abbrev made_take : Copying → (ws out : List ℕ) → Known → Made
made_take M ws out κ =
    let one = M.takes ws out in
    let is = take_snapshot ws out in
    record {
      known = feed_take κ (eqb (length out) (length ws)) one.reply one.words;
      table = ws;
      snapshot = one.words;
      gave_other = other (same_reply one is && same_words one.words is.words);
      left_other = false;
    }

abbrev made_put : Feeding → Copying → (ws kept snapshot : List ℕ) → Known → Made
made_put feeds M ws kept ss κ =
    let one = M.puts ss ws in
    let is = put_back ss ws in
    record {
      known = feeds κ (eqb (length ss) (length ws)) ss one.reply;
      table = one.words;
      snapshot = kept;
      gave_other = other (same_reply one is);
      left_other = other (same_words one.words is.words);
    }

unfoldable pub made : Feeding → Copying → Action → (ws snapshot : List ℕ) → Known → Made
made feeds M (calls c) ws ss κ =
    record {
      known = feed_call κ.row κ.kept κ.pending c (given c ws);
      table = after c ws;
      snapshot = ss;
      gave_other = false;
      left_other = false;
    }
made feeds M (takes_into n) ws ss κ = made_take M ws (replicate n 7) κ
made feeds M puts_back ws ss κ = made_put feeds M ws ss ss κ
made feeds M (puts_altered i w) ws ss κ = made_put feeds M ws ss (set ss i w) κ

-- ---- Demand 3, as Events.Along says it: the answer is the row's, and where a row is known each lane is its row.
abbrev pub same_where : List ℕ → Option Row → Bool
same_where ws none = true
same_where ws (some ρ) = same_lanes ws (some ρ)

unfoldable pub by_known : Feeding → Copying → List Action → (ws snapshot : List ℕ) → Known → (number : ℕ) → Verdict
by_known feeds M [] ws ss κ n = passes
by_known feeds M (a ∷ others) ws ss κ n =
    let one = made feeds M a ws ss κ in
    elim one.known as (λ _. Verdict) [
      | none ↦ not_the_row's_answer n
      | some κ' ↦
          elim (same_where one.table κ'.row) as (λ _. Verdict) [
            | true ↦ by_known feeds M others one.table one.snapshot κ' (suc n)
            | false ↦ lane_is_not_the_row n
          ]
    ]

-- ---- Demand 2: each take and put gives and leaves what the definitions' does on the same words.
unfoldable pub by_definition : Copying → List Action → (ws snapshot : List ℕ) → (number : ℕ) → Verdict
by_definition M [] ws ss n = passes
by_definition M (a ∷ others) ws ss n =
    let one = made feed_put M a ws ss nothing_known in
    elim one.gave_other as (λ _. Verdict) [
      | true ↦ other_answer n
      | false ↦
          elim one.left_other as (λ _. Verdict) [
            | true ↦ other_table n
            | false ↦ by_definition M others one.table one.snapshot (suc n)
          ]
    ]

-- ---- The wrong machines.

-- Takes and puts by another order and back, with the right tests.
abbrev by_orders : (order back : List ℕ → List ℕ) → Copying
by_orders order back =
    record {
      takes = λ ws out. changed (snapshot_refusal out ws (table_refusal ws none)) out (order ws);
      puts = λ ss ws. changed (snapshot_refusal ss ws (table_refusal (back ss) none)) ws (back ss);
    }

-- "every V, every leading digit": the digits first.
abbrev exchanged : ℕ → ℕ
exchanged zero = 0
exchanged (suc zero) = 1
exchanged (suc (suc zero)) = 3
exchanged (suc (suc (suc c))) = 2

abbrev pub exchanges_values : Copying
exchanges_values =
    by_orders (reordered (λ S ns. rows node_length S (λ c x. get_or ns (node_length * x + exchanged c) 0)))
    (reordered (λ S cs. rows S node_length (λ x c. get_or cs (S * exchanged c + x) 0)))

-- "then the tasks": these by columns too.
abbrev records : (List ℕ → List ℕ) → List ℕ → List ℕ
records order ws = take (node_at (node_count ws)) ws ++ order (drop (node_at (node_count ws)) ws)

abbrev pub records_by_columns : Copying
records_by_columns =
    by_orders (λ ws. records (transposed (task_count ws) record_length) (by_columns ws))
    (λ ss. records (transposed record_length (task_count ss)) (by_nodes ss))

-- "putting back tests them on the result before it writes": it tests the words that the table had.
abbrev with_put : ((snapshot ws : List ℕ) → Changed) → Copying
with_put puts = record { takes = take_snapshot; puts = puts }

abbrev pub tests_old_table : Copying
tests_old_table = with_put (λ ss ws. changed (snapshot_refusal ss ws (table_refusal ws none)) ws (by_nodes ss))

-- It writes, and tests then.
abbrev pub writes_first : Copying
writes_first =
    with_put (λ ss ws. changed (snapshot_refusal ss ws (table_refusal (by_nodes ss) none)) (by_nodes ss) (by_nodes ss))

-- "Putting it back gives the table taken, each word": the words from one place to another stay as they were.
abbrev leaves : (from to : ℕ) → Copying
leaves from to =
    with_put (λ ss ws.
    let back = by_nodes ss in
    changed (snapshot_refusal ss ws (table_refusal back none)) ws
    (take from back ++ (take (to - from) (drop from ws) ++ drop to back)))

-- The hats; the task last dispatched.
abbrev pub leaves_hats : Copying
leaves_hats = leaves (hat_at 0 left) word14_at

abbrev pub leaves_dispatched : Copying
leaves_dispatched = leaves dispatched_at (suc dispatched_at)

-- "22, snapshot and table differ in length, tested first": it is tested last.
abbrev length_last : (snapshot ws tested : List ℕ) → Option ℕ
length_last ss ws tested = table_refusal tested (unless (eqb (length ss) (length ws)) 22 none)

abbrev pub tests_length_last : Copying
tests_length_last =
    record {
      takes = λ ws out. changed (length_last out ws ws) out (by_columns ws);
      puts = λ ss ws. changed (length_last ss ws (by_nodes ss)) ws (by_nodes ss);
    }

-- "Taking tests 3 and 4 on the table": it tests the words of the slice.
abbrev pub tests_slice : Copying
tests_slice =
    record {
      takes = λ ws out. changed (snapshot_refusal out ws (table_refusal out none)) out (by_columns ws);
      puts = put_back;
    }

-- "a row whose history ends where it was taken": the latest row goes on.
abbrev pub feeds_latest : Feeding
feeds_latest κ same ss r = some κ

-- ---- The lists.
pub record Entry : Type 0 where
  pub feeds : Feeding
  pub wrong : Copying
  pub words : ℕ
  pub actions : List Action
  pub row_says : Verdict
  pub definitions-say : Verdict

-- On words that are all 7, with nothing known yet.
abbrev pub known_says : Feeding → Copying → Entry → Verdict
known_says feeds M e = by_known feeds M e.actions (replicate e.words 7) [] nothing_known 1

abbrev pub definitions_say : Copying → Entry → Verdict
definitions_say M e = by_definition M e.actions (replicate e.words 7) [] 1

abbrev starts : (S T : ℕ) → Action
starts S T = calls (start_call S T 0 1)

abbrev begins : (k : ℕ) → Operation → Side → ℕ → Action
begins k op s argument = calls (begin_call k 0 (operation_number op) (side_number s) (stored argument))

abbrev answers : Action
answers = calls (ticks_call 0 0 99)

abbrev ticks : Action
ticks = calls (tick_call 0 0)

abbrev dispatches : Action
dispatches = calls (dispatch_call 0)

abbrev pub entries : List Entry
entries =
    -- The words of the third column are the digits: the snapshot is another, and comes back as it was.
    -- Wrong: The columns of V and of the leading digits are exchanged, in taking and in putting back.
    record {
      feeds = feed_put;
      wrong = exchanges_values;
      words = 45;
      actions = starts 4 1 ∷ takes_into 45 ∷ puts_back ∷ [];
      row_says = passes;
      definitions-say = other_answer 2;
    }
    -- Wrong: The records are by columns too, in taking and in putting back.
    ∷ record {
      feeds = feed_put;
      wrong = records_by_columns;
      words = 58;
      actions = starts 4 2 ∷ takes_into 58 ∷ puts_back ∷ [];
      row_says = passes;
      definitions-say = other_answer 2;
    }
    -- The task last dispatched is no task, and the snapshot is put back.
    -- Wrong: A put tests the words that the table had, and puts back a snapshot that is none.
    ∷ record {
      feeds = feed_put;
      wrong = tests_old_table;
      words = 45;
      actions = starts 4 1 ∷ takes_into 45 ∷ puts_altered 5 1 ∷ [];
      row_says = passes;
      definitions-say = other_answer 3;
    }
    -- The left hat is no node: the put is refused, and the lane cannot be read any more.
    -- Wrong: A put writes before it tests, and is refused with the words in place.
    ∷ record {
      feeds = feed_put;
      wrong = writes_first;
      words = 45;
      actions = starts 4 1 ∷ takes_into 45 ∷ puts_altered 6 4 ∷ [];
      row_says = lane_is_not_the_row 3;
      definitions-say = other_table 3;
    }
    -- A push moves the left hat to a node that the table taken does not use.
    -- Wrong: A put leaves the hats as they were.
    ∷ record {
      feeds = feed_put;
      wrong = leaves_hats;
      words = 45;
      actions = starts 4 1 ∷ takes_into 45 ∷ begins 0 push left 51 ∷ answers ∷ puts_back ∷ [];
      row_says = lane_is_not_the_row 5;
      definitions-say = other_table 5;
    }
    -- Task 0 is about to answer "empty", and task 1 is to add. After the put the dispatches begin with task 1.
    -- Wrong: A put leaves the task last dispatched as it was, and the dispatches go on with another task.
    ∷ record {
      feeds = feed_put;
      wrong = leaves_dispatched;
      words = 58;
      actions =
          starts 4 2
          ∷ begins 0 pop right 0
          ∷ ticks
          ∷ ticks
          ∷ ticks
          ∷ begins 1 add right 0
          ∷ takes_into 58
          ∷ dispatches
          ∷ puts_back
          ∷ dispatches
          ∷ dispatches
          ∷ [];
      row_says = not_the_row's_answer 11;
      definitions-say = other_table 9;
    }
    -- No table, and a slice of another length.
    -- Wrong: 22 is tested after 3 and 4.
    ∷ record {
      feeds = feed_put;
      wrong = tests_length_last;
      words = 45;
      actions = takes_into 44 ∷ [];
      row_says = not_the_row's_answer 1;
      definitions-say = other_answer 1;
    }
    -- A slice of words that are no table.
    -- Wrong: Taking tests the words of the slice that it is lent.
    ∷ record {
      feeds = feed_put;
      wrong = tests_slice;
      words = 45;
      actions = starts 4 1 ∷ takes_into 45 ∷ [];
      row_says = not_the_row's_answer 2;
      definitions-say = other_answer 2;
    }
    -- The right machine: after the put the push answers "full" again, and the latest row has no note of it.
    -- Wrong: The row, `feeds_latest`, and not the machine: after a put it is the latest row, and not the one that the
    -- snapshot was taken with.
    ∷ record {
      feeds = feeds_latest;
      wrong = right_copying;
      words = 37;
      actions = starts 2 1 ∷ begins 0 push right 51 ∷ takes_into 37 ∷ answers ∷ puts_back ∷ answers ∷ [];
      row_says = not_the_row's_answer 6;
      definitions-say = passes;
    }
    ∷ []

-- On every list the right machine with the right row passes, and the wrong one fails as is said.
abbrev pub SnapshotsRefuted : Type 0
SnapshotsRefuted =
    (map (known_says feed_put right_copying) entries ≡ map (λ (e : Entry). passes) entries)
    × (map (definitions_say right_copying) entries ≡ map (λ (e : Entry). passes) entries)
    × (map (λ (e : Entry). known_says e.feeds e.wrong e) entries ≡ map (λ (e : Entry). e.row_says) entries)
    × (map (λ (e : Entry). definitions_say e.wrong e) entries ≡ map (λ (e : Entry). e.definitions-say) entries)
