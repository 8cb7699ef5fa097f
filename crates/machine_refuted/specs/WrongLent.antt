-- 2026-14: wrong begins over a lent record, and wrong rows, each with a list of actions that tells it from the right
-- one, and how.
use Rattle.std.specs.Prelude.{◌≡◌, refl, Bool, true, false, not, ◌&&◌, List, [], ◌∷◌, map, ℕ, suc, eqb, length, replicate}
use Rattle.std.proofs.Math.Option.{Option, some, none}
use Rattle.machine.specs.Outcomes.Reply.{Reply, Accepted, Refused}
use Rattle.machine.specs.declared.Stored.{Stored}
use Rattle.machine.specs.Sides.{right, side_number, side_of}
use Rattle.machine.specs.Choice.{◌≟◌, if?◌then◌else◌}
use Rattle.machine.specs.Values.{stored, number}
use Rattle.machine.specs.Operations.{Operation, push, pop, operation_number, operation_of}
use Rattle.machine.specs.Tasks.{fresh, record_length, words_of}
use Rattle.machine.specs.Shape.{same_words}
use Rattle.machine.specs.Answers.{reply_number}
use Rattle.machine.specs.Calls.{Changed, changed, begun_task, begin_refusal}
use Rattle.machine.specs.Lent.{lent_to, begin_lent}
use Rattle.machine.specs.Row.{new_note, Row, noted}
use Rattle.machine.specs.Demand3.{
  Call,
  start_call,
  begin_call,
  tick_call,
  dispatch_call,
  lent_begin_call,
  given,
  after,
}
use Rattle.machine.specs.Events.{Known, nothing_known, feed_call, every_copy, pending_of, feed_copy}
use Rattle.machine_refuted.specs.Judged.{
  Verdict,
  passes,
  not_the_row's_answer,
  lane_is_not_the_row,
  other_answer,
  other_table,
}
use Rattle.machine_refuted.specs.WrongSnapshots.{same_where}

-- ---- What a machine does at a begin over a lent record. Its other calls are the right ones.
pub record LentDone : Type 0 where
  pub reply : Reply
  pub words : List ℕ
  pub table : List ℕ

-- The numbers of a begin.
pub record Numbers : Type 0 where
  pub task : ℕ
  pub lane : ℕ
  pub operation : ℕ
  pub side : ℕ
  pub argument : Stored

abbrev pub Lending : Type 0
Lending = (ws lent : List ℕ) → Numbers → LentDone

-- One that leaves the table.
abbrev only_reads : ((ws lent : List ℕ) → Numbers → Changed) → Lending
only_reads f ws lent n = let one = f ws lent n in record { reply = one.reply; words = one.words; table = ws }

abbrev lent_right : (ws lent : List ℕ) → Numbers → Changed
lent_right ws lent n = begin_lent ws lent n.task n.lane n.operation n.side n.argument

abbrev pub right_lending : Lending
right_lending = only_reads lent_right

-- What the row makes of a begin over a lent record, and of a copy.
pub record Feeding : Type 0 where
  pub at_begin : Known → (lent : List ℕ) → length lent ≡ record_length → Numbers → Reply → (words : List ℕ)
      → Option Known
  pub at_copy : Known → (k : ℕ) → (words : List ℕ) → Known

abbrev feeds_begin : Known → (lent : List ℕ) → length lent ≡ record_length → Numbers → Reply → (words : List ℕ)
    → Option Known
feeds_begin κ lent whole n r words =
    feed_call κ.row κ.kept κ.pending
    (lent_begin_call lent whole n.task n.lane n.operation n.side n.argument) (r, words)

abbrev feeds_copy : Known → (k : ℕ) → (words : List ℕ) → Known
feeds_copy κ k words = feed_copy every_copy κ k words (pending_of k words κ.pending)

abbrev right_feeding : Feeding
right_feeding = record { at_begin = feeds_begin; at_copy = feeds_copy }

-- ---- Actions: a call; a begin over a lent record; a copy of the record that was lent last, as it is then.
pub data Action : Type 0 where
  calls : Call → Action
  lends : (lent : List ℕ) → length lent ≡ record_length → Numbers → Action
  copies : (k : ℕ) → Action

-- An action that was made: what is known afterwards, if the row gives the answer; the table and the record as it left
-- them; and how it differs from what the definitions do.
pub record Made : Type 0 where
  pub known : Option Known
  pub table : List ℕ
  pub lent : List ℕ
  pub gave_other : Bool
  pub left_other : Bool

unfoldable pub made : Feeding → Lending → Action → (ws lent : List ℕ) → Known → Made
made F M (calls c) ws lent κ =
    record {
      known = feed_call κ.row κ.kept κ.pending c (given c ws);
      table = after c ws;
      lent = lent;
      gave_other = false;
      left_other = false;
    }
made F M (lends words whole n) ws lent κ =
    let one = M ws words n in
    let is = lent_right ws words n in
    record {
      known = F.at_begin κ words whole n one.reply one.words;
      table = one.table;
      lent = one.words;
      gave_other = not (eqb (reply_number one.reply) (reply_number is.reply) && same_words one.words is.words);
      left_other = not (same_words one.table ws);
    }
made F M (copies k) ws lent κ =
    record {
      known = some (F.at_copy κ k lent);
      table = lent_to ws k lent;
      lent = lent;
      gave_other = false;
      left_other = false;
    }

-- ---- Demand 3, as Events.Along says it: the answer is the row's, and where a row is known each lane is its row.
unfoldable pub by_known : Feeding → Lending → List Action → (ws lent : List ℕ) → Known → (number : ℕ) → Verdict
by_known F M [] ws lent κ n = passes
by_known F M (a ∷ others) ws lent κ n =
    let one = made F M a ws lent κ in
    elim one.known as (λ _. Verdict) [
      | none ↦ not_the_row's_answer n
      | some κ' ↦
          elim (same_where one.table κ'.row) as (λ _. Verdict) [
            | true ↦ by_known F M others one.table one.lent κ' (suc n)
            | false ↦ lane_is_not_the_row n
          ]
    ]

-- ---- Demand 2: each begin over a lent record gives and leaves what the definitions' does on the same words.
unfoldable pub by_definition : Lending → List Action → (ws lent : List ℕ) → (number : ℕ) → Verdict
by_definition M [] ws lent n = passes
by_definition M (a ∷ others) ws lent n =
    let one = made right_feeding M a ws lent nothing_known in
    elim one.gave_other as (λ _. Verdict) [
      | true ↦ other_answer n
      | false ↦
          elim one.left_other as (λ _. Verdict) [
            | true ↦ other_table n
            | false ↦ by_definition M others one.table one.lent (suc n)
          ]
    ]

-- ---- The wrong machines.

-- "It reads the table too and leaves it unchanged": it writes the record there too.
abbrev pub writes_table : Lending
writes_table ws lent n =
    let one = lent_right ws lent n in
    record { reply = one.reply; words = one.words; table = lent_to ws n.task one.words }

abbrev begun_by : Numbers → List ℕ
begun_by n = words_of (begun_task n.lane (operation_of n.operation) (side_of n.side) (number n.argument))

-- "in every test the lent record stands for that task's words there": the table's own words are tested.
abbrev pub tests_table : Lending
tests_table =
    only_reads (λ ws lent n.
    changed (begin_refusal ws n.task n.lane n.operation n.side n.argument) lent (begun_by n))

-- "a refusal changes no word of the record": it leaves a fresh one.
abbrev cleared_by : Reply → List ℕ → List ℕ
cleared_by Accepted words = words
cleared_by (Refused n) words = words_of fresh

abbrev pub refusal_clears : Lending
refusal_clears =
    only_reads (λ ws lent n.
    let one = lent_right ws lent n in record { reply = one.reply; words = cleared_by one.reply one.words })

-- ---- The wrong rows.

-- "a begin not copied leaves the row and its notes as they were": the begin sets the note.
abbrev noted_at : Option Row → Reply → Numbers → Option Row
noted_at none r n = none
noted_at (some ρ) (Refused m) n = some ρ
noted_at (some ρ) Accepted n =
    some (noted ρ n.task (some (new_note n.lane n.operation n.side n.argument)))

abbrev pub notes_at_begin : Feeding
notes_at_begin =
    record {
      at_begin = λ κ lent whole n r words.
          some (record { row = noted_at κ.row r n; kept = κ.kept; pending = κ.pending });
      at_copy = λ κ k words. κ;
    }

-- "That copy sets the task's note": it leaves the notes.
abbrev pub copy_unnoted : Feeding
copy_unnoted = record { at_begin = feeds_begin; at_copy = λ κ k words. κ }

-- It clears the notes of the other tasks.
abbrev alone_noted : (k : ℕ) → Option Row → Option Row
alone_noted k none = none
alone_noted k (some ρ) =
    some
    (record {
      lanes = ρ.lanes;
      bags = ρ.bags;
      notes = λ j. if? j ≟ k then ρ.notes j else none;
      tasks = ρ.tasks;
      dispatched = ρ.dispatched;
    })

abbrev pub copy_clears_others : Feeding
copy_clears_others =
    record {
      at_begin = feeds_begin;
      at_copy = λ κ k words.
          let copied = feeds_copy κ k words in
          record { row = alone_noted k copied.row; kept = copied.kept; pending = copied.pending };
    }

-- ---- The lists.
pub record Entry : Type 0 where
  pub feeds : Feeding
  pub wrong : Lending
  pub words : ℕ
  pub actions : List Action
  pub row_says : Verdict
  pub definitions-say : Verdict

-- On words that are all 7, with nothing known yet.
abbrev pub known_says : Feeding → Lending → Entry → Verdict
known_says F M e = by_known F M e.actions (replicate e.words 7) [] nothing_known 1

abbrev pub definitions_say : Lending → Entry → Verdict
definitions_say M e = by_definition M e.actions (replicate e.words 7) [] 1

abbrev starts : (S T : ℕ) → Action
starts S T = calls (start_call S T 0 1)

abbrev begins : (k : ℕ) → Operation → ℕ → Action
begins k op argument = calls (begin_call k 0 (operation_number op) (side_number right) (stored argument))

-- Over a fresh record of task 0.
abbrev numbers : Operation → ℕ → Numbers
numbers op argument =
    record {
      task = 0;
      lane = 0;
      operation = operation_number op;
      side = side_number right;
      argument = stored argument;
    }

abbrev lends_fresh : Operation → ℕ → Action
lends_fresh op argument = lends (words_of fresh) refl (numbers op argument)

abbrev ticks : Action
ticks = calls (tick_call 0 0)

abbrev ticks_other : Action
ticks_other = calls (tick_call 1 0)

abbrev dispatches : Action
dispatches = calls (dispatch_call 0)

abbrev pub entries : List Entry
entries =
    -- Wrong: 2026-14: a begin over a lent record writes it into the table too, and a dispatch finds it there.
    record {
      feeds = right_feeding;
      wrong = writes_table;
      words = 37;
      actions = starts 2 1 ∷ lends_fresh push 51 ∷ dispatches ∷ [];
      row_says = not_the_row's_answer 3;
      definitions-say = other_table 2;
    }
    -- Wrong: 2026-14: the table's own words are tested, and not the record: the task pops in the table, and the lent
    -- record is fresh.
    ∷ record {
      feeds = right_feeding;
      wrong = tests_table;
      words = 37;
      actions = starts 2 1 ∷ begins 0 pop 0 ∷ lends_fresh push 51 ∷ [];
      row_says = passes;
      definitions-say = other_answer 3;
    }
    -- Wrong: 2026-14: a refusal, 8 of a busy record, leaves a fresh one.
    ∷ record {
      feeds = right_feeding;
      wrong = refusal_clears;
      words = 37;
      actions = starts 2 1 ∷ lends (begun_by (numbers push 51)) refl (numbers pop 0) ∷ [];
      row_says = not_the_row's_answer 2;
      definitions-say = other_answer 2;
    }
    -- Wrong: 2026-14: the begin sets the note, though nothing was copied and a dispatch answers "idle".
    ∷ record {
      feeds = notes_at_begin;
      wrong = right_lending;
      words = 37;
      actions = starts 2 1 ∷ lends_fresh push 51 ∷ dispatches ∷ [];
      row_says = not_the_row's_answer 3;
      definitions-say = passes;
    }
    -- Wrong: 2026-14: a copy leaves the notes, though a tick goes on with the push that was copied.
    ∷ record {
      feeds = copy_unnoted;
      wrong = right_lending;
      words = 37;
      actions = starts 2 1 ∷ lends_fresh push 51 ∷ copies 0 ∷ ticks ∷ [];
      row_says = not_the_row's_answer 4;
      definitions-say = passes;
    }
    -- Wrong: 2026-14: a copy to task 0 clears the note of task 1, whose pop goes on.
    ∷ record {
      feeds = copy_clears_others;
      wrong = right_lending;
      words = 50;
      actions = starts 2 2 ∷ begins 1 pop 0 ∷ lends_fresh push 51 ∷ copies 0 ∷ ticks_other ∷ [];
      row_says = not_the_row's_answer 5;
      definitions-say = passes;
    }
    ∷ []

-- On every list the right machine with the right row passes, and the wrong one fails as is said.
abbrev pub LentRefuted : Type 0
LentRefuted =
    (map (known_says right_feeding right_lending) entries ≡ map (λ (e : Entry). passes) entries)
    × (map (definitions_say right_lending) entries ≡ map (λ (e : Entry). passes) entries)
    × (map (λ (e : Entry). known_says e.feeds e.wrong e) entries ≡ map (λ (e : Entry). e.row_says) entries)
    × (map (λ (e : Entry). definitions_say e.wrong e) entries ≡ map (λ (e : Entry). e.definitions-say) entries)
