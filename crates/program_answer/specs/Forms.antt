-- What each form of the belt run does: what is printed, and the words of the table afterwards.
-- Before an accepted start the table has no words, which is why the other calls give 3.
use Rattle.std.specs.Prelude.{List, ℕ, replicate}
use Rattle.std.proofs.Math.Option.{Option, some, none}
use Rattle.machine.specs.Values.{stored_of}
use Rattle.machine.specs.Outcomes.Reply.{Reply, Accepted, Refused}
use Rattle.machine.specs.Table.{table_length}
use Rattle.machine.specs.Calls.{lane_refusal, start, begin, ticks, lane}
use Rattle.program_print.specs.Lines.{refused_text, reply_text, answer_text, lane_text}

pub record Answered : Type 0 where
  pub text : List ℕ
  pub words : List ℕ

-- An accepted start gives a new table; a refused one keeps the table that there was.
abbrev pub started_from : (old : List ℕ) → Reply → (new : List ℕ) → List ℕ
started_from old Accepted new = new
started_from old (Refused n) new = old

-- 02: "The lane program starts one lane, so its lines are as before." All its forms are about that one.
abbrev pub lanes_started : ℕ
lanes_started = 1

abbrev pub the_lane : ℕ
the_lane = 0

-- `(start (slots S) (tasks T) (growth g))`: a start of a table that has the right length.
unfoldable pub start_command : List ℕ → (S T growth : ℕ) → Answered
start_command ws S T g =
    let d = start (replicate (table_length S T) 0) S T g lanes_started in
    record { text = reply_text d.reply; words = started_from ws d.reply d.words }

-- `(begin task (operation side argument))`, the argument by its two words.
unfoldable pub begin_command : List ℕ → (k operation side digit low : ℕ) → Answered
begin_command ws k op side digit low =
    let d = begin ws k the_lane op side (stored_of digit low) in
    record { text = reply_text d.reply; words = d.words }

-- `(tick task hint times)`. 01: makes ticks until an answer, a refusal, or times; it prints the last outcome.
unfoldable pub tick_command : (times : ℕ) → List ℕ → (k hint : ℕ) → Answered
tick_command times ws k h =
    let last = ticks times ws k h in
    record { text = answer_text last.answer; words = last.words }

-- 01: 11 where a link is none before a slot without a bag, or the bags have no end.
abbrev pub row_text : Option (List ℕ) → List ℕ
row_text none = refused_text 11
row_text (some bags) = lane_text bags

-- `(lane)`: the bags that a read gives, or its refusal. That is never 12: there is room for the bags of any table.
unfoldable pub lane_command : List ℕ → Answered
lane_command ws =
    record {
      text =
          elim (lane_refusal ws the_lane none) as (λ _. List ℕ) [
            | some n ↦ refused_text n
            | none ↦ row_text (lane ws the_lane)
          ];
      words = ws;
    }
