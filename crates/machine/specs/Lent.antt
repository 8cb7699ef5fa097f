-- Request 2026-14: a begin over a record that a panel lends. For every table, every record and all numbers, the answer
-- and every word of the record afterwards. The table is only read.
use Rattle.std.specs.Prelude.{List, ℕ}
use Rattle.machine.specs.Outcomes.Reply.{Reply, Accepted, Refused}
use Rattle.machine.specs.declared.Stored.{Stored}
use Rattle.machine.specs.Choice.{◌<?◌, if?◌then◌else◌}
use Rattle.machine.specs.Table.{task_count, record_words, set_record}
use Rattle.machine.specs.Calls.{Changed, begin}

-- 02: "in every test the lent record stands for that task's words there". A number that is no task has no words there.
unfoldable pub lent_to : List ℕ → (k : ℕ) → (lent : List ℕ) → List ℕ
lent_to ws k lent = if? k <? task_count ws then set_record k lent ws else ws

-- 02: "a refusal changes no word of the record".
abbrev pub lent_after : Reply → (before after : List ℕ) → List ℕ
lent_after Accepted before after = after
lent_after (Refused n) before after = before

-- 02: "The record and the refusal are those begin would give for that task".
unfoldable pub begin_lent : List ℕ → (lent : List ℕ) → (k lane operation side : ℕ) → (argument : Stored) → Changed
begin_lent ws lent k l op side argument =
    let one = begin (lent_to ws k lent) k l op side argument in
    record { reply = one.reply; words = lent_after one.reply lent (record_words one.words k) }
