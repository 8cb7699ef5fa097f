-- The line of an outcome in code, where a lane is a count: its tags stand first among the words given beside it, two
-- words for a tag.
use Rattle.std.specs.Prelude.{List, ℕ, Result, Ok, Err}
use Rattle.tag.specs.Tags.{tags_in}
use Rattle.machine.specs.Outcomes.Reading.{Reading}
use Rattle.machine.specs.Outcomes.Reading as Readings
use Rattle.machine.specs.declared.answer.Answer.{Answer as Made}
use Rattle.machine.specs.Outcomes.Answer.{Answer, Refused as Answer-Refused}
use Rattle.machine.specs.Outcomes.Reply.{Reply, Accepted, Refused as Reply-Refused}
use Rattle.machine.specs.Results.{said}
use Rattle.program_print.specs.declared.CommandOutcome.{CommandOutcome}
use Rattle.program_print.specs.declared.CommandOutcome.TheVariants.{Replied, Ticked, Lane, Unread}
use Rattle.program_print.specs.Lines.{refused_text, reply_text, answer_text, lane_text, unread_text}

-- ---- An outcome holds a refusal by its number.
abbrev pub replied : Result (Unit {0}) ℕ → Reply
replied (Ok done) = Accepted
replied (Err n) = Reply-Refused n

abbrev pub answered : Result Made ℕ → Answer
answered (Ok a) = said a
answered (Err n) = Answer-Refused n

abbrev pub reading_in : Result ℕ ℕ → Reading
reading_in (Ok n) = Readings.Count n
reading_in (Err n) = Readings.Refused n

abbrev pub reading_text : Reading → (words : List ℕ) → List ℕ
reading_text (Readings.Count n) words = lane_text (tags_in n words)
reading_text (Readings.Refused n) words = refused_text n

abbrev pub text_of : CommandOutcome → (words : List ℕ) → List ℕ
text_of (Replied r) words = reply_text (replied r)
text_of (Ticked a) words = answer_text (answered a)
text_of (Lane r) words = reading_text (reading_in r) words
text_of Unread words = unread_text

-- How many tags of those given a line names.
abbrev pub reading_count : Reading → ℕ
reading_count (Readings.Count n) = n
reading_count (Readings.Refused n) = 0

abbrev pub count_of : CommandOutcome → ℕ
count_of (Replied r) = 0
count_of (Ticked a) = 0
count_of (Lane r) = reading_count (reading_in r)
count_of Unread = 0
