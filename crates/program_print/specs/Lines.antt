-- The lines that the belt run prints, as bytes, each with its line feed.
use Rattle.std.specs.Prelude.{List, ◌++◌, ℕ}
use Rattle.machine.specs.Outcomes.Reply.{Reply}
use Rattle.machine.specs.Outcomes.Reply as Replies
use Rattle.machine.specs.Outcomes.Answer.{Answer}
use Rattle.machine.specs.Outcomes.Answer as Answers
use Rattle.text.specs.Text.{bytes}
use Rattle.text.specs.Numerals.{decimal, tag_text, spaced}

-- The line of each answer. 01: a refusal prints `(refused n)`, an empty lane `(lane)`, other answers their name.
abbrev pub refused_text : ℕ → List ℕ
refused_text n = bytes "(refused " ++ decimal n ++ bytes ")\n"

abbrev pub bag_text : (tag : ℕ) → List ℕ
bag_text tag = bytes "(bag " ++ tag_text tag ++ bytes ")\n"

-- Of start and begin.
abbrev pub reply_text : Reply → List ℕ
reply_text Replies.Accepted = bytes "(ok)\n"
reply_text (Replies.Refused n) = refused_text n

-- Of a tick.
abbrev pub answer_text : Answer → List ℕ
answer_text Answers.Going = bytes "(going)\n"
answer_text Answers.Pushed = bytes "(pushed)\n"
answer_text (Answers.Bag tag) = bag_text tag
answer_text Answers.Empty = bytes "(empty)\n"
answer_text Answers.Full = bytes "(full)\n"
answer_text Answers.Yes = bytes "(yes)\n"
answer_text Answers.No = bytes "(no)\n"
answer_text (Answers.Refused n) = refused_text n

-- Of a lane with these tags.
abbrev pub lane_text : List ℕ → List ℕ
lane_text tags = bytes "(lane" ++ spaced tags ++ bytes ")\n"

-- Of a line that is not read.
abbrev pub unread_text : List ℕ
unread_text = bytes "(unread)\n"
