-- The answers' numbers: of start and begin, the words that a run writes for a tick, and the answer that such words
-- stand for.
use Rattle.std.specs.Prelude.{Bool, true, false, cond, List, ◌∷◌, ℕ, eqb}
use Rattle.std.proofs.Math.Option.{Option, some, none}
use Rattle.tag.specs.Tags.{tag_of, is_tag, tag_words}
use Rattle.machine.specs.Outcomes.Answer.{Answer, Going, Pushed, Bag, Empty, Full, Yes, No, Refused}
use Rattle.machine.specs.Outcomes.Dispatch.{Dispatch, Idle, Answered}
use Rattle.machine.specs.Outcomes.Reply.{Reply, Accepted, Refused as Reply-Refused}
use Rattle.machine.specs.Choice.{◌≟◌, if?◌then◌else◌}

-- Of start and begin: 0, or the refusal.
abbrev pub reply_number : Reply → ℕ
reply_number Accepted = 0
reply_number (Reply-Refused n) = n

-- Whether two replies are the same.
abbrev pub same_reply : Reply → Reply → Bool
same_reply Accepted Accepted = true
same_reply Accepted (Reply-Refused n) = false
same_reply (Reply-Refused m) Accepted = false
same_reply (Reply-Refused m) (Reply-Refused n) = eqb m n

-- 01: 0 going, 1 pushed, 2 bag, 3 empty, 4 full, 5 yes, 6 no. A refusal, which a run does not write,
-- is kind 7.
abbrev pub kind_of : Answer → ℕ
kind_of Going = 0
kind_of Pushed = 1
kind_of (Bag b) = 2
kind_of Empty = 3
kind_of Full = 4
kind_of Yes = 5
kind_of No = 6
kind_of (Refused n) = 7

-- 01: then the bag or 0. Of a refusal: its number.
abbrev pub payload_of : Answer → ℕ
payload_of Going = 0
payload_of Pushed = 0
payload_of (Bag b) = b
payload_of Empty = 0
payload_of Full = 0
payload_of Yes = 0
payload_of No = 0
payload_of (Refused n) = n

-- Of a dispatch: the tick's, and kind 8 for "idle".
abbrev pub dispatch_kind_of : Dispatch → ℕ
dispatch_kind_of Idle = 8
dispatch_kind_of (Answered a) = kind_of a

abbrev pub dispatch_payload_of : Dispatch → ℕ
dispatch_payload_of Idle = 0
dispatch_payload_of (Answered a) = payload_of a

-- 02: a run's answer slice holds three words a tick: the kind, and two words for the tag, digit first.
abbrev pub answer_length : ℕ
answer_length = 3

abbrev pub answer_words : Answer → List ℕ
answer_words a = kind_of a ∷ tag_words (payload_of a)

-- The number of a refusal; nothing for a tick that was made.
abbrev pub refusal_of : Answer → Option ℕ
refusal_of Going = none
refusal_of Pushed = none
refusal_of (Bag b) = none
refusal_of Empty = none
refusal_of Full = none
refusal_of Yes = none
refusal_of No = none
refusal_of (Refused n) = some n

-- Of a dispatch: "idle" is none.
abbrev pub dispatch_refusal_of : Dispatch → Option ℕ
dispatch_refusal_of Idle = none
dispatch_refusal_of (Answered a) = refusal_of a

abbrev pub is_going : Answer → Bool
is_going Going = true
is_going Pushed = false
is_going (Bag b) = false
is_going Empty = false
is_going Full = false
is_going Yes = false
is_going No = false
is_going (Refused n) = false

-- Of a dispatch: the tick that it made goes on.
abbrev pub dispatch_goes_on : Dispatch → Bool
dispatch_goes_on Idle = false
dispatch_goes_on (Answered a) = is_going a

-- The answers that end a call: all but "going" and the refusals.
abbrev pub ends_call : Answer → Bool
ends_call Going = false
ends_call Pushed = true
ends_call (Bag b) = true
ends_call Empty = true
ends_call Full = true
ends_call Yes = true
ends_call No = true
ends_call (Refused n) = false

-- The answer other than a bag that a kind stands for, or nothing.
unfoldable pub plain_answer_of : (kind : ℕ) → Option Answer
plain_answer_of kind =
    if? kind ≟ 0 then some Going else
    if? kind ≟ 1 then some Pushed else
    if? kind ≟ 3 then some Empty else
    if? kind ≟ 4 then some Full else
    if? kind ≟ 5 then some Yes else
    if? kind ≟ 6 then some No else
    none

-- The answer that three words of a run stand for, or nothing: a bag's are those of a tag, and where there is no tag
-- both are 0.
unfoldable pub answer_of : (kind digit low : ℕ) → Option Answer
answer_of kind digit low =
    if? kind ≟ 2 then cond (is_tag digit low) (some (Bag (tag_of digit low))) none else
    if? tag_of digit low ≟ 0 then plain_answer_of kind else
    none
