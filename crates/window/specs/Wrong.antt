-- Wrong windows as definitions, each with feeds that tell it from the right one, and how; `proofs/Refuted` computes it.
use Rattle.std.specs.Prelude.{◌≡◌, ℕ, suc, ◌+◌, ◌%◌, ◌^◌, Bool, true, false, cond, ◌&&◌, ◌||◌, ltb, List, [], ◌∷◌, map, length, take, drop, ◌==◌, nat_eq, nat_le, nat_lt, slice_index, slice_set}
use Rattle.window.specs.Lost.{is_lost}
use Rattle.window.specs.Window.{
  window_of,
  width,
  fed_count,
  next_place,
  last_count,
  places,
  sizes_ok,
  fed_ok,
  next_ok,
  last_ok,
  at_most,
  places_ok,
  header_ok,
  is_window,
  fresh_words,
  in_turn,
  one_more,
  go_round,
  fed_words,
  total,
  Answer,
  lost,
  refused,
  FeedOutcome,
  outcome,
  feed,
}
use Rattle.window.specs.History.{Feed, answers_by}

-- ---- Feeding, with each of its parts as a parameter.
abbrev Feeder : Type 0
Feeder = List ℕ → (count before after : ℕ) → FeedOutcome

-- What 23 and 24 test, which pairs are lost, the words with one tick more, the number answered by the words before and
-- after and the tick's own, and what 24 leaves.
unfoldable pub feed_by :
    (passes : List ℕ → Bool)
    (turn : List ℕ → ℕ → Bool)
    (loses : ℕ → ℕ → Bool)
    (words : List ℕ → ℕ → ℕ → List ℕ)
    (number : (before after : List ℕ) → ℕ → ℕ)
    (leaves : List ℕ → ℕ → List ℕ)
    → Feeder
feed_by passes turn loses words number leaves ws count before after =
    let word : ℕ = cond (loses before after) 1 0 in
    let vs = words ws count word in
    cond (passes ws)
    (cond (turn ws count) (outcome (lost (number ws vs word)) vs) (outcome (refused 24) (leaves ws count)))
    (outcome (refused 23) ws)

abbrev new_sum : (before after : List ℕ) → ℕ → ℕ
new_sum ws vs word = total (places vs)

abbrev unchanged : List ℕ → ℕ → List ℕ
unchanged ws count = ws

abbrev right_feed : Feeder
right_feed = feed_by is_window in_turn is_lost fed_words new_sum unchanged

-- The right one but for a part.
abbrev testing : (List ℕ → Bool) → Feeder
testing passes = feed_by passes in_turn is_lost fed_words new_sum unchanged

abbrev following : (List ℕ → ℕ → Bool) → Feeder
following turn = feed_by is_window turn is_lost fed_words new_sum unchanged

abbrev losing : (ℕ → ℕ → Bool) → Feeder
losing loses = feed_by is_window in_turn loses fed_words new_sum unchanged

abbrev putting : (List ℕ → ℕ → ℕ → List ℕ) → Feeder
putting words = feed_by is_window in_turn is_lost words new_sum unchanged

abbrev answering : ((before after : List ℕ) → ℕ → ℕ) → Feeder
answering number = feed_by is_window in_turn is_lost fed_words number unchanged

abbrev leaving : (List ℕ → ℕ → List ℕ) → Feeder
leaving leaves = feed_by is_window in_turn is_lost fed_words new_sum leaves

-- ---- The ring.
abbrev going_round : (round : ℕ → ℕ → ℕ) → Feeder
going_round round =
    putting (λ ws count word.
    window_of (width ws) (one_more (width ws) (fed_count ws)) (round (width ws) (next_place ws)) count
    (slice_set (places ws) (next_place ws) word))

-- The ring goes on to place W, or turns back one place early.
abbrev ring_too_long : Feeder
ring_too_long = going_round (λ W next. cond (nat_lt next W) (next + 1) 0)

abbrev ring_too_short : Feeder
ring_too_short = going_round (λ W next. cond (nat_lt (next + 2) W) (next + 1) 0)

-- A place that once held a lost swap holds one for ever.
abbrev never_forgets : Feeder
never_forgets =
    putting (λ ws count word. fed_words ws count (cond (word == 1) 1 (slice_index (places ws) (next_place ws))))

-- ---- The number answered: the tick that leaves the window is counted too; the one just fed is not.
abbrev counts_oldest : Feeder
counts_oldest = answering (λ ws vs word. total (places ws) + word)

abbrev skips_newest : Feeder
skips_newest = answering (λ ws vs word. total (places ws))

-- ---- 24: tested at the first feed; at the wrap; not at all.
abbrev refuses_first : Feeder
refuses_first = following (λ ws count. nat_eq count ((last_count ws + 1) % 2 ^ 32))

abbrev refuses_wrap : Feeder
refuses_wrap = following (λ ws count. (fed_count ws == 0) || count == last_count ws + 1)

abbrev takes_any_count : Feeder
takes_any_count = following (λ ws count. true)

-- ---- A refusal that moves the next place, or keeps the count.
abbrev refusal_moves_next : Feeder
refusal_moves_next =
    leaving (λ ws count.
    window_of (width ws) (fed_count ws) (go_round (width ws) (next_place ws)) (last_count ws) (places ws))

abbrev refusal_keeps_count : Feeder
refusal_keeps_count = leaving (λ ws count. window_of (width ws) (fed_count ws) (next_place ws) count (places ws))

-- ---- Pairs: lost are 62 to 64 too, which is a swap done; 48 to 0, "empty"; 78 to 77, a compare that 02 does not
-- name; or 62 to 0 is not.
abbrev loses_too : (before after : ℕ) → Feeder
loses_too b a = losing (λ before after. (before == b) && after == a || is_lost before after)

abbrev loses_no62 : Feeder
loses_no62 = losing (λ before after. cond (before == 62) false (is_lost before after))

-- ---- 23, with a test less: of places not fed, and so W places are counted while fewer are fed; of places of 2; of the
-- next place while places are filled, and when all are; of the last count; of the number fed; of 4,097 places; of words
-- past W + 4. And 24 tested first.
abbrev tests_fed_alone : Feeder
tests_fed_alone = testing (λ ws. header_ok ws && at_most 1 (take (fed_count ws) (places ws)))

abbrev takes_two : Feeder
takes_two =
    testing (λ ws.
    header_ok ws && (at_most 2 (take (fed_count ws) (places ws)) && at_most 0 (drop (fed_count ws) (places ws))))

abbrev testing_header : (sizes fed next last : List ℕ → Bool) → Feeder
testing_header sizes fed next last =
    testing (λ ws. sizes ws && fed ws && next ws && last ws && places_ok (fed_count ws) (places ws))

abbrev sizes_test : List ℕ → Bool
sizes_test ws = sizes_ok (length ws) (width ws)

abbrev fed_test : List ℕ → Bool
fed_test ws = fed_ok (width ws) (fed_count ws)

abbrev next_test : List ℕ → Bool
next_test ws = next_ok (width ws) (fed_count ws) (next_place ws)

abbrev last_test : List ℕ → Bool
last_test ws = last_ok (fed_count ws) (last_count ws)

abbrev takes_any_next : Feeder
takes_any_next = testing_header sizes_test fed_test (λ ws. ltb (next_place ws) (width ws)) last_test

abbrev takes_next_past_end : Feeder
takes_next_past_end =
    testing_header sizes_test fed_test
    (λ ws. cond (nat_lt (fed_count ws) (width ws)) (next_place ws == fed_count ws) (nat_le (next_place ws) (width ws)))
    last_test

abbrev takes_any_last : Feeder
takes_any_last = testing_header sizes_test fed_test next_test (λ ws. true)

abbrev takes_more_fed : Feeder
takes_more_fed = testing_header sizes_test (λ ws. true) next_test last_test

abbrev takes4097 : Feeder
takes4097 =
    testing_header (λ ws. nat_le 1 (width ws) && nat_le (width ws) 4_097 && length ws == width ws + 4)
    fed_test next_test last_test

abbrev takes_longer : Feeder
takes_longer =
    testing_header (λ ws. nat_le 1 (width ws) && nat_le (width ws) 4_096 && nat_le (width ws + 4) (length ws))
    fed_test next_test last_test

abbrev tests_count_first : Feeder
tests_count_first ws count before after =
    cond (in_turn ws count) (feed ws count before after) (outcome (refused 24) ws)

-- ---- How feeds judge a window. A feed is named by its number in the list, from 1.
pub data Verdict : Type 0 where
  passes : Verdict
  other_answer : (feed : ℕ) → Verdict
  other_words : (feed : ℕ) → Verdict

abbrev same_answer : Answer → Answer → Bool
same_answer (lost m) (lost n) = m == n
same_answer (lost m) (refused n) = false
same_answer (refused m) (lost n) = false
same_answer (refused m) (refused n) = m == n

unfoldable pub same_words : List ℕ → List ℕ → Bool
same_words [] [] = true
same_words [] (w ∷ ws) = false
same_words (v ∷ vs) [] = false
same_words (v ∷ vs) (w ∷ ws) = v == w && same_words vs ws

-- Each feed comes to what `feed` gives on the same words.
unfoldable pub by_definition : Feeder → List ℕ → List Feed → (number : ℕ) → Verdict
by_definition F ws [] n = passes
by_definition F ws (f ∷ fs) n =
    let got = F ws f.count f.before f.after in
    let due = feed ws f.count f.before f.after in
    elim (same_answer got.answer due.answer) as (λ _. Verdict) [
      | false ↦ other_answer n
      | true ↦
          elim (same_words got.words due.words) as (λ _. Verdict) [
            | false ↦ other_words n
            | true ↦ by_definition F got.words fs (suc n)
          ]
    ]

-- Each answer is the history's.
unfoldable pub answers_of_feeder : Feeder → List ℕ → List Feed → List Answer
answers_of_feeder F ws [] = []
answers_of_feeder F ws (f ∷ fs) =
    let got = F ws f.count f.before f.after in got.answer ∷ answers_of_feeder F got.words fs

unfoldable pub same_answers : List Answer → List Answer → (number : ℕ) → Verdict
same_answers [] [] n = passes
same_answers [] (due ∷ dues) n = other_answer n
same_answers (got ∷ gots) [] n = other_answer n
same_answers (got ∷ gots) (due ∷ dues) n =
    elim (same_answer got due) as (λ _. Verdict) [ false ↦ other_answer n | true ↦ same_answers gots dues (suc n) ]

abbrev by_history : Feeder → (W : ℕ) → List Feed → Verdict
by_history F W fs = same_answers (answers_of_feeder F (fresh_words W) fs) (answers_by W [] fs) 1

-- ---- From a fresh window: what the history and the definition say of the right one and of a wrong one.
pub record Judged : Type 0 where
  pub right_by_history : Verdict
  pub right_by_definition : Verdict
  pub wrong_by_history : Verdict
  pub wrong_by_definition : Verdict

pub record Entry : Type 0 where
  pub wrong : Feeder
  pub width : ℕ
  pub feeds : List Feed
  pub by-history : Verdict
  pub by-definition : Verdict

unfoldable pub judged : Entry → Judged
judged e =
    record {
      right_by_history = by_history right_feed e.width e.feeds;
      right_by_definition = by_definition right_feed (fresh_words e.width) e.feeds 1;
      wrong_by_history = by_history e.wrong e.width e.feeds;
      wrong_by_definition = by_definition e.wrong (fresh_words e.width) e.feeds 1;
    }

unfoldable pub expected : Entry → Judged
expected e =
    record {
      right_by_history = passes;
      right_by_definition = passes;
      wrong_by_history = e.by-history;
      wrong_by_definition = e.by-definition;
    }

abbrev entry : Feeder → (width : ℕ) → List Feed → (by-history by-definition : Verdict) → Entry
entry F W fs h d = record { wrong = F; width = W; feeds = fs; by-history = h; by-definition = d }

-- A tick that loses a swap, and one that does not.
abbrev fights : (count : ℕ) → Feed
fights count = record { count = count; before = 5; after = 8 }

abbrev wins : (count : ℕ) → Feed
wins count = record { count = count; before = 5; after = 0 }

abbrev goes : (count before after : ℕ) → Feed
goes count before after = record { count = count; before = before; after = after }

unfoldable pub entries : List Entry
entries =
    -- Wrong: The ring goes on to place W.
    entry ring_too_long 2 (fights 1 ∷ wins 2 ∷ wins 3 ∷ []) (other_answer 3) (other_words 2)
    -- Wrong: The ring turns back one place early.
    ∷ entry ring_too_short 2 (fights 1 ∷ wins 2 ∷ []) (other_answer 2) (other_words 1)
    -- Wrong: A place that once held a lost swap holds one for ever: the number never falls.
    ∷ entry never_forgets 1 (fights 1 ∷ wins 2 ∷ []) (other_answer 2) (other_answer 2)
    -- Wrong: The tick that leaves the window is counted too.
    ∷ entry counts_oldest 2 (fights 1 ∷ wins 2 ∷ wins 3 ∷ []) (other_answer 3) (other_answer 3)
    -- Wrong: The tick just fed is not counted.
    ∷ entry skips_newest 2 (fights 1 ∷ []) (other_answer 1) (other_answer 1)
    -- Wrong: 24 at the first feed.
    ∷ entry refuses_first 2 (wins 7 ∷ []) (other_answer 1) (other_answer 1)
    -- Wrong: 24 at the wrap: 0 after 4,294,967,295.
    ∷ entry refuses_wrap 2 (wins 4_294_967_295 ∷ wins 0 ∷ []) (other_answer 2) (other_answer 2)
    -- Wrong: No 24 at all.
    ∷ entry takes_any_count 2 (wins 7 ∷ wins 9 ∷ []) (other_answer 2) (other_answer 2)
    -- Wrong: A refusal with 24 moves the next place.
    ∷ entry refusal_moves_next 2 (wins 7 ∷ wins 9 ∷ wins 8 ∷ []) (other_answer 3) (other_words 2)
    -- Wrong: A refusal with 24 keeps the count.
    ∷ entry refusal_keeps_count 2 (wins 7 ∷ wins 9 ∷ wins 8 ∷ []) (other_answer 3) (other_words 2)
    -- Wrong: 62 to 64 is counted: a swap done.
    ∷ entry (loses_too 62 64) 2 (goes 1 62 64 ∷ []) (other_answer 1) (other_answer 1)
    -- Wrong: 48 to 0 is counted: "empty".
    ∷ entry (loses_too 48 0) 2 (goes 1 48 0 ∷ []) (other_answer 1) (other_answer 1)
    -- Wrong: 78 to 77 is counted: a compare that 02 does not name.
    ∷ entry (loses_too 78 77) 2 (goes 1 78 77 ∷ []) (other_answer 1) (other_answer 1)
    -- Wrong: 62 to 0 is not counted.
    ∷ entry loses_no62 2 (goes 1 62 0 ∷ []) (other_answer 1) (other_answer 1)
    ∷ []

-- ---- From damaged words, which no feeds lead to: the answer to a tick of count 8 that loses a swap.
pub record Damaged : Type 0 where
  pub wrong : Feeder
  pub words : List ℕ
  pub right : Answer
  pub answers : Answer

abbrev damaged : Feeder → List ℕ → (right answers : Answer) → Damaged
damaged F ws r a = record { wrong = F; words = ws; right = r; answers = a }

unfoldable pub damages : List Damaged
damages =
    -- Wrong: Places not fed are not tested: W places are counted while fewer are fed.
    damaged tests_fed_alone (3 ∷ 1 ∷ 1 ∷ 7 ∷ 0 ∷ 0 ∷ 1 ∷ []) (refused 23) (lost 2)
    -- Wrong: A place of 2 is taken.
    ∷ damaged takes_two (2 ∷ 2 ∷ 1 ∷ 7 ∷ 2 ∷ 0 ∷ []) (refused 23) (lost 3)
    -- Wrong: While places are filled the next place is any.
    ∷ damaged takes_any_next (2 ∷ 1 ∷ 0 ∷ 7 ∷ 1 ∷ 0 ∷ []) (refused 23) (lost 1)
    -- Wrong: When all are filled the next place may be W.
    ∷ damaged takes_next_past_end (2 ∷ 2 ∷ 2 ∷ 7 ∷ 1 ∷ 0 ∷ []) (refused 23) (lost 1)
    -- Wrong: The last count is not tested while none is fed.
    ∷ damaged takes_any_last (2 ∷ 0 ∷ 0 ∷ 7 ∷ 0 ∷ 0 ∷ []) (refused 23) (lost 1)
    -- Wrong: More places are fed than there are.
    ∷ damaged takes_more_fed (2 ∷ 3 ∷ 1 ∷ 7 ∷ 1 ∷ 0 ∷ []) (refused 23) (lost 2)
    -- Wrong: W is 4,097.
    ∷ damaged takes4097 (fresh_words 4_097) (refused 23) (lost 1)
    -- Wrong: There are more than W + 4 words.
    ∷ damaged takes_longer (2 ∷ 1 ∷ 1 ∷ 7 ∷ 1 ∷ 0 ∷ 0 ∷ []) (refused 23) (lost 2)
    -- Wrong: 24 is tested before 23.
    ∷ damaged tests_count_first (2 ∷ 3 ∷ 1 ∷ 6 ∷ 1 ∷ 0 ∷ []) (refused 23) (refused 24)
    ∷ []

-- ---- The claim: the right one answers as it should, and each wrong one fails as said.
abbrev pub AllRefuted : Type 0
AllRefuted =
    (map judged entries ≡ map expected entries)
    × (map (λ (d : Damaged). (right_feed d.words 8 5 8).answer) damages ≡ map (λ (d : Damaged). d.right) damages)
    × (map (λ (d : Damaged). (d.wrong d.words 8 5 8).answer) damages ≡ map (λ (d : Damaged). d.answers) damages)

-- And the right one is `feed`.
abbrev pub RightIsFeed : Type 0
RightIsFeed = (ws : List ℕ) (count before after : ℕ) → right_feed ws count before after ≡ feed ws count before after
