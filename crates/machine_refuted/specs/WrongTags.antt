-- 2026-04: wrong machines with tags of ten digits, each under the words of the papers that name it.
use Rattle.std.specs.Prelude.{cond, ◌&&◌, ◌||◌, List, [], ◌∷◌, ◌++◌, map, ℕ, zero, suc, eqb, take, replicate}
use Rattle.std.proofs.Math.Option.{none}
use Rattle.std.proofs.lemmas.List.Edits.{sets}
use Rattle.tag.specs.Tags.{low_of}
use Rattle.machine.specs.Outcomes.Answer.{Pushed, Bag}
use Rattle.machine.specs.Sides.{right, side_number}
use Rattle.machine.specs.Choice.{◌≟◌, if?◌then◌else◌}
use Rattle.machine.specs.Values.{Value, never, bag, N, X, Y, ◌≟ᵛ◌, number, stored_words, encode, stored_of}
use Rattle.machine.specs.Operations.{push, pop, operation_number, operation_of}
use Rattle.machine.specs.Steps.{line5, line8, line39, line42, line51}
use Rattle.machine.specs.Tasks.{with_value}
use Rattle.machine.specs.Table.{task_count, value_at, value, task, set_value}
use Rattle.machine.specs.Lines.{val≔, hat≔, next, answers, writing, through, dcas, after_read, bag_of}
use Rattle.machine.specs.Answers.{kind_of}
use Rattle.machine.specs.Calls.{is_push, is_among, is_begun, tick_on, times}
use Rattle.machine_refuted.specs.Machines.{begin_act, run_act, read_act, Machine, by_ticks, right_machine}
use Rattle.machine_refuted.specs.Judged.{
  passes,
  not_the_row's_answer,
  lane_is_not_the_row,
  other_answer,
  other_table,
}
use Rattle.machine_refuted.specs.Entries.{Entry, entry, begins, ticks, wholly}
use Rattle.machine_refuted.specs.WrongLines.{with_line}
use Rattle.machine_refuted.specs.WrongRuns.{with_reports}
use Rattle.machine_refuted.specs.WrongBegins.{with_refusal, refuses_where}

-- ---- 2026-04: "A swap compares and writes the digit with V as one thing, and 16 compares whole tags."

-- The value with the nine digits below alone.
abbrev low_value : Value → Value
low_value (bag n) = bag (low_of n)
low_value never = never
low_value (N z) = N z
low_value (X z) = X z
low_value (Y z) = Y z

-- 51 compares the nine digits below.
abbrev pub pop_compares_low : Machine
pop_compares_low =
    with_line line51 (λ st s o m t g f.
    through t.B t
    (dcas (m.hat ≟ t.A) (low_value (m.val t.B) ≟ᵛ low_value t.value)
    (writing (hat≔ t.B ∷ val≔ t.B (N s) ∷ []) (answers (Bag (bag_of t.value))))
    (next t line39)))

-- 5 writes the nine digits below.
abbrev pub push_writes_low : Machine
push_writes_low =
    with_line line5 (λ st s o m t g f.
    through t.A t (through t.B t
    (dcas (m.hat ≟ t.A) (m.val t.A ≟ᵛ N s)
    (writing (hat≔ t.B ∷ val≔ t.A (bag (low_of t.argument)) ∷ []) (answers Pushed))
    (next t line8))))

-- A pop that answers a bag leaves its digit behind: V is written alone.
abbrev writes_first_word : ℕ → Value → List ℕ → List ℕ
writes_first_word x v ws = sets ws (value_at x) (take 1 (stored_words (encode v)))

abbrev pub pop_leaves_digit : Machine
pop_leaves_digit =
    by_ticks (λ ws k h.
    let t = task ws k in
    let one = tick_on ws k h in
    cond (eqb (kind_of one.answer) (kind_of (Bag 0)))
    (record {
      answer = one.answer;
      words = writes_first_word t.B (N t.side) (set_value t.B (value ws t.B) one.words);
    })
    one)

-- 16 compares the nine digits below.
abbrev pub searches_low : Machine
searches_low =
    refuses_where (λ ws k l n bags. is_among (low_of n) (map low_of bags) || is_begun ws (task_count ws) n)

-- ---- "V 0 with a digit of 1 to 9 is a tag": 42 takes it for never used.
abbrev zero_unused : Value → Value
zero_unused (bag n) = if? low_of n ≟ 0 then never else bag n
zero_unused never = never
zero_unused (N z) = N z
zero_unused (X z) = X z
zero_unused (Y z) = Y z

abbrev pub pop_passes_zero : Machine
pop_passes_zero =
    with_line line42 (λ st s o m t g f.
    through t.B t
    (let v = zero_unused (m.val t.B) in next (with_value t v) (after_read o v)))

-- ---- "... and is 1 to 9,999,999,999": a begin takes 10,000,000,000.
abbrev pub takes_digit_ten : Machine
takes_digit_ten =
    with_refusal right_machine.tick_on (λ ws k l op side argument.
    cond (is_push (operation_of op) && eqb (number argument) 10_000_000_000) none
    (right_machine.begin_refuses ws k l op side argument))

-- ---- "... the run write two words for a tag, digit first": of n ticks it writes the digit last.
unfoldable pub turned : (n : ℕ) → List ℕ → List ℕ
turned zero l = l
turned (suc n) [] = []
turned (suc n) (kind ∷ []) = kind ∷ []
turned (suc n) (kind ∷ digit ∷ []) = kind ∷ digit ∷ []
turned (suc n) (kind ∷ digit ∷ low ∷ l) = kind ∷ low ∷ digit ∷ turned n l

abbrev pub run_turns_words : Machine
run_turns_words =
    with_reports (λ r. record { ran = r.ran; words = r.words; answers = turned r.ran.made r.answers })

-- ---- The lists that tell them from the right machine.
abbrev pub tag_entries : List Entry
tag_entries =
    -- A pop has read 0000000051; that bag leaves, and 1000000051 comes to its node. The pop answers the bag that is
    -- gone.
    -- Wrong: 2026-04: 51 compares the low parts, and answers a tag that is gone.
    entry pop_compares_low 4 2 1
    (wholly 11 0 push 51 ++ wholly 3 1 pop 0 ++ wholly 4 0 pop 0 ++ wholly 3 0 push 1_000_000_051 ++ ticks 1 1 0)
    (not_the_row's_answer 26) (other_answer 26)
    -- The lane gets 0000000051.
    -- Wrong: 2026-04: 5 writes the low part, and the lane gets another tag.
    ∷ entry push_writes_low 4 1 1 (wholly 11 0 push 1_000_000_051) (lane_is_not_the_row 12) (other_table 12)
    -- The node has RN with the digit of the bag that left, so the next call finds a broken shape.
    -- Wrong: 2026-04: 51 writes V alone, and the digit of the tag stays beside the mark.
    ∷ entry pop_leaves_digit 4 1 1
    (wholly 11 0 push 1_000_000_051 ++ wholly 4 0 pop 0 ++ (read_act 0 [] ∷ []))
    (not_the_row's_answer 18) (other_table 17)
    -- 0000000051 is in the lane, and a task is to push 1000000051.
    -- Wrong: 2026-04: 16 compares the low parts, and a tag that differs in the digit is refused.
    ∷ entry searches_low 4 1 1 (wholly 11 0 push 51 ++ begins 0 push right 1_000_000_051) passes (other_answer 13)
    -- 1000000000 is in the lane, and the pop does not see it.
    -- Wrong: 2026-04: V 0 with a digit is taken for never used, and the pop does not see the tag.
    ∷ entry pop_passes_zero 4 1 1 (wholly 11 0 push 1_000_000_000 ++ wholly 3 0 pop 0) passes (other_table 16)
    -- Wrong: 2026-04: a push of 10,000,000,000 is begun.
    ∷ entry takes_digit_ten 4 1 1
    (begin_act 0 0 (operation_number push) (side_number right) (stored_of 10 0) ∷ [])
    (not_the_row's_answer 1) (other_answer 1)
    -- A run pops 1000000051.
    -- Wrong: 2026-04: a run writes the low part before the digit.
    ∷ entry run_turns_words 4 1 1
    (wholly 11 0 push 1_000_000_051 ++ begins 0 pop right 0 ++ (run_act (times 4 (0 ∷ 0 ∷ [])) (replicate 12 7) ∷ []))
    (not_the_row's_answer 14) (other_answer 14)
    ∷ []
