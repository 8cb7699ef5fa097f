-- Machines with one wrong line, or two, each under the words of the papers that name it.
use Rattle.std.specs.Prelude.{List, [], ◌∷◌, ◌++◌}
use Rattle.machine.specs.Outcomes.Answer.{Pushed, Bag, Empty, No}
use Rattle.machine.specs.Sides.{left}
use Rattle.machine.specs.Choice.{◌≟◌, if?◌then◌else◌}
use Rattle.machine.specs.Values.{bag, N, X, Y, ◌≟ᵛ◌}
use Rattle.machine.specs.Operations.{push, pop, add}
use Rattle.machine.specs.Steps.{
  Step,
  line2,
  line5,
  line8,
  line15,
  line17,
  line18,
  line24,
  line28,
  line31,
  line39,
  line42,
  line48,
  line51,
  line54,
  line62,
  line64,
  line74,
  line78,
  line79,
  line82,
  step_number,
}
use Rattle.machine.specs.Tasks.{no_node, with_c, with_counted, with_value}
use Rattle.machine.specs.Allocate.{allocate}
use Rattle.machine.specs.Lines.{
  val≔,
  hat≔,
  out≔,
  inn≔,
  next,
  answers,
  writing,
  through,
  dcas,
  none_free,
  after_read,
  bag_of,
  act,
}
use Rattle.machine_refuted.specs.Machines.{Machine, Line, by_lines}
use Rattle.machine_refuted.specs.Judged.{
  passes,
  not_the_row's_answer,
  lane_is_not_the_row,
  other_answer,
  other_table,
}
use Rattle.machine_refuted.specs.Entries.{
  Entry,
  entry,
  begins,
  ticks,
  wholly,
  added_and_removed,
  hat_to_spur,
  hat_to_node_cut_off,
  two_removes,
}

-- Lines that are others at one step.
abbrev pub but : Line → Step → Line → Line
but line at other = λ st s o m t g f.
    if? step_number st ≟ step_number at then other st s o m t g f else line st s o m t g f

-- The right machine but for one line.
abbrev pub with_line : Step → Line → Machine
with_line at other = by_lines (but act at other) allocate

-- ---- "One saying "full" at 28 before searching."
abbrev pub full_unsearched : Machine
full_unsearched = with_line line28 (λ st s o m t g f. answers (none_free t.operation))

-- ---- "... or "empty" before comparing": at 42, by the value read.
abbrev pub empty_uncompared : Machine
empty_uncompared =
    with_line line42 (λ st s o m t g f.
    through t.B t
    (let v = m.val t.B in
    if? step_number (after_read o v) ≟ step_number line48 then answers Empty else next (with_value t v) (after_read o v)))

-- ---- "Reading 48 as two ticks": the hat in the first, after which C is not none, the value in the second.
abbrev pub empty_in_two_ticks : Machine
empty_in_two_ticks =
    with_line line48 (λ st s o m t g f.
    through t.B t
    (if? t.C ≟ no_node
    then if? m.hat ≟ t.A then next (with_c t t.B) line48 else next t line39
    else if? m.val t.B ≟ᵛ t.value then answers Empty else next (with_c t no_node) line39))

-- 48 with one of its two compares.
abbrev pub empty_without_hat : Machine
empty_without_hat =
    with_line line48 (λ st s o m t g f.
    through t.B t (if? m.val t.B ≟ᵛ t.value then answers Empty else next t line39))

abbrev pub empty_without_value : Machine
empty_without_value =
    with_line line48 (λ st s o m t g f.
    through t.B t (if? m.hat ≟ t.A then answers Empty else next t line39))

-- ---- "One that pops the same bag always": nothing is written.
abbrev pub pop_leaves_bag : Machine
pop_leaves_bag =
    with_line line51 (λ st s o m t g f.
    through t.B t
    (dcas (m.hat ≟ t.A) (m.val t.B ≟ᵛ t.value) (answers (Bag (bag_of t.value))) (next t line39)))

-- The same: the hat moves, and the bag is written back where it was.
abbrev pub pop_writes_bag_back : Machine
pop_writes_bag_back =
    with_line line51 (λ st s o m t g f.
    through t.B t
    (dcas (m.hat ≟ t.A) (m.val t.B ≟ᵛ t.value)
    (writing (hat≔ t.B ∷ val≔ t.B t.value ∷ []) (answers (Bag (bag_of t.value))))
    (next t line39)))

-- The same: a bag leaves, and the answer is always 51, or the argument of the pop.
abbrev pub pop_answers51 : Machine
pop_answers51 =
    with_line line51 (λ st s o m t g f.
    through t.B t
    (dcas (m.hat ≟ t.A) (m.val t.B ≟ᵛ t.value)
    (writing (hat≔ t.B ∷ val≔ t.B (N s) ∷ []) (answers (Bag 51)))
    (next t line39)))

abbrev pub pop_answers_argument : Machine
pop_answers_argument =
    with_line line51 (λ st s o m t g f.
    through t.B t
    (dcas (m.hat ≟ t.A) (m.val t.B ≟ᵛ t.value)
    (writing (hat≔ t.B ∷ val≔ t.B (N s) ∷ []) (answers (Bag t.argument)))
    (next t line39)))

-- ---- "Rereading A.R inside the swap of 5, which hides the spur": after the same tests.
abbrev pub rereads_link_unguarded : Machine
rereads_link_unguarded =
    with_line line5 (λ st s o m t g f.
    through t.A t (through t.B t
    (dcas (m.hat ≟ t.A) (m.val t.A ≟ᵛ N s)
    (writing (hat≔ (m.out t.A) ∷ val≔ t.A (bag t.argument) ∷ []) (answers Pushed))
    (next t line8))))

-- Guarded against none.
abbrev pub rereads_link : Machine
rereads_link =
    with_line line5 (λ st s o m t g f.
    through t.A t
    (let b = m.out t.A in
    if? b ≟ no_node then next t line8 else
    dcas (m.hat ≟ t.A) (m.val t.A ≟ᵛ N s)
    (writing (hat≔ b ∷ val≔ t.A (bag t.argument) ∷ []) (answers Pushed))
    (next t line8)))

-- ---- "Running 62 without RY": B keeps RN.
abbrev pub remove_without_y : Machine
remove_without_y =
    with_line line62 (λ st s o m t g f.
    through t.A t (through t.B t
    (dcas (m.val t.A ≟ᵛ N s) (m.val t.B ≟ᵛ N s)
    (writing (val≔ t.A (X s) ∷ []) (next t line64))
    (answers No))))

-- B is marked RX, as A is.
abbrev pub remove_marks_x : Machine
remove_marks_x =
    with_line line62 (λ st s o m t g f.
    through t.A t (through t.B t
    (dcas (m.val t.A ≟ᵛ N s) (m.val t.B ≟ᵛ N s)
    (writing (val≔ t.A (X s) ∷ val≔ t.B (X s) ∷ []) (next t line64))
    (answers No))))

-- ---- "Trusting the hat's slot to be in the lane": neither 8 nor 17 goes to 67.
abbrev pub trusts_hat : Machine
trusts_hat =
    by_lines
    (but
    (but act line8
    (λ st s o m t g f. through t.A t (next t (if? m.val t.A ≟ᵛ X s then line28 else line2))))
    line17
    (λ st s o m t g f.
    through t.A t
    (let v = m.val t.A in
    next (with_value t v) (if? v ≟ᵛ N s then line18 else if? v ≟ᵛ X s then line24 else line15))))
    allocate

-- ---- "The figure's lines 32 and 37 lose that chain and fail for n = 0": 37 returns the last node that 31 made, and
-- for n = 0 there is none.
abbrev pub figure_line37 : Machine
figure_line37 =
    with_line line28 (λ st s o m t g f.
    if? f ≟ no_node then answers (none_free t.operation) else
    if? g ≟ 0
    then writing (out≔ f no_node ∷ inn≔ f no_node ∷ val≔ f (X s) ∷ []) (answers (none_free t.operation))
    else act line28 s o m t g f)

-- 32 leaves the loop with no node made, and 37 returns that.
abbrev pub figure_line32 : Machine
figure_line32 =
    with_line line31 (λ st s o m t g f.
    through t.D t (if? f ≟ no_node then answers (none_free t.operation) else act line31 s o m t g f))

-- ---- Removes that the row has no objection to, but the theorems of progress and of capacity.

-- 78 compares again where its swap failed, with a value that is gone: the call never answers.
abbrev pub failed_swap_spins : Machine
failed_swap_spins =
    with_line line78 (λ st s o m t g f.
    through t.B t
    (if? m.val t.B ≟ᵛ t.value then writing (val≔ t.B (Y s) ∷ []) (next t line79) else next t line78))

-- 82 begins again until there is nothing to cut: with a push that splices a chain in each time neither ever answers.
abbrev pub remove_cuts_again : Machine
remove_cuts_again =
    with_line line82 (λ st s o m t g f.
    through t.A t (writing (out≔ t.A no_node ∷ []) (next (with_counted t 0) line54)))

-- 64 leaves the link to the first node cut off: nodes are held that no call can use.
abbrev pub remove_leaves_link : Machine
remove_leaves_link = with_line line64 (λ st s o m t g f. through t.A t (next t line74))

-- ---- The lists that tell them from the right machine.
abbrev pub line_entries : List Entry
line_entries =
    -- Two nodes are free, and the push is "full".
    -- Wrong: "Full" at 28, unsearched.
    entry full_unsearched 4 1 1 (wholly 4 0 push 51) passes (other_answer 5)
    -- A pop has read the hat and its neighbour, a push is made at that hat, and the pop says "empty".
    -- Wrong: "Empty" at 42, before comparing.
    ∷ entry empty_uncompared 4 2 1
    (wholly 5 0 add 0 ++ wholly 2 1 pop 0 ++ wholly 3 0 push 51 ++ ticks 1 1 0)
    (not_the_row's_answer 14) (other_answer 14)
    -- The same, with the push between the two ticks of 48.
    -- Wrong: 48 as two ticks: the hat in one, the value in the next.
    ∷ entry empty_in_two_ticks 4 2 1
    (wholly 5 0 add 0 ++ wholly 4 1 pop 0 ++ wholly 3 0 push 51 ++ ticks 1 1 0)
    (not_the_row's_answer 16) (other_answer 11)
    -- A pop has read the neighbour of its hat, and a push is made at that hat.
    -- Wrong: 48 compares the value alone: "empty" after a push at its own end.
    ∷ entry empty_without_hat 4 2 1
    (wholly 5 0 add 0 ++ wholly 3 1 pop 0 ++ wholly 3 0 push 51 ++ ticks 1 1 0)
    (not_the_row's_answer 15) (other_answer 15)
    -- The same, with the push made at the other hat.
    -- Wrong: 48 compares the hat alone: "empty" after a push at the other end.
    ∷ entry empty_without_value 4 2 1
    (begins 0 add left 0 ++ ticks 5 0 0 ++ wholly 3 1 pop 0 ++ begins 0 push left 51 ++ ticks 3 0 0 ++ ticks 1 1 0)
    (not_the_row's_answer 15) (other_answer 15)
    -- A pop answers 51 and leaves it in the lane.
    -- Wrong: The same bag popped always: nothing is written, and it stays in the lane.
    ∷ entry pop_leaves_bag 4 1 1 (wholly 11 0 push 51 ++ wholly 4 0 pop 0) (lane_is_not_the_row 17) (other_table 17)
    -- Wrong: The same bag popped always: the hat moves, and the bag is written back.
    ∷ entry pop_writes_bag_back 4 1 1 (wholly 11 0 push 51 ++ wholly 4 0 pop 0) (lane_is_not_the_row 17) (other_table 17)
    -- A pop takes 52 and answers 51, or 0.
    -- Wrong: The same bag popped always: whichever leaves, the answer is 51.
    ∷ entry pop_answers51 4 1 1 (wholly 11 0 push 52 ++ wholly 4 0 pop 0) (not_the_row's_answer 17) (other_answer 17)
    -- Wrong: The same bag popped always: whichever leaves, the answer is the pop's argument.
    ∷ entry pop_answers_argument 4 1 1
    (wholly 11 0 push 52 ++ wholly 4 0 pop 0) (not_the_row's_answer 17) (other_answer 17)
    -- Case 5: the hat moves to the lane's next node, not to the spur.
    -- Wrong: A.R read again in the swap of 5: the spur is hidden.
    ∷ entry rereads_link_unguarded 4 2 1 hat_to_spur passes (other_table 28)
    -- Wrong: A.R read again in the swap of 5, guarded against none: the spur is hidden.
    ∷ entry rereads_link 4 2 1 hat_to_spur passes (other_table 28)
    -- The hat is on the node cut off, which still has RN, and the next bag is pushed there, beside the lane.
    -- Wrong: 62 without RY: the second node keeps RN.
    ∷ entry remove_without_y 5 3 1 (hat_to_node_cut_off ++ wholly 3 2 push 52) (lane_is_not_the_row 25) (other_table 14)
    -- The same calls: the hat is on a node that looks like the lane's end, a chain is spliced in there, and the next
    -- bag is beside the lane.
    -- Wrong: 62 marks the second node RX, as the first: others take it for the lane's end.
    ∷ entry remove_marks_x 6 3 1 (hat_to_node_cut_off ++ wholly 12 2 push 52) (lane_is_not_the_row 34) (other_table 14)
    -- Case 5 to its end: the push at the spur does not come back to the lane.
    -- Wrong: The hat's node trusted to be in the lane: 8 and 17 never go to 67.
    ∷ entry trusts_hat 5 2 1 (hat_to_spur ++ wholly 19 0 push 52) passes (other_table 32)
    -- An add of 0 takes its one node and says "no".
    -- Wrong: The figure's line 37: an add of 0 fails.
    ∷ entry figure_line37 4 1 1 (wholly 1 0 add 0) passes (other_answer 2)
    -- Case 3: an add of 2 with one node free says "no".
    -- Wrong: The figure's line 32: the chain so far is lost.
    ∷ entry figure_line32 3 1 1 (wholly 2 0 add 2) passes (other_answer 3)
    -- A remove is at 78 with node 3 read; another remove marks that node, and the swap fails.
    -- Wrong: 78 compares again where its swap failed, with a value that is gone.
    ∷ entry failed_swap_spins 6 2 1 two_removes passes (other_table 25)
    -- A remove that is done begins again.
    -- Wrong: 82 begins again until there is nothing to cut.
    ∷ entry remove_cuts_again 4 1 1 added_and_removed passes (other_answer 18)
    -- The link from node 1 to node 3, which was cut off, is still there.
    -- Wrong: 64 leaves the link to the first node cut off.
    ∷ entry remove_leaves_link 4 1 1 added_and_removed passes (other_table 12)
    ∷ []
