-- The plain row of bags: what it keeps, and which answers it gives. It is fed arguments and answers, never the table.
use Rattle.std.specs.Prelude.{Bool, true, false, cond, List, [], ◌∷◌, ◌++◌, reverse, ℕ, zero, suc, ◌-◌}
use Rattle.std.proofs.Math.Option.{Option, some, none, map, bind}
use Rattle.machine.specs.Outcomes.Answer.{Answer, Going, Pushed, Bag, Empty, Full, Yes, No, Refused}
use Rattle.machine.specs.Outcomes.Dispatch.{Dispatch, Idle, Answered}
use Rattle.machine.specs.Choice.{◌≟◌, if?◌then◌else◌}
use Rattle.machine.specs.Round.{next_after}
use Rattle.machine.specs.declared.Stored.{Stored}
use Rattle.machine.specs.Sides.{Side, left, right, side_of}
use Rattle.machine.specs.Values.{number}
use Rattle.machine.specs.Operations.{Operation, idle, push, pop, add, remove, operation_of}
use Rattle.machine.specs.Answers.{refusal_of, is_going, answer_of}

-- 01: the task's note is the operation, side and argument; since 2026-12 also the lane.
pub record Note : Type 0 where
  pub lane : ℕ
  pub operation : Operation
  pub side : Side
  pub argument : ℕ

-- That of a begin with these numbers.
abbrev pub new_note : (lane operation side : ℕ) → (argument : Stored) → Note
new_note l op side argument =
    record { lane = l; operation = operation_of op; side = side_of side; argument = number argument }

-- 01: it keeps a row of bags, left end first, and for each task a note or none. 02: "The row of bags in the mission is
-- a row of such tags": a bag is its tag, one number. Since 2026-07 also
-- how many tasks there are, by the start's argument, and the task last dispatched. Since 2026-12 "each lane is now its
-- own row of bags", and there are as many as the start's argument says.
pub record Row : Type 0 where
  pub lanes : ℕ
  pub bags : (lane : ℕ) → List ℕ
  pub notes : ℕ → Option Note
  pub tasks : ℕ
  pub dispatched : ℕ

-- 01: at first the row is empty and there are no notes. 02: "T - 1 after a start".
abbrev pub empty_row : (T lanes : ℕ) → Row
empty_row T lanes =
    record { lanes = lanes; bags = λ l. []; notes = λ k. none; tasks = T; dispatched = T - 1 }

-- The notes, with that of task k replaced.
abbrev pub with_note : (ℕ → Option Note) → ℕ → Option Note → ℕ → Option Note
with_note notes k n = λ j. if? j ≟ k then n else notes j

-- With one thing set.
abbrev pub noted : Row → ℕ → Option Note → Row
noted ρ k n =
    record {
      lanes = ρ.lanes;
      bags = ρ.bags;
      notes = with_note ρ.notes k n;
      tasks = ρ.tasks;
      dispatched = ρ.dispatched;
    }

abbrev pub with_bags : Row → (lane : ℕ) → List ℕ → Row
with_bags ρ l bags =
    record {
      lanes = ρ.lanes;
      bags = λ j. if? j ≟ l then bags else ρ.bags j;
      notes = ρ.notes;
      tasks = ρ.tasks;
      dispatched = ρ.dispatched;
    }

abbrev pub with_dispatched : ℕ → Row → Row
with_dispatched k ρ =
    record { lanes = ρ.lanes; bags = ρ.bags; notes = ρ.notes; tasks = ρ.tasks; dispatched = k }

-- A bag put at a side's end.
abbrev pub put : Side → ℕ → List ℕ → List ℕ
put left b bags = b ∷ bags
put right b bags = bags ++ (b ∷ [])

-- The bags without the one at a side's end, where that one is b.
abbrev pub take_first : ℕ → List ℕ → Option (List ℕ)
take_first b [] = none
take_first b (x ∷ xs) = if? x ≟ b then some xs else none

abbrev pub take_bag : Side → ℕ → List ℕ → Option (List ℕ)
take_bag left b bags = take_first b bags
take_bag right b bags = map reverse (take_first b (reverse bags))

-- The row that a push, and a pop, of the note leaves with its answer; nothing where the row does not give that answer.
unfoldable pub push_answered : Note → Answer → List ℕ → Option (List ℕ)
push_answered n Pushed bags = some (put n.side n.argument bags)
push_answered n Full bags = some bags
push_answered n Going bags = none
push_answered n (Bag b) bags = none
push_answered n Empty bags = none
push_answered n Yes bags = none
push_answered n No bags = none
push_answered n (Refused r) bags = none

unfoldable pub pop_answered : Note → Answer → List ℕ → Option (List ℕ)
pop_answered n (Bag b) bags = take_bag n.side b bags
pop_answered n Empty [] = some []
pop_answered n Empty (b ∷ bags) = none
pop_answered n Going bags = none
pop_answered n Pushed bags = none
pop_answered n Full bags = none
pop_answered n Yes bags = none
pop_answered n No bags = none
pop_answered n (Refused r) bags = none

-- 01: "yes" and "no": only to an add or remove. The row stays.
unfoldable pub size_answered : Answer → List ℕ → Option (List ℕ)
size_answered Yes bags = some bags
size_answered No bags = some bags
size_answered Going bags = none
size_answered Pushed bags = none
size_answered (Bag b) bags = none
size_answered Empty bags = none
size_answered Full bags = none
size_answered (Refused r) bags = none

abbrev pub answered_by : Operation → Note → Answer → List ℕ → Option (List ℕ)
answered_by idle n a bags = none
answered_by push n a bags = push_answered n a bags
answered_by pop n a bags = pop_answered n a bags
answered_by add n a bags = size_answered a bags
answered_by remove n a bags = size_answered a bags

abbrev pub answered : Note → Answer → List ℕ → Option (List ℕ)
answered n a bags = answered_by n.operation n a bags

-- A tick that was made. 01: a tick answers the call in its task's note, so a task without one gets no answer, not
-- even "going"; after each tick's answer but "going" the task has no note. 02: each lane's row is "explained by the
-- calls on it".
unfoldable pub feed_made : Row → ℕ → Answer → Option Row
feed_made ρ k a =
    bind (ρ.notes k)
    (λ n. cond (is_going a) (some ρ)
    (map (λ bags. noted (with_bags ρ n.lane bags) k none) (answered n a (ρ.bags n.lane))))

-- 01: run: the ticks it reports made, by its pairs and the words it wrote, one after another.
unfoldable pub feed_run : Row → (made : ℕ) → (list answers : List ℕ) → Option Row
feed_run ρ zero list answers = some ρ
feed_run ρ (suc n) [] answers = none
feed_run ρ (suc n) (k ∷ []) answers = none
feed_run ρ (suc n) (k ∷ h ∷ list) [] = none
feed_run ρ (suc n) (k ∷ h ∷ list) (kind ∷ []) = none
feed_run ρ (suc n) (k ∷ h ∷ list) (kind ∷ digit ∷ []) = none
feed_run ρ (suc n) (k ∷ h ∷ list) (kind ∷ digit ∷ low ∷ answers) =
    bind (answer_of kind digit low) (λ a. bind (feed_made ρ k a) (λ ρ'. feed_run ρ' n list answers))

-- ---- 2026-07: a dispatch.
abbrev pub has_note : Option Note → Bool
has_note none = false
has_note (some n) = true

-- 02: "the next task with a note, going round, after the task last dispatched".
abbrev pub next_noted : (notes : ℕ → Option Note) → (tasks dispatched : ℕ) → Option ℕ
next_noted notes tasks d = next_after tasks (λ k. has_note (notes k)) d

-- A dispatch that ticked: "For the row a dispatch is a tick" of that task, which is now the one last dispatched.
unfoldable pub feed_dispatched : Row → Answer → Option Row
feed_dispatched ρ a =
    bind (next_noted ρ.notes ρ.tasks ρ.dispatched)
    (λ k. map (with_dispatched k) (feed_made ρ k a))

-- 02: ""idle" is answered only when no task has a note."
unfoldable pub feed_idle : Row → Option Row
feed_idle ρ =
    elim (next_noted ρ.notes ρ.tasks ρ.dispatched) as (λ _. Option Row) [
      | some k ↦ none
      | none ↦ some ρ
    ]

-- 01: any other refused call: nothing changes.
unfoldable pub feed_dispatch : Row → Dispatch → Option Row
feed_dispatch ρ Idle = feed_idle ρ
feed_dispatch ρ (Answered a) =
    elim (refusal_of a) as (λ _. Option Row) [ some n ↦ some ρ | none ↦ feed_dispatched ρ a ]
