-- Calls alone, exactly: on a table with no task in a call, what a call that gets all the ticks answers, and the five
-- numbers of its lane that it leaves.
use Rattle.std.specs.Prelude.{◌≡◌, ◌≢◌, true, false, List, [], ◌∷◌, reverse, ℕ, suc, ◌+◌, ◌*◌, ◌-◌, ◌≤◌, ◌<◌, length}
use Rattle.machine.specs.Choice.{◌≟◌, ◌<?◌, if?◌then◌else◌}
use Rattle.machine.specs.Outcomes.Answer.{Answer, Going, Pushed, Bag, Empty, Full, Yes, No}
use Rattle.machine.specs.Outcomes.Reply.{Accepted}
use Rattle.machine.specs.Sides.{Side, left, right, opposite, side_number}
use Rattle.machine.specs.Values.{stored}
use Rattle.machine.specs.Operations.{Operation, idle, push, pop, add, remove, operation_number}
use Rattle.machine.specs.Table.{node_count, growth, lane_count}
use Rattle.machine.specs.Calls.{begin, Ticked, tick}
use Rattle.machine.specs.Row.{put}
use Rattle.machine.specs.Answers.{is_going}
use Rattle.machine.specs.Begun.{Begun}
use Rattle.machine_progress.specs.Solo.{HintsBelow}
use Rattle.machine_capacity.specs.NoLeak.{Idle, LaneShape, IdleTable, AllCounted}
use Rattle.machine_capacity.specs.Capacity.{AloneTo}

-- ---- What a call finds at its end of the lane: the bags, r spare nodes, and y nodes beside the list under the hat (a
-- spur: 1, else 0); and what it answers and leaves there.
pub record CallOutcome : Type 0 where
  pub answer : Answer
  pub bags : List ℕ
  pub spare : ℕ
  pub spur : ℕ

abbrev pub leaves : Answer → (bags : List ℕ) → (spare spur : ℕ) → CallOutcome
leaves a bags r y = record { answer = a; bags = bags; spare = r; spur = y }

-- The bags from a side's end on; and back.
abbrev pub from_end : Side → List ℕ → List ℕ
from_end left bags = bags
from_end right bags = reverse bags

abbrev pub least : ℕ → ℕ → ℕ
least a b = if? a <? b then a else b

-- A push of v, with growth g and f free nodes. Where no spare node but the last is left, it leaves its spur and then
-- takes nodes, that one among them.
abbrev pub push_alone : Side → (v g f : ℕ) → (bags : List ℕ) → (r y : ℕ) → CallOutcome
push_alone s v g f bags r y =
    if? 1 <? r then leaves Pushed (put s v bags) (r - 1) 0 else
    if? f + y ≟ 0 then leaves Full bags r y else
    leaves Pushed (put s v bags) (least (f + y) (suc g)) 0

-- A pop, which finds these bags from its end on.
abbrev pub pop_from : Side → (bags : List ℕ) → (r y : ℕ) → CallOutcome
pop_from s [] r y = leaves Empty [] r y
pop_from s (b ∷ rest) r y = leaves (Bag b) (from_end s rest) (suc r) 0

abbrev pub pop_alone : Side → (bags : List ℕ) → (r y : ℕ) → CallOutcome
pop_alone s bags r y = pop_from s (from_end s bags) r y

-- An add of n, which leaves its spur when it has taken its nodes.
abbrev pub add_alone : (n f : ℕ) → (bags : List ℕ) → (r y : ℕ) → CallOutcome
add_alone n f bags r y =
    if? f ≟ 0 then leaves No bags r y else
    leaves Yes bags (r + least f (suc n)) 0

-- A remove of n: it keeps n spare nodes and the last, and what it cuts off is free. A single node more is the last one,
-- which it cannot mark.
abbrev pub remove_alone : (n : ℕ) → (bags : List ℕ) → (r y : ℕ) → CallOutcome
remove_alone n bags r y =
    if? y ≟ 1 then leaves Yes bags r y else
    if? r <? n + 2 then leaves Yes bags r y else
    if? r ≟ n + 2 then leaves No bags r y else
    leaves Yes bags (suc n) 0

-- An operation on side s, with its argument, the table's growth and f free nodes. ("Idle" is never begun.)
abbrev pub alone : Operation → Side → (argument g f : ℕ) → (bags : List ℕ) → (r y : ℕ) → CallOutcome
alone idle s n g f bags r y = leaves Going bags r y
alone push s n g f bags r y = push_alone s n g f bags r y
alone pop s n g f bags r y = pop_alone s bags r y
alone add s n g f bags r y = add_alone n f bags r y
alone remove s n g f bags r y = remove_alone n bags r y

-- ---- The numbers of a lane, by side.
abbrev pub spare_of : Side → LaneShape → ℕ
spare_of left I = I.l
spare_of right I = I.r

abbrev pub spur_of : Side → LaneShape → ℕ
spur_of left I = I.x
spur_of right I = I.y

-- Two shapes have the same five numbers.
pub record SameNumbers (I J : LaneShape) : Type 0 where
  pub same-bags : J.bags ≡ I.bags
  pub same_spare : (z : Side) → spare_of z J ≡ spare_of z I
  pub same_spur : (z : Side) → spur_of z J ≡ spur_of z I

-- The table vs is again idle, with these numbers.
pub record LeavesIdle (ws vs : List ℕ) (T : IdleTable ws) (ℓ : ℕ) (s : Side) (o : CallOutcome) : Type 0 where
  pub begun : Begun vs
  pub idle_now : Idle vs
  pub same_nodes : node_count vs ≡ node_count ws
  pub same_growth : growth vs ≡ growth ws
  pub same-lanes : lane_count vs ≡ lane_count ws
  pub own_bags : (T' : IdleTable vs) → (T'.shape ℓ).bags ≡ o.bags
  pub own_spare : (T' : IdleTable vs) → spare_of s (T'.shape ℓ) ≡ o.spare
  pub own_spur : (T' : IdleTable vs) → spur_of s (T'.shape ℓ) ≡ o.spur
  pub far_spare : (T' : IdleTable vs) → spare_of (opposite s) (T'.shape ℓ) ≡ spare_of (opposite s) (T.shape ℓ)
  pub far_spur : (T' : IdleTable vs) → spur_of (opposite s) (T'.shape ℓ) ≡ spur_of (opposite s) (T.shape ℓ)
  pub others : (T' : IdleTable vs) (j : ℕ) → j < lane_count ws → j ≢ ℓ → SameNumbers (T.shape j) (T'.shape j)

-- What is said of a call on side s of lane ℓ of a table with no task in a call.
abbrev pub alone_at : (ws : List ℕ) (T : IdleTable ws) → AllCounted ws T → (ℓ : ℕ) → Operation → Side → (argument : ℕ)
    → CallOutcome
alone_at ws T C ℓ op s n =
    alone op s n (growth ws) C.free (T.shape ℓ).bags (spare_of s (T.shape ℓ)) (spur_of s (T.shape ℓ))

-- ---- The claim: at every table that our calls lead to and in which no task is in a call, task k begins an operation
-- and then gets all the ticks, with any hints: it answers just that, and leaves just these numbers.
abbrev pub CallAlone : Operation → Type 0
CallAlone op =
    (ws vs : List ℕ)
    → Begun ws
    → Idle ws
    → (T : IdleTable ws) (C : AllCounted ws T)
    → (k ℓ : ℕ) (s : Side) (argument : ℕ) (a : Answer)
    → (begin ws k ℓ (operation_number op) (side_number s) (stored argument)).reply ≡ Accepted
    → AloneTo k a vs (begin ws k ℓ (operation_number op) (side_number s) (stored argument)).words
    → (a ≡ (alone_at ws T C ℓ op s argument).answer) × LeavesIdle ws vs T ℓ s (alone_at ws T C ℓ op s argument)

abbrev pub CallsAlone : Type 0
CallsAlone = (op : Operation) → CallAlone op

-- ---- The same as what ticks come to, with 2026-08's closer bound.

-- Task k gets a tick for each hint, until one does not go on. The last outcome is given.
unfoldable pub ticks_with : (hints ws : List ℕ) → (k : ℕ) → Ticked
ticks_with [] ws k = record { answer = Going; words = ws }
ticks_with (h ∷ hints) ws k =
    let one = tick ws k h in
    elim (is_going one.answer) as (λ _. Ticked) [ true ↦ ticks_with hints one.words k | false ↦ one ]

abbrev pub AnswersExactly : Type 0
AnswersExactly =
    (op : Operation) (ws : List ℕ)
    → Begun ws
    → Idle ws
    → (T : IdleTable ws) (C : AllCounted ws T)
    → (k ℓ : ℕ) (s : Side) (argument : ℕ)
    → (begin ws k ℓ (operation_number op) (side_number s) (stored argument)).reply ≡ Accepted
    → (hints : List ℕ)
    → HintsBelow (node_count ws) hints
    → 4 * node_count ws + 154 ≤ length hints
    → let done = ticks_with hints (begin ws k ℓ (operation_number op) (side_number s) (stored argument)).words k in
    (done.answer ≡ (alone_at ws T C ℓ op s argument).answer)
    × LeavesIdle ws done.words T ℓ s (alone_at ws T C ℓ op s argument)

-- ---- The free nodes afterwards: what the call's lane has more, is not free. So the numbers of the next call are
-- known.
abbrev pub FreeAfter : Type 0
FreeAfter =
    (ws vs : List ℕ) (T : IdleTable ws) (C : AllCounted ws T) (ℓ : ℕ)
    → ℓ < lane_count ws
    → (s : Side) (o : CallOutcome)
    → LeavesIdle ws vs T ℓ s o
    → (T' : IdleTable vs) (C' : AllCounted vs T')
    → C'.free + (o.spare + o.spur + length o.bags)
    ≡ C.free + (spare_of s (T.shape ℓ) + spur_of s (T.shape ℓ) + length (T.shape ℓ).bags)
