-- What fits, by the machine for one user alone: how many new tags an end takes before "full", and what to do then.
use Rattle.std.specs.Prelude.{◌≡◌, ◌⊎◌, true, false, List, [], ◌∷◌, ℕ, zero, suc, ◌+◌, ◌*◌, ◌-◌, ◌≤◌, ◌<◌, length}
use Rattle.std.proofs.Math.Option.{none}
use Rattle.machine.specs.Choice.{◌≟◌, ◌<?◌, if?◌then◌else◌}
use Rattle.machine.specs.Outcomes.Answer.{Answer, Pushed, Full}
use Rattle.machine.specs.Sides.{Side, opposite, side_of}
use Rattle.machine.specs.Values.{stored, bag_ok}
use Rattle.machine.specs.Operations.{push, pop, remove, operation_of}
use Rattle.machine.specs.Answers.{kind_of}
use Rattle.machine.specs.Calls.{is_among}
use Rattle.machine_capacity.specs.OneUser.{
  State,
  start_state,
  WholeCall,
  call_of,
  bags_of,
  refusal,
  one_call,
  all_calls,
  Holds,
}

-- ---- How many new tags an end takes, by what is spare there, its spur and what is free: the last spare node stays.
abbrev pub room : State → (l : ℕ) → Side → ℕ
room σ l s = (σ.lane l).spare s + (σ.lane l).spur s + σ.free - 1

-- Pushes at one end, none of which is refused.
abbrev pub Pushes : (l : ℕ) → Side → State → List WholeCall → Type 0
Pushes l s σ [] = Unit {0}
Pushes l s σ (c ∷ cs) =
    (refusal σ c ≡ none)
    × (c.lane ≡ l)
    × (operation_of c.operation ≡ push)
    × (side_of c.side ≡ s)
    × Pushes l s (one_call σ c).state cs

-- The first are "pushed", as many as there is room for, and all others "full".
unfoldable pub push_answers : (room pushes : ℕ) → List Answer
push_answers m zero = []
push_answers zero (suc n) = Full ∷ push_answers zero n
push_answers (suc m) (suc n) = Pushed ∷ push_answers m n

abbrev pub RoomRule : Type 0
RoomRule =
    (σ : State) (l : ℕ) (s : Side)
    → 1 ≤ (σ.lane l).spare s
    → (calls : List WholeCall)
    → Pushes l s σ calls
    → (all_calls σ calls).answers ≡ push_answers (room σ l s) (length calls)

-- So it is for tags that are all different and in no lane.
abbrev pub push_calls : (k l : ℕ) → Side → List ℕ → List WholeCall
push_calls k l s [] = []
push_calls k l s (v ∷ tags) = call_of k l push s v ∷ push_calls k l s tags

abbrev pub AllNew : (bags tags : List ℕ) → Type 0
AllNew bags [] = Unit {0}
AllNew bags (v ∷ tags) =
    (bag_ok (stored v) ≡ true) × (is_among v bags ≡ false) × (is_among v tags ≡ false) × AllNew bags tags

abbrev pub NewTagsFit : Type 0
NewTagsFit =
    (σ : State) (k l : ℕ) (s : Side) (tags : List ℕ)
    → k < σ.tasks
    → l < σ.lanes
    → 1 ≤ (σ.lane l).spare s
    → AllNew (bags_of σ) tags
    → (all_calls σ (push_calls k l s tags)).answers ≡ push_answers (room σ l s) (length tags)

-- At a started table with one lane that is all nodes but two.
abbrev pub StartRoom : Type 0
StartRoom = (S T growth : ℕ) (s : Side) → 2 ≤ S → room (start_state S T growth 1) 0 s ≡ S - 2

-- ---- What to do about "full". docs/USE.md: "At one other end after another, of every lane, push, pop the bag again,
-- remove 0, and try again each time". What is claimed of the state here is so of the table, which gives the same
-- answers (`FromAnyIdle`).

-- An end, and a tag and a task to push it with. The tag is in no lane.
pub record Loader : Type 0 where
  pub task : ℕ
  pub lane : ℕ
  pub side : Side
  pub tag : ℕ

pub record CanPush (σ : State) (p : Loader) : Type 0 where
  pub is_task : p.task < σ.tasks
  pub is_lane : p.lane < σ.lanes
  pub is-tag : bag_ok (stored p.tag) ≡ true
  pub is_new : is_among p.tag (bags_of σ) ≡ false

abbrev pub room_at : State → Loader → ℕ
room_at σ p = room σ p.lane p.side

-- The three calls; where the push is "full" too, nothing more is done.
abbrev pub pop_and_remove : State → Loader → State
pop_and_remove σ p =
    let popped = one_call σ (call_of p.task p.lane pop p.side 0) in
    (one_call popped.state (call_of p.task p.lane remove p.side 0)).state

abbrev pub give_back : State → Loader → State
give_back σ p =
    let pushed = one_call σ (call_of p.task p.lane push p.side p.tag) in
    if? kind_of pushed.answer ≟ kind_of Pushed then pop_and_remove pushed.state p else pushed.state

-- How many nodes are free afterwards, where none was before, by what was spare at that end and its spur: all but the
-- last spare node; of two spare nodes none, since a remove does not cut off a single one, but the spur.
abbrev pub given_back : (spare spur : ℕ) → ℕ
given_back r y =
    if? r <? 2 then 0 else
    if? r ≟ 2 then y else r + y - 1

-- So a call that was "full" is then "pushed", if that end had room for two tags, and else it is "full" again.
pub record GivenBack (σ : State) (c : WholeCall) (p : Loader) : Type 0 where
  pub same-bags : (l : ℕ) → ((give_back σ p).lane l).bags ≡ (σ.lane l).bags
  pub free-then :
      (give_back σ p).free ≡ given_back ((σ.lane p.lane).spare p.side) ((σ.lane p.lane).spur p.side)
  pub then_pushed : 2 ≤ room_at σ p → (one_call (give_back σ p) c).answer ≡ Pushed
  pub still_full : room_at σ p < 2 → (one_call (give_back σ p) c).answer ≡ Full

abbrev pub FullAdvice : Type 0
FullAdvice =
    (S : ℕ) (σ : State)
    → Holds S σ
    → (c : WholeCall) (p : Loader)
    → (one_call σ c).answer ≡ Full
    → CanPush σ p
    → GivenBack σ c p

-- One end after another, and the call that was "full" again each time: its last answer.
unfoldable pub last_answer : State → WholeCall → List Loader → Answer
last_answer σ c [] = (one_call σ c).answer
last_answer σ c (p ∷ ps) =
    let tried = one_call σ c in
    if? kind_of tried.answer ≟ kind_of Full then last_answer (give_back tried.state p) c ps else tried.answer

-- It is "pushed" if one of the ends had room for two tags. docs/USE.md: "Full to the last ..: no other end has place
-- for more than one bag".
abbrev pub found_room : State → List Loader → Answer
found_room σ [] = Full
found_room σ (p ∷ ps) = if? 1 <? room_at σ p then Pushed else found_room σ ps

abbrev pub AllCanPush : State → List Loader → Type 0
AllCanPush σ [] = Unit {0}
AllCanPush σ (p ∷ ps) = CanPush σ p × AllCanPush σ ps

abbrev pub FullToTheLast : Type 0
FullToTheLast =
    (S : ℕ) (σ : State)
    → Holds S σ
    → (c : WholeCall)
    → (one_call σ c).answer ≡ Full
    → (ps : List Loader)
    → AllCanPush σ ps
    → last_answer σ c ps ≡ found_room σ ps

-- docs/USE.md: "So with one lane S - 2 bags are in it, or S - 3 and the last place is at the other end".
abbrev pub OneLaneFull : Type 0
OneLaneFull =
    (S : ℕ) (σ : State)
    → Holds S σ
    → σ.lanes ≡ 1
    → (k : ℕ) (s : Side) (tag : ℕ)
    → (one_call σ (call_of k 0 push s tag)).answer ≡ Full
    → room σ 0 (opposite s) < 2
    → (length (σ.lane 0).bags + 2 ≡ S) ⊎ ((length (σ.lane 0).bags + 3 ≡ S) × (room σ 0 (opposite s) ≡ 1))

-- docs/USE.md: "Full at every end, one straight after the other: S - 2L".
abbrev pub AllFull : Type 0
AllFull =
    (S : ℕ) (σ : State)
    → Holds S σ
    → 1 ≤ σ.lanes
    → ((l : ℕ) → l < σ.lanes → (s : Side) → room σ l s ≡ 0)
    → length (bags_of σ) + 2 * σ.lanes ≡ S
