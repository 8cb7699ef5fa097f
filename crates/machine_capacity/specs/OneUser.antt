-- The machine for one user: who makes one whole call after another, each a begin whose task then gets all the ticks,
-- needs to know only this page.
use Rattle.std.specs.Prelude.{◌≡◌, Bool, not, ◌&&◌, List, [], ◌∷◌, ℕ, ◌+◌, ◌*◌, ◌-◌, ◌≤◌, ◌<◌, leb, ltb, length}
use Rattle.std.proofs.Math.Option.{Option, some, none}
use Rattle.machine.specs.Outcomes.Answer.{Answer, Refused}
use Rattle.machine.specs.declared.Stored.{Stored}
use Rattle.machine.specs.Choice.{◌≟◌, if?◌then◌else◌}
use Rattle.machine.specs.Sides.{Side, left, right, side_number, side_of}
use Rattle.machine.specs.Values.{number, stored}
use Rattle.machine.specs.Operations.{Operation, operation_number, operation_of, argument_ok}
use Rattle.machine.specs.Calls.{unless, is_push, is_among}
use Rattle.machine.specs.Twice.{rows_below}
use Rattle.machine_capacity.specs.NoLeak.{total}
use Rattle.machine_capacity.specs.Alone.{CallOutcome, alone}

-- ---- What is kept: of each lane its bags, left end first, and at each of its ends how much is spare and whether there
-- is a spur (1, else 0); and how much is free for all lanes.
pub record LaneState : Type 0 where
  pub bags : List ℕ
  pub spare : Side → ℕ
  pub spur : Side → ℕ

pub record State : Type 0 where
  pub tasks : ℕ
  pub growth : ℕ
  pub lanes : ℕ
  pub lane : (l : ℕ) → LaneState
  pub free : ℕ

-- An accepted start.
abbrev empty_lane : LaneState
empty_lane = record { bags = []; spare = λ s. 1; spur = λ s. 0 }

abbrev pub start_state : (S T growth lanes : ℕ) → State
start_state S T g lanes =
    record { tasks = T; growth = g; lanes = lanes; lane = λ l. empty_lane; free = S - 2 * lanes }

-- ---- A whole call, by the arguments of its begin.
pub record WholeCall : Type 0 where
  pub task : ℕ
  pub lane : ℕ
  pub operation : ℕ
  pub side : ℕ
  pub argument : Stored

-- A call by its operation, side and number.
abbrev pub call_of : (task lane : ℕ) → Operation → Side → (argument : ℕ) → WholeCall
call_of k l op s n =
    record { task = k; lane = l; operation = operation_number op; side = side_number s; argument = stored n }

-- ---- Its refusals.
abbrev pub bags_of : State → List ℕ
bags_of σ = rows_below (λ l. (σ.lane l).bags) σ.lanes

-- A push of a bag that is in some lane.
abbrev pub is_twice : State → Operation → ℕ → Bool
is_twice σ op n = is_push op && is_among n (bags_of σ)

abbrev pub refusal : State → WholeCall → Option ℕ
refusal σ c =
    unless (ltb c.lane σ.lanes) 26
    (unless (ltb c.task σ.tasks) 5
    (unless (leb 1 c.operation && leb c.operation 4 && leb c.side 1) 6
    (unless (argument_ok (operation_of c.operation) c.argument) 7
    (unless (not (is_twice σ (operation_of c.operation) (number c.argument))) 16 none))))

-- ---- What it comes to at its end of its lane.
abbrev pub outcome : State → (l : ℕ) → Operation → Side → (argument : ℕ) → CallOutcome
outcome σ l op s n =
    alone op s n σ.growth σ.free (σ.lane l).bags ((σ.lane l).spare s) ((σ.lane l).spur s)

-- A side's number replaced.
abbrev pub with_side : Side → ℕ → (Side → ℕ) → Side → ℕ
with_side left n f left = n
with_side left n f right = f right
with_side right n f left = f left
with_side right n f right = n

-- The bags, what is spare, the spur and what is free keep their sum.
abbrev pub free_then : State → (l : ℕ) → Side → CallOutcome → ℕ
free_then σ l s o =
    σ.free + ((σ.lane l).spare s + (σ.lane l).spur s + length (σ.lane l).bags)
    - (o.spare + o.spur + length o.bags)

abbrev pub lane_then : LaneState → Side → CallOutcome → LaneState
lane_then i s o =
    record { bags = o.bags; spare = with_side s o.spare i.spare; spur = with_side s o.spur i.spur }

abbrev pub state_then : State → (l : ℕ) → Side → CallOutcome → State
state_then σ l s o =
    record {
      tasks = σ.tasks;
      growth = σ.growth;
      lanes = σ.lanes;
      lane = λ j. if? j ≟ l then lane_then (σ.lane l) s o else σ.lane j;
      free = free_then σ l s o;
    }

-- ---- One call, and one after another.
pub record AfterCall : Type 0 where
  pub answer : Answer
  pub state : State

abbrev pub after_call : Option ℕ → State → WholeCall → AfterCall
after_call (some n) σ c = record { answer = Refused n; state = σ }
after_call none σ c =
    let o = outcome σ c.lane (operation_of c.operation) (side_of c.side) (number c.argument) in
    record { answer = o.answer; state = state_then σ c.lane (side_of c.side) o }

abbrev pub one_call : State → WholeCall → AfterCall
one_call σ c = after_call (refusal σ c) σ c

pub record AllDone : Type 0 where
  pub answers : List Answer
  pub state : State

unfoldable pub all_calls : State → List WholeCall → AllDone
all_calls σ [] = record { answers = []; state = σ }
all_calls σ (c ∷ cs) =
    let one = one_call σ c in
    let rest = all_calls one.state cs in
    record { answers = one.answer ∷ rest.answers; state = rest.state }

-- ---- What is true of the state of a table of S nodes: at each end something is spare, and there is one spur at most;
-- and every node is a bag's, spare, a spur or free.
abbrev pub size_of : LaneState → ℕ
size_of i = length i.bags + (i.spare left + i.spur left) + (i.spare right + i.spur right)

pub record Holds (S : ℕ) (σ : State) : Type 0 where
  pub some_spare : (l : ℕ) → l < σ.lanes → (s : Side) → 1 ≤ (σ.lane l).spare s
  pub one_spur : (l : ℕ) → l < σ.lanes → (s : Side) → (σ.lane l).spur s ≤ 1
  pub all_counted : σ.free + total (λ l. size_of (σ.lane l)) σ.lanes ≡ S
