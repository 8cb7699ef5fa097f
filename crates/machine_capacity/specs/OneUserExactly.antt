-- What is claimed of the machine for one user: the table gives its answers, and stands as it says.
use Rattle.std.specs.Prelude.{◌≡◌, ◌≢◌, ◌⊎◌, Bool, true, false, List, [], ◌∷◌, ℕ, ◌+◌, ◌*◌, ◌≤◌, ◌<◌, ltb, length, replicate}
use Rattle.std.proofs.Math.Option.{some}
use Rattle.machine.specs.Outcomes.Answer.{Answer, Going, Refused}
use Rattle.machine.specs.Outcomes.Reply.{Reply, Accepted, Refused as Reply-Refused}
use Rattle.machine.specs.Sides.{Side}
use Rattle.machine.specs.Table.{node_count, task_count, growth, lane_count}
use Rattle.machine.specs.Reach.{Free}
use Rattle.machine.specs.Calls.{start, begin, Ticked, ticks, lane, ReadDone, unread, read_into, read}
use Rattle.machine.specs.Begun.{Begun}
use Rattle.machine_progress.specs.Solo.{HintsBelow}
use Rattle.machine_capacity.specs.NoLeak.{Idle, IdleTable, CountBelow}
use Rattle.machine_capacity.specs.Alone.{spare_of, spur_of, ticks_with}
use Rattle.machine_capacity.specs.OneUser.{State, start_state, WholeCall, one_call, all_calls, Holds}

-- ---- A whole call on a table: the begin, and where it is accepted a tick of its task for each hint until one answers.
abbrev pub ticks_then : Reply → (hints ws : List ℕ) → (k : ℕ) → Ticked
ticks_then Accepted hints ws k = ticks_with hints ws k
ticks_then (Reply-Refused n) hints ws k = record { answer = Refused n; words = ws }

abbrev pub whole_call : List ℕ → WholeCall → (hints : List ℕ) → Ticked
whole_call ws c hints =
    let begun = begin ws c.task c.lane c.operation c.side c.argument in
    ticks_then begun.reply hints begun.words c.task

-- With its hints.
pub record Hinted : Type 0 where
  pub call : WholeCall
  pub hints : List ℕ

abbrev pub calls_of : List Hinted → List WholeCall
calls_of [] = []
calls_of (c ∷ cs) = c.call ∷ calls_of cs

-- Any hints below S, and 4S + 154 are enough.
abbrev pub Enough : (S : ℕ) → List Hinted → Type 0
Enough S [] = Unit {0}
Enough S (c ∷ cs) = HintsBelow S c.hints × (4 * S + 154 ≤ length c.hints) × Enough S cs

pub record Played : Type 0 where
  pub answers : List Answer
  pub words : List ℕ

unfoldable pub whole_calls : List ℕ → List Hinted → Played
whole_calls ws [] = record { answers = []; words = ws }
whole_calls ws (c ∷ cs) =
    let one = whole_call ws c.call c.hints in
    let rest = whole_calls one.words cs in
    record { answers = one.answer ∷ rest.answers; words = rest.words }

-- ---- The table stands as the state says: no task is in a call, each lane has the state's bags, and a read gives them;
-- at each end just so much is spare and beside the list, and so many nodes are free.
abbrev pub read_from : Bool → (bags out : List ℕ) → ReadDone
read_from true bags out = read_into (some bags) out
read_from false bags out = unread 26 out

pub record StandsAs (ws : List ℕ) (σ : State) : Type 0 where
  pub no_call : Idle ws
  pub tasks_are : task_count ws ≡ σ.tasks
  pub growth_is : growth ws ≡ σ.growth
  pub lanes_are : lane_count ws ≡ σ.lanes
  pub lane_is : (l : ℕ) → l < σ.lanes → lane ws l ≡ some (σ.lane l).bags
  pub spare_is : (T : IdleTable ws) (l : ℕ) → l < σ.lanes → (s : Side) → spare_of s (T.shape l) ≡ (σ.lane l).spare s
  pub spur_is : (T : IdleTable ws) (l : ℕ) → l < σ.lanes → (s : Side) → spur_of s (T.shape l) ≡ (σ.lane l).spur s
  pub free_are : CountBelow (Free ws) (node_count ws) σ.free
  pub holds : Holds (node_count ws) σ
  pub reads : (l : ℕ) (out : List ℕ) → read ws l out ≡ read_from (ltb l σ.lanes) (σ.lane l).bags out

-- ---- The claim, for every accepted start and every list of whole calls.
abbrev pub OneUser : Type 0
OneUser =
    (S T growth lanes : ℕ) (old : List ℕ)
    → (start old S T growth lanes).reply ≡ Accepted
    → (calls : List Hinted)
    → Enough S calls
    → let played = whole_calls (start old S T growth lanes).words calls in
    let said = all_calls (start_state S T growth lanes) (calls_of calls) in
    (played.answers ≡ said.answers) × StandsAs played.words said.state

-- No whole call is still going, and none is refused with another number than 26, 5, 6, 7 and 16.
abbrev pub NeverGoing : Type 0
NeverGoing = (σ : State) (c : WholeCall) → (one_call σ c).answer ≢ Going

abbrev pub FiveRefusals : Type 0
FiveRefusals =
    (σ : State) (c : WholeCall) (n : ℕ)
    → (one_call σ c).answer ≡ Refused n
    → (n ≡ 26) ⊎ (n ≡ 5) ⊎ (n ≡ 6) ⊎ (n ≡ 7) ⊎ (n ≡ 16)

-- ---- The same from every table that our calls lead to, whoever made them, as soon as no task is in a call: it stands
-- as some state, and whole calls go on from there.
abbrev pub FromAnyIdle : Type 0
FromAnyIdle =
    (ws : List ℕ)
    → Begun ws
    → Idle ws
    → (σ : State)
    × StandsAs ws σ
    × ((calls : List Hinted)
    → Enough (node_count ws) calls
    → ((whole_calls ws calls).answers ≡ (all_calls σ (calls_of calls)).answers)
    × StandsAs (whole_calls ws calls).words (all_calls σ (calls_of calls)).state)

-- ---- One hint for all ticks of a call: the begin and then consecutive ticks.
abbrev pub row_then : Reply → (times : ℕ) → List ℕ → (k hint : ℕ) → Ticked
row_then Accepted n ws k h = ticks n ws k h
row_then (Reply-Refused r) n ws k h = record { answer = Refused r; words = ws }

abbrev row_call : List ℕ → WholeCall → (times hint : ℕ) → Ticked
row_call ws c n h =
    let begun = begin ws c.task c.lane c.operation c.side c.argument in
    row_then begun.reply n begun.words c.task h

abbrev pub ByConsecutiveTicks : Type 0
ByConsecutiveTicks = (ws : List ℕ) (c : WholeCall) (n h : ℕ) → whole_call ws c (replicate n h) ≡ row_call ws c n h

-- A call with its one hint, and one such call after another.
pub record OneHint : Type 0 where
  pub call : WholeCall
  pub hint : ℕ

abbrev pub calls_of_one : List OneHint → List WholeCall
calls_of_one [] = []
calls_of_one (c ∷ cs) = c.call ∷ calls_of_one cs

abbrev pub HintedBelow : (S : ℕ) → List OneHint → Type 0
HintedBelow S [] = Unit {0}
HintedBelow S (c ∷ cs) = (c.hint < S) × HintedBelow S cs

unfoldable pub row_calls : (times : ℕ) → List ℕ → List OneHint → Played
row_calls n ws [] = record { answers = []; words = ws }
row_calls n ws (c ∷ cs) =
    let one = row_call ws c.call n c.hint in
    let rest = row_calls n one.words cs in
    record { answers = one.answer ∷ rest.answers; words = rest.words }

-- Each call is a begin and at most 4S + 154 consecutive ticks.
abbrev pub OneUserByConsecutiveTicks : Type 0
OneUserByConsecutiveTicks =
    (S T growth lanes : ℕ) (old : List ℕ)
    → (start old S T growth lanes).reply ≡ Accepted
    → (calls : List OneHint)
    → HintedBelow S calls
    → let played = row_calls (4 * S + 154) (start old S T growth lanes).words calls in
    let said = all_calls (start_state S T growth lanes) (calls_of_one calls) in
    (played.answers ≡ said.answers) × StandsAs played.words said.state
