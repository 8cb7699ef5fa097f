-- The table of words: where each word stands, what is read there and what a write changes.
-- No other file says where in a table a word stands.
use Rattle.std.specs.Prelude.{List, [], ◌∷◌, ℕ, ◌+◌, ◌*◌, get_or, set, take, drop}
use Rattle.std.proofs.lemmas.List.Edits.{sets}
use Rattle.machine.specs.declared.Stored.{Stored}
use Rattle.machine.specs.Choice.{◌<?◌, if?◌then◌else◌}
use Rattle.machine.specs.Sides.{Side, left, right, side_number}
use Rattle.machine.specs.Values.{Value, never, encode, decode, stored_words, stored_at, stored_length}
use Rattle.machine.specs.Tasks.{Task, fresh, no_node, record_length, words_of, task_of}

-- 02: "the length is 16 + 4S + 13T". 01: in the order header, slots, tasks.
abbrev pub header_length : ℕ
header_length = 16

-- A node's two links, and then its value.
abbrev pub links_length : ℕ
links_length = 2

abbrev pub node_length : ℕ
node_length = links_length + stored_length

abbrev pub node_at : ℕ → ℕ
node_at x = header_length + node_length * x

abbrev pub record_at : (S k : ℕ) → ℕ
record_at S k = node_at S + record_length * k

abbrev pub table_length : (S T : ℕ) → ℕ
table_length S T = record_at S T

-- ---- The header. 02: "S, T, growth, lanes, tick count, the dispatcher's task, four pairs of hats (left first, unused
-- ones none), 0, 0".
abbrev pub node_count_at : ℕ
node_count_at = 0

abbrev pub task_count_at : ℕ
task_count_at = 1

abbrev pub growth_at : ℕ
growth_at = 2

abbrev pub lane_count_at : ℕ
lane_count_at = 3

abbrev pub node_count : List ℕ → ℕ
node_count ws = get_or ws node_count_at 0

abbrev pub task_count : List ℕ → ℕ
task_count ws = get_or ws task_count_at 0

abbrev pub growth : List ℕ → ℕ
growth ws = get_or ws growth_at 0

abbrev pub lane_count : List ℕ → ℕ
lane_count ws = get_or ws lane_count_at 0

abbrev pub tick_count_at : ℕ
tick_count_at = 4

abbrev pub tick_count : List ℕ → ℕ
tick_count ws = get_or ws tick_count_at 0

-- 2026-07's "that task", the one last dispatched.
abbrev pub dispatched_at : ℕ
dispatched_at = 5

abbrev pub dispatched : List ℕ → ℕ
dispatched ws = get_or ws dispatched_at 0

-- 02: one to four lanes, which are counted from 0.
abbrev pub most_lanes : ℕ
most_lanes = 4

abbrev pub hat_at : (lane : ℕ) → Side → ℕ
hat_at l s = 6 + 2 * l + side_number s

abbrev pub hat_word : List ℕ → (lane : ℕ) → Side → ℕ
hat_word ws l s = get_or ws (hat_at l s) 0

-- A lane's hat on a side. A number past the four pairs has none.
unfoldable pub hat : List ℕ → (lane : ℕ) → Side → ℕ
hat ws l s = if? l <? most_lanes then hat_word ws l s else no_node

-- The two words that are always 0.
abbrev pub word14_at : ℕ
word14_at = 14

abbrev pub word14 : List ℕ → ℕ
word14 ws = get_or ws word14_at 0

abbrev pub word15_at : ℕ
word15_at = 15

abbrev pub word15 : List ℕ → ℕ
word15 ws = get_or ws word15_at 0

abbrev pub header_words : (S T growth lanes ticks dispatched : ℕ) → (hats : (lane : ℕ) → Side → ℕ) → List ℕ
header_words S T g lanes n d h =
    S ∷ T ∷ g ∷ lanes ∷ n ∷ d
    ∷ h 0 left ∷ h 0 right ∷ h 1 left ∷ h 1 right ∷ h 2 left ∷ h 2 right ∷ h 3 left ∷ h 3 right
    ∷ 0 ∷ 0 ∷ []

-- ---- The words of the nodes, in a table by nodes and in a snapshot by columns.
abbrev pub node_part : List ℕ → List ℕ
node_part ws = take (node_length * node_count ws) (drop header_length ws)

-- A node (01: slot): L, R, V and its leading digit.
abbrev pub link_at : Side → ℕ → ℕ
link_at s x = node_at x + side_number s

abbrev pub value_at : ℕ → ℕ
value_at x = node_at x + links_length

abbrev pub link_word : List ℕ → Side → ℕ → ℕ
link_word ws s x = get_or ws (link_at s x) 0

abbrev pub value_words : List ℕ → ℕ → Stored
value_words ws x = stored_at ws (value_at x)

abbrev pub node_words : (l r : ℕ) → Value → List ℕ
node_words l r v = l ∷ r ∷ stored_words (encode v)

-- A node's link on a side: L on the left, R on the right. A number that is no node has none.
unfoldable pub link : List ℕ → Side → ℕ → ℕ
link ws s x = if? x <? node_count ws then link_word ws s x else no_node

-- A node's value.
unfoldable pub value : List ℕ → ℕ → Value
value ws x = decode (if? x <? node_count ws then value_words ws x else encode never)

-- ---- A task's record.
abbrev pub record_from : List ℕ → ℕ → List ℕ
record_from ws i = take record_length (drop i ws)

abbrev pub record_words : List ℕ → ℕ → List ℕ
record_words ws k = record_from ws (record_at (node_count ws) k)

-- The record of a task. A number that is no task has a fresh one.
unfoldable pub task : List ℕ → ℕ → Task
task ws k = if? k <? task_count ws then task_of (record_words ws k) else fresh

-- ---- Writes.
abbrev pub set_hat : (lane : ℕ) → Side → ℕ → List ℕ → List ℕ
set_hat l s x ws = set ws (hat_at l s) x

abbrev pub set_tick_count : ℕ → List ℕ → List ℕ
set_tick_count n ws = set ws tick_count_at n

abbrev pub set_dispatched : ℕ → List ℕ → List ℕ
set_dispatched k ws = set ws dispatched_at k

abbrev pub set_link : Side → ℕ → ℕ → List ℕ → List ℕ
set_link s x y ws = set ws (link_at s x) y

abbrev pub set_value : ℕ → Value → List ℕ → List ℕ
set_value x v ws = sets ws (value_at x) (stored_words (encode v))

abbrev pub set_record : ℕ → (words : List ℕ) → List ℕ → List ℕ
set_record k r ws = sets ws (record_at (node_count ws) k) r

abbrev pub set_task : ℕ → Task → List ℕ → List ℕ
set_task k t ws = set_record k (words_of t) ws
