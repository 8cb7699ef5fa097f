-- Names for the contracts of this crate.
use Rattle.std.specs.Prelude.{Bool, ◌&&◌, List, ℕ, ◌+◌, ◌*◌, ◌-◌}
use Rattle.machine.specs.Tasks.{record_length}
use Rattle.machine.specs.Table.{node_count, growth, lane_count, record_from, record_words}
use Rattle.machine.specs.Sides.{left, right}
use Rattle.machine.specs.Values.{value_ok}
use Rattle.machine.specs.Shape.{all_below, node_or_none, hat_ok, record_ok}
use Rattle.table_layout.specs.Words.{link_in, stored_in}

-- The test of the node that words begin with, in a table of S nodes.
abbrev pub first_ok : (S : ℕ) → List ℕ → Bool
first_ok S ns = node_or_none S (link_in ns left 0) && node_or_none S (link_in ns right 0) && value_ok (stored_in ns 0)

-- The test of a record in a table, of record k of those that words have from a place on, and of task k's own.
abbrev pub fits_in : List ℕ → (r : List ℕ) → Bool
fits_in ws r = record_ok (node_count ws) (growth ws) (lane_count ws) r

abbrev pub nth_ok : List ℕ → (words : List ℕ) → (first k : ℕ) → Bool
nth_ok ws words first k = fits_in ws (record_from words (first + record_length * k))

abbrev pub task_ok : List ℕ → ℕ → Bool
task_ok ws k = fits_in ws (record_words ws k)

-- Every number from one up to another, which is not among them, passes a test.
abbrev pub all_from : (from to : ℕ) → (ℕ → Bool) → Bool
all_from from to test = all_below (to - from) (λ i. test (from + i))

-- The test of lane l's hats.
abbrev pub hats_ok : List ℕ → (l : ℕ) → Bool
hats_ok ws l = hat_ok ws l left && hat_ok ws l right
