-- How the code holds a marking: in two slices and the end of the queue.
use Rattle.std.specs.Prelude.{Bool, cond, List, ◌++◌, ℕ, ◌-◌, ◌≤◌, length, map, replicate}
use Rattle.machine.specs.Allocate.{largest_count, Marking, Room}
use Rattle.table_search.specs.Marked.{Marked}

-- A list made as long as a marking's: 0 stands at each place that it does not have.
unfoldable pub padded : List ℕ → List ℕ
padded l = l ++ replicate (largest_count - length l) 0

abbrev pub number : Bool → ℕ
number b = cond b 1 0

-- The marking of the slices.
abbrev pub marking_of : (marks : List Bool) (queue : List ℕ) (tail : ℕ) → Marking
marking_of ms q n = record { marks = padded (map number ms); queue = padded q; tail = n }

abbrev pub marked_of : (marks : List Bool) (queue : List ℕ) (tail : ℕ) → Marked
marked_of ms q n = record { nodes = length ms; marking = marking_of ms q n }

-- A node has its mark, a place in the queue, and room for both in the marking.
pub record Ready (ms : List Bool) (q : List ℕ) (tail : ℕ) : Type 0 where
  pub room : Room (length ms) (marking_of ms q tail)
  pub places : length ms ≤ length q
