-- What is marked of a table's nodes, and what each function that marks adds to it.
use Rattle.std.specs.Prelude.{◌≡◌, ℕ, List, Option, Some, None}
use Rattle.machine.specs.Tasks.{no_node}
use Rattle.machine.specs.Table.{node_count, task_count, lane_count}
use Rattle.machine.specs.Allocate.{hats_from, held_from, largest_count, Marking, mark, mark_all, visit, visit_from}
use Rattle.machine.specs.Shape.{sizes_of, WellSized}

-- How many nodes there are, and their marking.
pub record Marked : Type 0 where
  pub nodes : ℕ
  pub marking : Marking

abbrev pub with_mark : Marked → ℕ → Marked
with_mark m x = record { nodes = m.nodes; marking = mark m.nodes m.marking x }

abbrev pub with_marks : Marked → List ℕ → Marked
with_marks m xs = record { nodes = m.nodes; marking = mark_all m.nodes m.marking xs }

-- Both links of the node at a place of the queue marked, and those of every place.
abbrev pub visited : List ℕ → Marked → ℕ → Marked
visited ws m i = record { nodes = m.nodes; marking = visit ws m.marking i }

abbrev pub spread : List ℕ → Marked → Marked
spread ws m = record { nodes = m.nodes; marking = visit_from ws largest_count 0 m.marking }

-- The hats of every lane, and what every task holds.
abbrev pub hats : List ℕ → List ℕ
hats ws = hats_from ws (lane_count ws) 0

abbrev pub held : List ℕ → List ℕ
held ws = held_from ws (task_count ws) 0

-- Nothing is asked of hats, links and registers: a number that is no node is not marked.
pub record Searchable (ws : List ℕ) (m : Marked) : Type 0 where
  pub well_sized : WellSized (sizes_of ws)
  pub same_nodes : m.nodes ≡ node_count ws

-- A node found, or the number of none.
abbrev pub node_or_none : Option ℕ → ℕ
node_or_none (Some x) = x
node_or_none None = no_node
