-- The header, the records and the nodes as words of a table.
use Rattle.std.specs.Prelude.{ℕ, ◌+◌, ◌*◌, ◌≤◌, List, ◌∷◌, length, get_or, set}
use Rattle.std.proofs.lemmas.List.Edits.{sets}
use Rattle.machine.specs.declared.Stored.{Stored}
use Rattle.machine.specs.Sides.{Side, side_number}
use Rattle.machine.specs.Values.{stored_words, stored_at}
use Rattle.machine.specs.Tasks.{no_node, record_length}
use Rattle.machine.specs.Table.{header_length, links_length, node_length, node_at, node_count, record_at}

-- The header is within the table, and so are the nodes after it.
abbrev pub HoldsHeader : List ℕ → Type 0
HoldsHeader ws = header_length ≤ length ws

abbrev pub HoldsNodes : List ℕ → Type 0
HoldsNodes ws = node_at (node_count ws) ≤ length ws

-- Hats in one list, lane after lane, left first.
abbrev pub hat_in : List ℕ → (lane : ℕ) → Side → ℕ
hat_in hats l s = get_or hats (2 * l + side_number s) 0

-- The record of task k is within the table.
abbrev pub HoldsRecord : List ℕ → ℕ → Type 0
HoldsRecord ws k = record_at (node_count ws) k + record_length ≤ length ws

-- ---- Nodes, as a list of their words. A number past its end is no node.
abbrev pub HoldsNode : List ℕ → ℕ → Type 0
HoldsNode ns x = node_length * x + node_length ≤ length ns

abbrev pub link_in : List ℕ → Side → ℕ → ℕ
link_in ns s x = get_or ns (node_length * x + side_number s) no_node

abbrev pub set_link_in : List ℕ → Side → ℕ → ℕ → List ℕ
set_link_in ns s x y = set ns (node_length * x + side_number s) y

abbrev pub stored_in : List ℕ → ℕ → Stored
stored_in ns x = stored_at ns (node_length * x + links_length)

abbrev pub set_stored_in : List ℕ → ℕ → Stored → List ℕ
set_stored_in ns x v = sets ns (node_length * x + links_length) (stored_words v)

abbrev pub set_node_in : List ℕ → (x l r : ℕ) → Stored → List ℕ
set_node_in ns x l r v = sets ns (node_length * x) (l ∷ r ∷ stored_words v)
