-- Names for the contracts of this crate.
use Rattle.std.specs.Prelude.{Bool, ◌&&◌, List, ◌++◌, ℕ, ◌+◌, ◌*◌, length, get_or, take, drop}
use Rattle.machine.specs.Values.{stored_of, value_ok}
use Rattle.machine.specs.Table.{node_length, node_at, node_count, node_part}
use Rattle.machine.specs.Shape.{all_below, node_or_none}
use Rattle.machine.specs.Snapshots.{listed}

-- ---- What is written.

-- Word c of n nodes.
abbrev pub column_of : (c n : ℕ) → List ℕ → List ℕ
column_of c n ns = listed n (λ x. get_or ns (node_length * x + c) 0)

-- Words with the header, which stands before node 0, and the records of others, of S nodes.
abbrev pub with_ends : (S : ℕ) → (from to : List ℕ) → List ℕ
with_ends S from to =
    take (node_at 0) from ++ (take (node_length * S) (drop (node_at 0) to) ++ drop (node_at S) from)

-- ---- What is tested: the columns of a snapshot, with the tests of a table's nodes.

-- Links, each a node or none in a table of S nodes.
abbrev pub link_ok : (S : ℕ) → List ℕ → ℕ → Bool
link_ok S links x = node_or_none S (get_or links x 0)

abbrev pub links_ok : (S : ℕ) → List ℕ → Bool
links_ok S links = all_below (length links) (link_ok S links)

-- Values, each with its leading digit.
abbrev pub stored_ok : (words digits : List ℕ) → ℕ → Bool
stored_ok words digits x = value_ok (stored_of (get_or digits x 0) (get_or words x 0))

abbrev pub values_ok : (words digits : List ℕ) → Bool
values_ok words digits = all_below (length words) (stored_ok words digits)

-- Two columns of links, one of V, one of leading digits.
abbrev pub columns_ok : List ℕ → Bool
columns_ok ss =
    let S = node_count ss in
    links_ok S (take (2 * S) (node_part ss))
    && values_ok (take S (drop (2 * S) (node_part ss))) (drop (3 * S) (node_part ss))
