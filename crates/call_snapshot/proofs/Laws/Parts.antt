-- The parts that the code lends, put together: header and records copied, and the nodes' words written between them.
use mathlib.Core.Path.{◌≡◌, sym, ap, ◌∙◌}
use mathlib.Core.Bool.{◌&&◌}
use mathlib.Core.List.{List, [], ◌++◌, append-nil, append_assoc}
use Prim.Native.Nat.{ℕ, ◌+◌, ◌*◌, ◌-◌, ◌≤◌}
use native.Mathlib.Omega.{arith}
use lib.ListN.{length, take, drop, length-drop, drop_of_length-le}
use lib.Seq.{length-take-le, take-append-add, take_at, drop_at}
use borrow.Rule.Slice.PartMut.{put_mid, post_of}
use Rattle.machine.specs.Table.{node_length, node_at, node_count, node_part}
use Rattle.machine.specs.Snapshots.{reordered}
use Rattle.machine.proofs.Snapshots.Reordered.{Order}
use Rattle.table_shape.proofs.Laws.FirstNode.{moved_on}
use Rattle.table_layout.specs.Words.{HoldsNodes}
use Rattle.machine.proofs.Snapshots.RoundTrips.{has-nodes}
use Rattle.table_layout.proofs.Laws.Views.{part-long}
use Rattle.call_snapshot.specs.Promised.{with_ends, links_ok, values_ok, columns_ok}

module _ (S : ℕ) (from to : List ℕ) (enough : node_at S ≤ length from) (same : length to ≡ length from) where
  header-long : length (take (node_at 0) from) ≡ node_at 0
  header-long = length-take-le (node_at 0) from (omega (arith, enough))

  nodes-long : length (take (node_length * S) (drop (node_at 0) to)) ≡ node_length * S
  nodes-long =
      length-take-le (node_length * S) (drop (node_at 0) to)
      (let e = length-drop (node_at 0) to in omega (arith, enough, same))

  -- The header before the words that there were, and then the records from their place on.
  pub ends-laid :
      {first end : ℕ} {h r : List ℕ}
      → first ≡ node_at 0
      → end ≡ node_at S
      → h ≡ take first from
      → r ≡ take (length from - end) (drop end from)
      → let words = h ++ drop first to in
      put_mid end (length words - end) words r ≡ with_ends S from to
  ends-laid {first} {end} {h} {r} at_first at is-header is-rest =
      let words = h ++ drop first to in
      let k = length words - end in
      let nodes = take (node_length * S) (drop (node_at 0) to) in
      let last : post_of end k words ≡ [] =
      drop_of_length-le (drop end words) {i = k} (let e = length-drop end words in omega arith) in
      let front : take end words ≡ take (node_at 0) from ++ nodes =
      ap (λ (l : List ℕ). take end (l ++ drop first to)) is-header
      ∙ ap (λ (f : ℕ). take end (take f from ++ drop f to)) at_first
      ∙ ap (λ (n : ℕ). take n (take (node_at 0) from ++ drop (node_at 0) to))
      (at ∙ ap (λ (n : ℕ). n + node_length * S) (sym header-long))
      ∙ take-append-add (take (node_at 0) from) (drop (node_at 0) to) (node_length * S) in
      let rest : r ≡ drop (node_at S) from = is-rest ∙ moved_on from end ∙ ap (λ (n : ℕ). drop n from) at in
      ap (λ (l : List ℕ). take end words ++ (r ++ l)) last
      ∙ ap (λ (l : List ℕ). take end words ++ l) (append-nil r)
      ∙ ap (λ (l : List ℕ). l ++ r) front
      ∙ ap (λ (l : List ℕ). (take (node_at 0) from ++ nodes) ++ l) rest
      ∙ append_assoc (take (node_at 0) from) nodes (drop (node_at S) from)

  -- Words written between them.
  parts-between : (ys : List ℕ) {first end : ℕ} → first ≡ node_at 0 → end ≡ node_at S
      → put_mid first (end - first) (with_ends S from to) ys ≡ take (node_at 0) from ++ (ys ++ drop (node_at S) from)
  parts-between ys {first} {end} at_first at =
      let whole = with_ends S from to in
      let nodes = take (node_length * S) (drop (node_at 0) to) in
      let n : end - first ≡ node_length * S = omega arith in
      let after = drop_at (take (node_at 0) from) (nodes ++ drop (node_at S) from) (node_at 0) header-long in
      ap (λ (k : ℕ). put_mid first k whole ys) n
      ∙ ap (λ (f : ℕ). put_mid f (node_length * S) whole ys) at_first
      ∙ ap (λ (l : List ℕ). l ++ (ys ++ post_of (node_at 0) (node_length * S) whole))
      (take_at (take (node_at 0) from) (nodes ++ drop (node_at S) from) (node_at 0) header-long)
      ∙ ap (λ (l : List ℕ). take (node_at 0) from ++ (ys ++ drop (node_length * S) l)) after
      ∙ ap (λ (l : List ℕ). take (node_at 0) from ++ (ys ++ l))
      (drop_at nodes (drop (node_at S) from) (node_length * S) nodes-long)

-- So the words are in the other order where those of the nodes are.
pub order-laid :
    (order : Order) (from to ys : List ℕ) {S first end : ℕ} {t part : List ℕ}
    → HoldsNodes from
    → length to ≡ length from
    → S ≡ node_count from
    → first ≡ node_at 0
    → end ≡ node_at S
    → t ≡ with_ends S from to
    → part ≡ node_part from
    → ys ≡ order S part
    → put_mid first (end - first) t ys ≡ reordered order from
unfolding reordered
order-laid order from to ys {S} {first} {end} {t} enough same count at_first at is is-part is-ordered =
    ap (λ (l : List ℕ). put_mid first (end - first) l ys) is
    ∙ parts-between S from to (omega (arith, enough, count)) same ys at_first at
    ∙ ap (λ (l : List ℕ). take (node_at 0) from ++ (l ++ drop (node_at S) from)) (is-ordered ∙ ap (order S) is-part)
    ∙ ap (λ (n : ℕ). take (node_at 0) from ++ (order n (node_part from) ++ drop (node_at n) from)) count

-- The four columns as they are lent: those of links together, V's, and the digits to the end.
pub columns-lent :
    (ss : List ℕ) {S : ℕ} {cs : List ℕ}
    → S ≡ node_count ss
    → cs ≡ node_part ss
    → links_ok S (take (2 * S) cs)
    && values_ok (take (3 * S - 2 * S) (drop (2 * S) cs)) (take (length cs - 3 * S) (drop (3 * S) cs))
    ≡ columns_ok ss
columns-lent ss {S} {cs} count is =
    let one : 3 * S - 2 * S ≡ S = omega arith in
    ap (λ (k : ℕ).
    links_ok S (take (2 * S) cs)
    && values_ok (take k (drop (2 * S) cs)) (take (length cs - 3 * S) (drop (3 * S) cs)))
    one
    ∙ ap (λ (l : List ℕ). links_ok S (take (2 * S) cs) && values_ok (take S (drop (2 * S) cs)) l) (moved_on cs (3 * S))
    ∙ ap (λ (l : List ℕ). links_ok S (take (2 * S) l) && values_ok (take S (drop (2 * S) l)) (drop (3 * S) l)) is
    ∙ ap (λ (n : ℕ).
    let l = node_part ss in links_ok n (take (2 * n) l) && values_ok (take n (drop (2 * n) l)) (drop (3 * n) l))
    count

-- What the columns of a snapshot, and the words written in an order, rest on.
pub ruleset parts = (columns-lent, ends-laid, order-laid, has-nodes, part-long)
