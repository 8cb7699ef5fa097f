-- Request 2026-10: a snapshot of a table, by columns; taking it and putting it back.
use Rattle.std.specs.Prelude.{◌≡◌, List, [], ◌∷◌, ◌++◌, ℕ, zero, suc, ◌+◌, ◌*◌, ◌≤◌, ◌<◌, eqb, length, get_or, take, drop}
use Rattle.std.proofs.Math.Option.{Option, none}
use Rattle.machine.specs.Outcomes.Reply.{Accepted}
use Rattle.machine.specs.Counts.{count}
use Rattle.machine.specs.Table.{header_length, node_length, node_at, node_count, node_part}
use Rattle.machine.specs.Calls.{unless, table_refusal, Changed, changed}

-- ---- Words in rows and in columns.

-- The first n values of a function.
unfoldable pub listed : (n : ℕ) → (ℕ → ℕ) → List ℕ
listed zero f = []
listed (suc n) f = f 0 ∷ listed n (λ i. f (suc i))

-- m rows of n words each, one row after another: f r c is word c of row r.
unfoldable pub rows : (m n : ℕ) → (ℕ → ℕ → ℕ) → List ℕ
rows zero n f = []
rows (suc m) n f = listed n (f 0) ++ rows m n (λ r. f (suc r))

-- Words that are m rows of n each, column by column: n rows of m each. Transposed again, these are the first.
unfoldable pub transposed : (m n : ℕ) → List ℕ → List ℕ
transposed m n ws = rows n m (λ c r. get_or ws (n * r + c) 0)

-- ---- The two orders of the same words.

-- Header and records stay where they are, and the words of the nodes, of which there are S, are put in another order.
unfoldable pub reordered : (order : (S : ℕ) → List ℕ → List ℕ) → List ℕ → List ℕ
reordered order ws =
    take header_length ws ++ (order (node_count ws) (node_part ws) ++ drop (node_at (node_count ws)) ws)

-- 02: "It holds the same words in another order: header, every slot's L, every R, every V, every leading digit, then
-- the tasks." A table has a row of four words for each node: L, R, V and its leading digit.
abbrev pub by_columns : List ℕ → List ℕ
by_columns ws = reordered (λ S. transposed S node_length) ws

-- Back in the table's order. A snapshot has a row of S words for each of the four.
abbrev pub by_nodes : List ℕ → List ℕ
by_nodes ss = reordered (λ S. transposed node_length S) ss

-- ---- Taking and putting back.

-- 02: "New numbers: 22, snapshot and table differ in length, tested first."
abbrev pub snapshot_refusal : (snapshot ws : List ℕ) → Option ℕ → Option ℕ
snapshot_refusal ss ws others = unless (eqb (length ss) (length ws)) 22 others

-- 02: "Taking tests 3 and 4 on the table". It leaves the table as it is, and writes every word of the snapshot.
unfoldable pub take_snapshot : (ws out : List ℕ) → Changed
take_snapshot ws out = changed (snapshot_refusal out ws (table_refusal ws none)) out (by_columns ws)

-- 02: "putting back tests them on the result before it writes". The words that the table had are not tested.
unfoldable pub put_back : (snapshot ws : List ℕ) → Changed
put_back ss ws = changed (snapshot_refusal ss ws (table_refusal (by_nodes ss) none)) ws (by_nodes ss)

-- ---- What is promised of the words.

-- 02: "Putting it back gives the table taken, each word", over whatever words of its length.
abbrev pub PutsBackTaken : Type 0
PutsBackTaken =
    (ws out old : List ℕ)
    → (take_snapshot ws out).reply ≡ Accepted
    → length old ≡ length ws
    → put_back (take_snapshot ws out).words old ≡ record { reply = Accepted; words = ws }

-- 02: "and taking again gives the same snapshot": of every snapshot that is put back, taken or not.
abbrev pub TakesAgain : Type 0
TakesAgain =
    (ss old out : List ℕ)
    → (put_back ss old).reply ≡ Accepted
    → length out ≡ length ss
    → take_snapshot (put_back ss old).words out ≡ record { reply = Accepted; words = ss }

-- 02: "It holds the same words": each number as often.
abbrev pub SameWords : Type 0
SameWords =
    (ws out : List ℕ)
    → (take_snapshot ws out).reply ≡ Accepted
    → (n : ℕ)
    → count n (take_snapshot ws out).words ≡ count n ws

-- Where each word is: word c of node x is word x of column c.
pub record Placed (ws ss : List ℕ) : Type 0 where
  pub header : (i : ℕ) → i < header_length → get_or ss i 0 ≡ get_or ws i 0
  pub nodes :
      (x c : ℕ)
      → x < node_count ws
      → c < node_length
      → get_or ss (header_length + (node_count ws * c + x)) 0 ≡ get_or ws (node_at x + c) 0
  pub records : (i : ℕ) → node_at (node_count ws) ≤ i → get_or ss i 0 ≡ get_or ws i 0

abbrev pub EachPlaced : Type 0
EachPlaced =
    (ws out : List ℕ) → (take_snapshot ws out).reply ≡ Accepted → Placed ws (take_snapshot ws out).words
