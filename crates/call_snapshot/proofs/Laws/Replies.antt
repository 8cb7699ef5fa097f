-- The tests of a take and of a put, in 02's order: 22, then 3 and 4 of the words that are tested.
use Rattle.std.proofs.Common.{◌≡◌, ◌≢◌, sym, ap, ◌∙◌, true, List, ℕ, length, eq-eqb, ne_eqb}
use Rattle.std.proofs.Math.Option.{some, none}
use Rattle.machine.specs.Outcomes.Reply.{Reply, Accepted, Refused}
use Rattle.machine.specs.Shape.{length_ok}
use Rattle.machine.specs.Calls.{table_refusal, Changed}
use Rattle.machine.specs.Snapshots.{by_columns, by_nodes, take_snapshot, put_back}
use Rattle.machine.proofs.Shape.ShapeKept.{table-passes}
use Rattle.table_shape.proofs.Laws.PassedTable.{table-refused, table-passed}
use Rattle.call_snapshot.proofs.Laws.ResultTests.{result-length}

-- What is answered, with the words that are left.
abbrev left-with : Reply → List ℕ → Changed
left-with reply words = record { reply = reply; words = words }

-- A snapshot ss and a table ws.
module _ (ss ws : List ℕ) where
  pub take-differs : length ss ≢ length ws → left-with (Refused 22) ss ≡ take_snapshot ws ss
  unfolding take_snapshot
  take-differs h = rw (ne_eqb (length ss) (length ws) h)

  pub put-differs : length ss ≢ length ws → left-with (Refused 22) ws ≡ put_back ss ws
  unfolding put_back
  put-differs h = rw (ne_eqb (length ss) (length ws) h)

  module _ (same : length ss ≡ length ws) where
    pub take-refused : {n : ℕ} → some n ≡ table_refusal ws none → left-with (Refused n) ss ≡ take_snapshot ws ss
    unfolding take_snapshot
    take-refused said = rw (eq-eqb (length ss) (length ws) same, table-refused ws said none)

    pub put-refused : {n : ℕ} → some n ≡ table_refusal (by_nodes ss) none → left-with (Refused n) ws ≡ put_back ss ws
    unfolding put_back
    put-refused said = rw (eq-eqb (length ss) (length ws) same, table-refused (by_nodes ss) said none)

    pub taken : none ≡ table_refusal ws none → {words : List ℕ} → words ≡ by_columns ws
        → left-with Accepted words ≡ take_snapshot ws ss
    unfolding take_snapshot
    taken said e =
        ap (left-with Accepted) e
        ∙ rw (eq-eqb (length ss) (length ws) same, table-passes ws (table-passed ws said) none)

    pub put : none ≡ table_refusal (by_nodes ss) none → {words : List ℕ} → words ≡ by_nodes ss
        → left-with Accepted words ≡ put_back ss ws
    unfolding put_back
    put said e =
        ap (left-with Accepted) e
        ∙ rw (eq-eqb (length ss) (length ws) same, table-passes (by_nodes ss) (table-passed (by_nodes ss) said) none)

pub taken-long : (ws : List ℕ) → none ≡ table_refusal ws none → length_ok ws ≡ true
taken-long ws said = (table-passed ws said).length_passes

pub put-long : (ss : List ℕ) → none ≡ table_refusal (by_nodes ss) none → length_ok ss ≡ true
put-long ss said = sym (result-length ss) ∙ taken-long (by_nodes ss) said

-- What a take and a put rest on.
pub ruleset takes = (take-differs, take-refused, taken, taken-long)

pub ruleset puts = (put-differs, put-refused, put, put-long)
