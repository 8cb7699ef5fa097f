-- Request 2026-10: what a take and a put that are accepted passed and wrote; a snapshot put back is the table taken,
-- and taken again it is the same snapshot.
use mathlib.Core.Path.{◌≡◌, refl, sym, ap, ◌∙◌, subst}
use mathlib.Core.Bool.{true}
use mathlib.Core.List.{List}
use mathlib.Core.Option.{Option, some, none}
use Prim.Native.Nat.{ℕ, ◌+◌, ◌-◌, ◌≤◌, ◌<◌}
use native.Mathlib.Omega.{arith}
use lib.Dec.{eqb}
use lib.ListN.{length, get_or, length-take}
use lib.Seq.{get_or-drop}
use borrow.Author.Tests.{eqb-true, eq-eqb}
use Rattle.machine.specs.Outcomes.Reply.{Accepted, Refused as Reply-Refused}
use Rattle.machine.specs.Choice.{◌<?◌}
use Rattle.machine.specs.Counts.{count}
use Rattle.machine.specs.Table.{header_length, node_length, node_at, node_count}
use Rattle.machine.specs.Shape.{length_ok, WellFormed}
use Rattle.machine.specs.Calls.{table_refusal, Changed, changed}
use Rattle.machine.specs.Snapshots.{
  transposed,
  by_columns,
  by_nodes,
  snapshot_refusal,
  take_snapshot,
  put_back,
  PutsBackTaken,
  TakesAgain,
  SameWords,
  Placed,
  EachPlaced,
}
use Rattle.machine.proofs.Basics.Contradiction.{clash}
use Rattle.machine.proofs.Basics.Tests.{test-passed, tests_left}
use Rattle.machine.proofs.Shape.ShapeLaws.{well_sized}
use Rattle.machine.proofs.Shape.ShapeKept.{table-passes, is-accepted}
use Rattle.machine.proofs.Snapshots.Reordered.{
  columns-keep,
  nodes-keep,
  same_count,
  length-reordered,
  same_length,
  same-header,
  same-records,
  nodes-of-columns,
  columns-of-nodes,
  node-word,
  count-columns,
}

-- ---- A change that is accepted or refused.
pub no-refusal : (r : Option ℕ) (before after : List ℕ) → (changed r before after).reply ≡ Accepted → r ≡ none
no-refusal (some n) before after e = clash (cc)
no-refusal none before after e = refl

pub refused-with : (r : Option ℕ) (before after : List ℕ) {n : ℕ} → (changed r before after).reply ≡ Reply-Refused n
    → r ≡ some n
refused-with (some m) before after e = cc
refused-with none before after e = clash (cc)

refused-leaves : (r : Option ℕ) (before after : List ℕ) (n : ℕ) → (changed r before after).reply ≡ Reply-Refused n
    → (changed r before after).words ≡ before
refused-leaves (some m) before after n e = refl
refused-leaves none before after n e = clash (cc)

-- ---- Room for the nodes.

-- A table that passes 3 has all its nodes.
pub has-nodes : (ws : List ℕ) → length_ok ws ≡ true → node_at (node_count ws) ≤ length ws
has-nodes ws passes = let Z = (well_sized ws passes).sized in omega (arith, Z)

-- Where the result of a put passes 3, the snapshot has all its columns.
pub has-columns : (ss : List ℕ) → length_ok (by_nodes ss) ≡ true → node_at (node_count ss) ≤ length ss
has-columns ss passes = go (length ss <? node_at (node_count ss))
  where
    go : Dec (length ss < node_at (node_count ss)) → node_at (node_count ss) ≤ length ss
    go (no h) = omega arith
    go (yes h) =
        let Z = well_sized (by_nodes ss) passes in
        let sized = Z.sized in
        let one_task = Z.one_task in
        let same = same_count (λ S. transposed node_length S) nodes-keep ss in
        let long = length-reordered (λ S. transposed node_length S) nodes-keep ss in
        let front = length-take header_length ss in
        absurd (omega arith)

columns-long : (ws : List ℕ) → node_at (node_count ws) ≤ length ws → length (by_columns ws) ≡ length ws
columns-long ws enough = same_length (λ S. transposed S node_length) columns-keep ws enough

nodes-long : (ss : List ℕ) → node_at (node_count ss) ≤ length ss → length (by_nodes ss) ≡ length ss
nodes-long ss enough = same_length (λ S. transposed node_length S) nodes-keep ss enough

-- ---- What is accepted.

-- What was tested is well formed and as long as the other words, and these were written over.
pub record WrittenOver (tested other words : List ℕ) (c : Changed) : Type 0 where
  pub same_length : length other ≡ length tested
  pub well-formed : WellFormed tested
  pub is : c ≡ record { reply = Accepted; words = words }

pub taken : (ws out : List ℕ) → (take_snapshot ws out).reply ≡ Accepted
    → WrittenOver ws out (by_columns ws) (take_snapshot ws out)
unfolding take_snapshot
taken ws out accepted =
    let e = no-refusal (snapshot_refusal out ws (table_refusal ws none)) out (by_columns ws) accepted in
    record {
      same_length = eqb-true (length out) (length ws) (test-passed (eqb (length out) (length ws)) 22 _ e);
      well-formed = is-accepted ws (tests_left (eqb (length out) (length ws)) 22 _ e);
      is = ap (λ (r : Option ℕ). changed r out (by_columns ws)) e;
    }

pub put : (ss old : List ℕ) → (put_back ss old).reply ≡ Accepted
    → WrittenOver (by_nodes ss) old (by_nodes ss) (put_back ss old)
unfolding put_back
put ss old accepted =
    let e = no-refusal (snapshot_refusal ss old (table_refusal (by_nodes ss) none)) old (by_nodes ss) accepted in
    let W = is-accepted (by_nodes ss) (tests_left (eqb (length ss) (length old)) 22 _ e) in
    record {
      same_length =
          sym (eqb-true (length ss) (length old) (test-passed (eqb (length ss) (length old)) 22 _ e))
          ∙ sym (nodes-long ss (has-columns ss W.length_passes));
      well-formed = W;
      is = ap (λ (r : Option ℕ). changed r old (by_nodes ss)) e;
    }

-- The other way round: what is well formed and as long is accepted.
take-accepted : (ws out : List ℕ) → WellFormed ws → length out ≡ length ws
    → take_snapshot ws out ≡ record { reply = Accepted; words = by_columns ws }
unfolding take_snapshot
take-accepted ws out W long = rw (eq-eqb (length out) (length ws) long, table-passes ws W none)

put-accepted : (ss old : List ℕ) → WellFormed (by_nodes ss) → length ss ≡ length old
    → put_back ss old ≡ record { reply = Accepted; words = by_nodes ss }
unfolding put_back
put-accepted ss old W long = rw (eq-eqb (length ss) (length old) long, table-passes (by_nodes ss) W none)

pub put_refused : (ss ws : List ℕ) (n : ℕ) → (put_back ss ws).reply ≡ Reply-Refused n → (put_back ss ws).words ≡ ws
unfolding put_back
put_refused ss ws n e =
    refused-leaves (snapshot_refusal ss ws (table_refusal (by_nodes ss) none)) ws (by_nodes ss) n e

-- ---- What is promised.
module _ (ws out : List ℕ) (accepted : (take_snapshot ws out).reply ≡ Accepted) where
  room : node_at (node_count ws) ≤ length ws
  room = has-nodes ws (taken ws out accepted).well-formed.length_passes

  words-taken : (take_snapshot ws out).words ≡ by_columns ws
  words-taken = ap (λ (c : Changed). c.words) (taken ws out accepted).is

  -- What a snapshot taken puts back.
  pub taken_back : by_nodes (take_snapshot ws out).words ≡ ws
  taken_back = ap by_nodes words-taken ∙ nodes-of-columns ws room

  put-taken : (old : List ℕ) → length old ≡ length ws
      → put_back (take_snapshot ws out).words old ≡ record { reply = Accepted; words = ws }
  put-taken old long =
      put-accepted (take_snapshot ws out).words old
      (subst WellFormed (sym taken_back) (taken ws out accepted).well-formed)
      (ap length words-taken ∙ columns-long ws room ∙ sym long)
      ∙ ap (λ (vs : List ℕ). record { reply = Accepted; words = vs }) taken_back

  placed : Placed ws (by_columns ws)
  placed =
      record {
        header = same-header (λ S. transposed S node_length) columns-keep ws room;
        nodes = node-word ws room;
        records = λ i h. records i h;
      }
    where
      records : (i : ℕ) → node_at (node_count ws) ≤ i → get_or (by_columns ws) i 0 ≡ get_or ws i 0
      records i h =
          let at = node_at (node_count ws) in
          let place : at + (i - at) ≡ i = omega arith in
          ap (λ (j : ℕ). get_or (by_columns ws) j 0) (sym place)
          ∙ sym (get_or-drop at (by_columns ws) (i - at) 0)
          ∙ ap (λ (l : List ℕ). get_or l (i - at) 0)
          (same-records (λ S. transposed S node_length) columns-keep ws room)
          ∙ get_or-drop at ws (i - at) 0
          ∙ ap (λ (j : ℕ). get_or ws j 0) place

pub puts-back-taken : PutsBackTaken
puts-back-taken ws out old accepted long = put-taken ws out accepted old long

pub takes-again : TakesAgain
takes-again ss old out accepted long =
    let D = put ss old accepted in
    let enough = has-columns ss D.well-formed.length_passes in
    let words : (put_back ss old).words ≡ by_nodes ss = ap (λ (c : Changed). c.words) D.is in
    ap (λ (vs : List ℕ). take_snapshot vs out) words
    ∙ take-accepted (by_nodes ss) out D.well-formed (long ∙ sym (nodes-long ss enough))
    ∙ ap (λ (vs : List ℕ). record { reply = Accepted; words = vs }) (columns-of-nodes ss enough)

pub same-words : SameWords
same-words ws out accepted b =
    ap (count b) (words-taken ws out accepted) ∙ count-columns ws (room ws out accepted) b

pub each_placed : EachPlaced
each_placed ws out accepted = subst (Placed ws) (sym (words-taken ws out accepted)) (placed ws out accepted)
