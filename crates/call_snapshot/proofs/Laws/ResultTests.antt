-- The tests of the table that a snapshot puts back, by the snapshot's own words: header and records stand at the same
-- places in both, and each word of a node stands in its column.
use mathlib.Core.Path.{◌≡◌, refl, sym, ap, ◌∙◌}
use mathlib.Core.Bool.{Bool, true, false, ◌&&◌}
use mathlib.Core.List.{List}
use Prim.Native.Nat.{ℕ, ◌+◌, ◌*◌, ◌≤◌, ◌<◌}
use native.Mathlib.Omega.{arith}
use lib.ListN.{length, get_or, take, drop, length-drop}
use lib.Seq.{length-take-le, get_or-take, get_or-drop, drop-drop}
use Rattle.machine.specs.declared.Stored.{Stored}
use Rattle.machine.specs.Choice.{◌<?◌}
use Rattle.machine.specs.Sides.{left, right}
use Rattle.machine.specs.Values.{stored_of, value_ok}
use Rattle.machine.specs.Tasks.{record_length}
use Rattle.machine.specs.Table.{
  node_length,
  node_at,
  record_at,
  value_at,
  node_count,
  task_count,
  growth,
  lane_count,
  node_part,
  link_word,
  record_words,
}
use Rattle.machine.specs.Shape.{length_ok, all_below, node_or_none, header_ok, node_ok, record_ok, shape_ok}
use Rattle.machine.specs.Snapshots.{transposed, by_nodes}
use Rattle.machine.proofs.Snapshots.Reordered.{
  nodes-keep,
  same_length,
  same-header,
  same-records,
  part-long,
  in-part,
  column-word,
}
use Rattle.machine.proofs.Snapshots.RoundTrips.{has-nodes, has-columns}
use Rattle.table_shape.specs.Promised.{task_ok}
use Rattle.table_shape.proofs.Laws.TableWords.{header-long}
use Rattle.call_snapshot.specs.Promised.{link_ok, links_ok, stored_ok, values_ok, columns_ok}
use Rattle.machine.proofs.Words.LentLaws.{all_alike}
use Rattle.call_snapshot.proofs.Laws.AllBelow.{all_both, all-joined}

-- ---- Where the snapshot has all its columns.
module _ (ss : List ℕ) (enough : node_at (node_count ss) ≤ length ss) where
  abbrev S : ℕ
  S = node_count ss

  word : (i : ℕ) → i < node_at 0 → get_or (by_nodes ss) i 0 ≡ get_or ss i 0
  word = same-header (λ S. transposed node_length S) nodes-keep ss enough

  length-alike : length_ok (by_nodes ss) ≡ length_ok ss
  length-alike =
      rw (
        same_length (λ S. transposed node_length S) nodes-keep ss enough,
        word 0 (omega arith),
        word 1 (omega arith),
        word 2 (omega arith),
        word 3 (omega arith),
      )

  header-alike : header_ok (by_nodes ss) ≡ header_ok ss
  unfolding all_below
  header-alike =
      rw (
        word 0 (omega arith),
        word 1 (omega arith),
        word 3 (omega arith),
        word 5 (omega arith),
        word 6 (omega arith),
        word 7 (omega arith),
        word 8 (omega arith),
        word 9 (omega arith),
        word 10 (omega arith),
        word 11 (omega arith),
        word 12 (omega arith),
        word 13 (omega arith),
        word 14 (omega arith),
        word 15 (omega arith),
      )

  -- ---- The records.
  from-record : (ws : List ℕ) (k : ℕ) → drop (record_at S k) ws ≡ drop (record_length * k) (drop (node_at S) ws)
  from-record ws k = sym (drop-drop (record_length * k) (node_at S) ws)

  record-alike : (k : ℕ) → record_words (by_nodes ss) k ≡ record_words ss k
  record-alike k =
      ap (λ (n : ℕ). take record_length (drop (record_at n k) (by_nodes ss))) (word 0 (omega arith))
      ∙ ap (take record_length)
      (from-record (by_nodes ss) k
      ∙ ap (drop (record_length * k)) (same-records (λ S. transposed node_length S) nodes-keep ss enough)
      ∙ sym (from-record ss k))

  task-alike : (k : ℕ) → task_ok (by_nodes ss) k ≡ task_ok ss k
  task-alike k =
      ap (λ (r : List ℕ). record_ok (node_count (by_nodes ss)) (growth (by_nodes ss)) (lane_count (by_nodes ss)) r)
      (record-alike k)
      ∙ rw (word 0 (omega arith), word 2 (omega arith), word 3 (omega arith))

  tasks-alike : all_below (task_count (by_nodes ss)) (task_ok (by_nodes ss)) ≡ all_below (task_count ss) (task_ok ss)
  tasks-alike =
      ap (λ (n : ℕ). all_below n (task_ok (by_nodes ss))) (word 1 (omega arith))
      ∙ all_alike (task_count ss) (task_ok (by_nodes ss)) (task_ok ss) (λ k h. task-alike k)

  -- ---- The nodes. Word x of column c.
  abbrev at : (c x : ℕ) → ℕ
  at c x = get_or ss (node_at 0 + (S * c + x)) 0

  abbrev value_in : ℕ → Stored
  value_in x = stored_of (at 3 x) (at 2 x)

  node_alike : (x : ℕ) → x < S → node_ok (by_nodes ss) x
      ≡ node_or_none S (at 0 x) && node_or_none S (at 1 x) && value_ok (value_in x)
  unfolding node_ok
  node_alike x h =
      let l : link_word (by_nodes ss) left x ≡ at 0 x = column-word ss enough x 0 h (omega arith) in
      let r : link_word (by_nodes ss) right x ≡ at 1 x = column-word ss enough x 1 h (omega arith) in
      let v : get_or (by_nodes ss) (value_at x) 0 ≡ at 2 x = column-word ss enough x 2 h (omega arith) in
      let place : value_at x + 1 ≡ node_at x + 3 = omega arith in
      let d : get_or (by_nodes ss) (value_at x + 1) 0 ≡ at 3 x =
      ap (λ (i : ℕ). get_or (by_nodes ss) i 0) place ∙ column-word ss enough x 3 h (omega arith) in
      rw (word 0 (omega arith), l, r, v, d)

  -- The columns as they are lent.
  abbrev links : List ℕ
  links = take (2 * S) (node_part ss)

  abbrev words : List ℕ
  words = take S (drop (2 * S) (node_part ss))

  abbrev digits : List ℕ
  digits = drop (3 * S) (node_part ss)

  links-long : length links ≡ S + S
  links-long =
      let two : 2 * S ≡ S + S = omega arith in
      length-take-le (2 * S) (node_part ss) (let e = part-long ss enough in omega arith) ∙ two

  words_long : length words ≡ S
  words_long =
      length-take-le S (drop (2 * S) (node_part ss))
      (let e = part-long ss enough in let d = length-drop (2 * S) (node_part ss) in omega arith)

  from-part : (i j : ℕ) → i ≡ j → j < node_length * S → get_or (node_part ss) i 0 ≡ get_or ss (node_at 0 + j) 0
  from-part i j e h = ap (λ (k : ℕ). get_or (node_part ss) k 0) e ∙ in-part ss enough j h

  link-there : (i c x : ℕ) → i ≡ S * c + x → i < 2 * S → S * c + x < node_length * S
      → link_ok S links i ≡ node_or_none S (at c x)
  link-there i c x e h k =
      ap (node_or_none S) (get_or-take (2 * S) (node_part ss) i 0 h ∙ from-part i (S * c + x) e k)

  value_there : (x : ℕ) → x < S → stored_ok words digits x ≡ value_ok (value_in x)
  value_there x h =
      let v : get_or words x 0 ≡ at 2 x =
      get_or-take S (drop (2 * S) (node_part ss)) x 0 h
      ∙ get_or-drop (2 * S) (node_part ss) x 0
      ∙ from-part (2 * S + x) (S * 2 + x) (omega arith) (omega arith) in
      let d : get_or digits x 0 ≡ at 3 x =
      get_or-drop (3 * S) (node_part ss) x 0 ∙ from-part (3 * S + x) (S * 3 + x) (omega arith) (omega arith) in
      ap (λ (n : ℕ). value_ok (stored_of n (get_or words x 0))) d ∙ ap (λ (n : ℕ). value_ok (stored_of (at 3 x) n)) v

  links-alike : links_ok S links
      ≡ all_below S (λ x. node_or_none S (at 0 x)) && all_below S (λ x. node_or_none S (at 1 x))
  links-alike =
      ap (λ (n : ℕ). all_below n (link_ok S links)) links-long
      ∙ all-joined S S (link_ok S links)
      ∙ ap (λ (b : Bool). b && all_below S (λ x. link_ok S links (S + x)))
      (all_alike S (link_ok S links) (λ x. node_or_none S (at 0 x)) (λ x h.
      link-there x 0 x (omega arith) (omega arith) (omega arith)))
      ∙ ap (λ (b : Bool). all_below S (λ x. node_or_none S (at 0 x)) && b)
      (all_alike S (λ x. link_ok S links (S + x)) (λ x. node_or_none S (at 1 x)) (λ x h.
      link-there (S + x) 1 x (omega arith) (omega arith) (omega arith)))

  values-alike : values_ok words digits ≡ all_below S (λ x. value_ok (value_in x))
  values-alike =
      ap (λ (n : ℕ). all_below n (stored_ok words digits)) words_long
      ∙ all_alike S (stored_ok words digits) (λ x. value_ok (value_in x)) value_there

  nodes-alike : all_below (node_count (by_nodes ss)) (node_ok (by_nodes ss)) ≡ columns_ok ss
  nodes-alike =
      let l : ℕ → Bool = λ (x : ℕ). node_or_none S (at 0 x) in
      let r : ℕ → Bool = λ (x : ℕ). node_or_none S (at 1 x) in
      let v : ℕ → Bool = λ (x : ℕ). value_ok (value_in x) in
      ap (λ (n : ℕ). all_below n (node_ok (by_nodes ss))) (word 0 (omega arith))
      ∙ all_alike S (node_ok (by_nodes ss)) (λ x. l x && r x && v x) node_alike
      ∙ all_both S (λ x. l x && r x) v
      ∙ ap (λ (b : Bool). b && all_below S v) (all_both S l r ∙ sym links-alike)
      ∙ ap (λ (b : Bool). links_ok S links && b) (sym values-alike)

  shape-alike : shape_ok (by_nodes ss) ≡ header_ok ss && columns_ok ss && all_below (task_count ss) (task_ok ss)
  unfolding shape_ok
  shape-alike =
      ap (λ (b : Bool).
      b
      && all_below (node_count (by_nodes ss)) (node_ok (by_nodes ss))
      && all_below (task_count (by_nodes ss)) (task_ok (by_nodes ss)))
      header-alike
      ∙ ap (λ (b : Bool). header_ok ss && b && all_below (task_count (by_nodes ss)) (task_ok (by_nodes ss))) nodes-alike
      ∙ ap (λ (b : Bool). header_ok ss && columns_ok ss && b) tasks-alike

-- ---- For every snapshot.
not_so : (b : Bool) → (b ≡ true → ⊥) → b ≡ false
not_so true h = absurd (h refl)
not_so false h = refl

pub result-length : (ss : List ℕ) → length_ok (by_nodes ss) ≡ length_ok ss
result-length ss = go (length ss <? node_at (node_count ss))
  where
    go : Dec (length ss < node_at (node_count ss)) → length_ok (by_nodes ss) ≡ length_ok ss
    go (no h) = length-alike ss (omega arith)
    go (yes h) =
        not_so (length_ok (by_nodes ss)) (λ e. let k = has-columns ss e in absurd (omega arith))
        ∙ sym (not_so (length_ok ss) (λ e. let k = has-nodes ss e in absurd (omega arith)))

pub result-shape : (ss : List ℕ) → length_ok ss ≡ true
    → header_ok ss && columns_ok ss && all_below (task_count ss) (task_ok ss) ≡ shape_ok (by_nodes ss)
result-shape ss passes = sym (shape-alike ss (has-nodes ss passes))

-- What the tests of a result rest on.
pub ruleset results = (result-length, header-long)
