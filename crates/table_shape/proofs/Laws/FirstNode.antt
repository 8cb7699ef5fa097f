-- A node of the table is the first of the words from its place on, and these words as a slice that moves on.
use mathlib.Core.Path.{◌≡◌, sym, ap, ◌∙◌}
use mathlib.Core.Bool.{◌&&◌}
use mathlib.Core.List.{List}
use Prim.Native.Nat.{ℕ, ◌+◌, ◌*◌, ◌-◌, ◌≤◌, ◌<◌}
use native.Mathlib.Nat.{add_assoc}
use native.Mathlib.Omega.{arith}
use lib.ListN.{length, get_or, take, drop, length-drop}
use lib.Seq.{get_or-drop, drop-drop, take_all}
use Rattle.machine.specs.Sides.{Side, left, right}
use Rattle.machine.specs.Tasks.{no_node}
use Rattle.machine.specs.Table.{node_length, node_at, node_count, value_at, link_word, value_words, links_length}
use Rattle.machine.specs.Values.{value_ok}
use Rattle.machine.specs.Shape.{node_or_none, node_ok}
use Rattle.machine.proofs.Words.ValueLaws.{stored-alike}
use Rattle.table_layout.specs.Words.{link_in, stored_in}
use Rattle.table_layout.proofs.Laws.NodeWords.{any-default}
use Rattle.table_shape.specs.Promised.{first_ok}

module _ (ws : List ℕ) (x : ℕ) (within : node_at x + node_length ≤ length ws) where
  abbrev from : List ℕ
  from = drop (node_at x) ws

  word_first : (c d : ℕ) → c < node_length → get_or ws (node_at x + c) 0 ≡ get_or from c d
  word_first c d l = any-default ws (node_at x + c) 0 d (omega arith) ∙ sym (get_or-drop (node_at x) ws c d)

  link-first : (s : Side) → link_word ws s x ≡ link_in from s 0
  link-first left = word_first 0 no_node (omega arith)
  link-first right = word_first 1 no_node (omega arith)

  value-first : value_words ws x ≡ stored_in from 0
  value-first =
      stored-alike from ws (value_at x) (node_length * 0 + links_length) (λ c h.
      ap (λ (j : ℕ). get_or ws j 0) (add_assoc (node_at x) links_length c) ∙ word_first (links_length + c) 0 (omega arith))

  pub node-first : node_ok ws x ≡ first_ok (node_count ws) (drop (node_at x) ws)
  unfolding node_ok
  node-first =
      let S = node_count ws in
      ap (λ l. node_or_none S l && node_or_none S (link_word ws right x) && value_ok (value_words ws x)) (link-first left)
      ∙ ap (λ r. node_or_none S (link_in from left 0) && node_or_none S r && value_ok (value_words ws x)) (link-first right)
      ∙ ap (λ v. node_or_none S (link_in from left 0) && node_or_none S (link_in from right 0) && value_ok v) value-first

-- A slice without its first words.
pub moved_on : (l : List ℕ) (a : ℕ) → take (length l - a) (drop a l) ≡ drop a l
moved_on l a = take_all (length l - a) (drop a l) (let e = length-drop a l in omega arith)

-- From a node's place on, and then from the next node's.
module _ (ws : List ℕ) (x : ℕ) {rest : List ℕ} (here : rest ≡ drop (node_at x) ws) where
  pub left-long : node_at x + node_length ≤ length ws → node_length ≤ length rest
  left-long within =
      let e : length rest ≡ length ws - node_at x = ap length here ∙ length-drop (node_at x) ws in omega arith

  pub next-left : take (length rest - node_length) (drop node_length rest) ≡ drop (node_at (x + 1)) ws
  next-left =
      let next : node_at x + node_length ≡ node_at (x + 1) = omega arith in
      moved_on rest node_length
      ∙ ap (drop node_length) here
      ∙ drop-drop node_length (node_at x) ws
      ∙ ap (λ (i : ℕ). drop i ws) next
