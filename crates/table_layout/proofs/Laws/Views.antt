-- The parts of the table that the code lends and reads: the nodes' words, with each link and value, and a task's
-- record.
use mathlib.Core.Path.{◌≡◌, sym, ap, ◌∙◌}
use mathlib.Core.List.{List, []}
use Prim.Native.Nat.{ℕ, ◌+◌, ◌*◌, ◌-◌, ◌≤◌, ◌<◌}
use native.Mathlib.Nat.{add_assoc}
use native.Mathlib.Omega.{arith}
use lib.ListN.{length, get_or, drop, length-drop, get_or-eq_default}
use lib.Seq.{get_or-take, get_or-drop, length-take-le}
use borrow.Rule.Slice.PartMut.{mid_of}
use Rattle.machine.specs.Choice.{◌<?◌, if?◌then◌else◌}
use Rattle.machine.specs.Sides.{Side, left, right, side_number}
use Rattle.machine.specs.Values.{never, encode, decode}
use Rattle.machine.specs.Tasks.{no_node, fresh, task_of}
use Rattle.machine.specs.Table.{
  header_length,
  node_length,
  node_at,
  node_count,
  task_count,
  value_at,
  node_part,
  link_word,
  value_words,
  link,
  value,
  record_words,
  task,
  links_length,
}
use Rattle.machine.specs.Shape.{sizes_of, Sized}
use Rattle.machine.proofs.Basics.Choices.{if_yes}
use Rattle.machine.proofs.Words.ValueLaws.{stored-alike}
use Rattle.table_record.specs.Coded.{struct_of, task_meant}
use Rattle.table_layout.specs.Words.{HoldsNodes, HoldsNode, link_in, stored_in}
use Rattle.table_layout.proofs.Laws.NodeWords.{any-default}

-- As the code lends it: from node 0 to the place after the nodes.
pub nodes-part :
    (ws : List ℕ) {f e : ℕ} → f ≡ node_at 0 → e ≡ node_at (node_count ws) → mid_of f (e - f) ws ≡ node_part ws
nodes-part ws {f} {e} at end =
    let from : f ≡ header_length = omega arith in
    let n : e - f ≡ node_length * node_count ws = omega arith in
    ap (λ (n : ℕ). mid_of f n ws) n ∙ ap (λ (i : ℕ). mid_of i (node_length * node_count ws) ws) from

side-word : (s : Side) → side_number s < 2
side-word left = omega arith
side-word right = omega arith

-- A node's words, in the table and in a part of it from the header on.
module _
    (ws : List ℕ)
    (n x : ℕ)
    (in-part : node_length * x + node_length ≤ n)
    (in_table : node_at x + node_length ≤ length ws) where
  part-word :
      (c d : ℕ) → c < node_length → get_or ws (node_at x + c) 0 ≡ get_or (mid_of header_length n ws) (node_length * x + c) d
  part-word c d l =
      let i = node_length * x + c in
      ap (λ (j : ℕ). get_or ws j 0) (add_assoc header_length (node_length * x) c)
      ∙ any-default ws (header_length + i) 0 d (omega arith)
      ∙ sym (get_or-drop header_length ws i d)
      ∙ sym (get_or-take n (drop header_length ws) i d (omega arith))

  pub link-there : (s : Side) → link_word ws s x ≡ link_in (mid_of header_length n ws) s x
  link-there s = part-word (side_number s) no_node (let q = side-word s in omega arith)

  pub value_there : value_words ws x ≡ stored_in (mid_of header_length n ws) x
  value_there =
      stored-alike (mid_of header_length n ws) ws (value_at x) (node_length * x + links_length) (λ c h.
      ap (λ (j : ℕ). get_or ws j 0) (add_assoc (node_at x) links_length c)
      ∙ part-word (links_length + c) 0 (omega arith)
      ∙ ap (λ (j : ℕ). get_or (mid_of header_length n ws) j 0) (sym (add_assoc (node_length * x) links_length c)))

-- All the nodes' words are there.
pub part-long : (ws : List ℕ) → HoldsNodes ws → length (node_part ws) ≡ node_length * node_count ws
part-long ws room =
    length-take-le (node_length * node_count ws) (drop header_length ws)
    (let e = length-drop header_length ws in omega arith)

module _ (ws : List ℕ) (sized : Sized (sizes_of ws)) where
  pub nodes-long : length (node_part ws) ≡ node_length * node_count ws
  nodes-long = part-long ws (omega arith)

  past_end : (x c d : ℕ) → node_count ws ≤ x → get_or (node_part ws) (node_length * x + c) d ≡ d
  past_end x c d h = get_or-eq_default (node_part ws) d {n = node_length * x + c} (let e = nodes-long in omega arith)

  pub node-held : (x : ℕ) → x < node_count ws → HoldsNode (node_part ws) x
  node-held x h = let e = nodes-long in omega arith

  pub held-node : (x : ℕ) → HoldsNode (node_part ws) x → x < node_count ws
  held-node x h = let e = nodes-long in omega arith

  pub words-in : (x : ℕ) → x < node_count ws → value_words ws x ≡ stored_in (node_part ws) x
  words-in x h = value_there ws (node_length * node_count ws) x (omega arith) (omega arith)

  pub link-in : (s : Side) (x : ℕ) → link ws s x ≡ link_in (node_part ws) s x
  unfolding link
  link-in s x = go (x <? node_count ws)
    where
      go : (d : Dec (x < node_count ws)) → (if? d then link_word ws s x else no_node) ≡ link_in (node_part ws) s x
      go (yes h) = link-there ws (node_length * node_count ws) x (omega arith) (omega arith) s
      go (no h) = sym (past_end x (side_number s) no_node (omega arith))

  pub value_in : (x : ℕ) → value ws x ≡ decode (stored_in (node_part ws) x)
  unfolding value
  value_in x = ap decode (go (x <? node_count ws))
    where
      go : (d : Dec (x < node_count ws)) → (if? d then value_words ws x else encode never) ≡ stored_in (node_part ws) x
      go (yes h) = words-in x h
      go (no h) =
          stored-alike (node_part ws) [] 0 (node_length * x + links_length) (λ c l.
          sym (get_or-eq_default (node_part ws) 0 {n = node_length * x + links_length + c}
          (let e = nodes-long in omega arith)))

-- ---- A task's record.
pub task-read : (ws : List ℕ) (k : ℕ) → k < task_count ws
    → task_meant (struct_of (record_words ws k)) ≡ task ws k
unfolding task
task-read ws k h = sym (if_yes (k <? task_count ws) (task_of (record_words ws k)) fresh h)
