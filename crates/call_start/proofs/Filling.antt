-- A list filled from the front: what is written so far, and what is still to come.
use mathlib.Core.Path.{◌≡◌, sym, ap, ◌∙◌}
use mathlib.Core.List.{List, ◌++◌, append_assoc, append-nil}
use Prim.Native.Nat.{ℕ, suc, ◌+◌, ◌-◌, ◌*◌, ◌≤◌, ◌<◌}
use native.Mathlib.Omega.{arith}
use lib.ListN.{length, take}
use lib.Seq.{sets, length-sets, length-take-le, take-append-le, take-append-add}
use borrow.Rule.Slice.PartMut.{put_mid, post_of}
use Rattle.machine.specs.Sides.{Side, left, right}
use Rattle.machine.specs.Values.{never, X}
use Rattle.machine.specs.Tasks.{no_node, fresh, words_of}
use Rattle.machine.specs.Table.{node_length, header_words, node_words, node_at, most_lanes}
use Rattle.machine.specs.Calls.{times, start_hat, start_nodes, start_words}
use Rattle.table_layout.specs.Words.{HoldsHeader, hat_in}
use Rattle.table_layout.proofs.Laws.Fronts.{front-grows}

-- The front up to n, and m times the list e after it.
abbrev pub filling : (t : List ℕ) (n m : ℕ) → List ℕ → List ℕ
filling t n m e = take n t ++ times m e

-- One more of the list written, one less to come.
pub filling-more :
    (t e : List ℕ) (n n' m m' : ℕ)
    → n' ≡ n + length e
    → n' ≤ length t
    → m ≡ suc m'
    → filling (sets t n e) n' m' e ≡ filling t n m e
unfolding times
filling-more t e n n' m m' p h q =
    rw (p, q)
    (ap (λ (l : List ℕ). l ++ times m' e) (front-grows t e n (omega arith)) ∙ append_assoc (take n t) e (times m' e))

-- Nothing is to come.
pub filling-done : (t e : List ℕ) (n m : ℕ) → m ≡ 0 → filling t n m e ≡ take n t
unfolding times
filling-done t e n m q = rw q (append-nil (take n t))

-- ---- The sentinels: those of the lanes before l are written, and those of m lanes are to come.
abbrev pub sentinels : (ns : List ℕ) (n m l : ℕ) → List ℕ
sentinels ns n m l = take n ns ++ start_nodes m l

-- The words of lane l's two sentinels, written one after the other.
abbrev pub written : (ns : List ℕ) (l : ℕ) → List ℕ
written ns l =
    sets (sets ns (node_length * (2 * l)) (node_words no_node (2 * l + 1) (X left))) (node_length * (2 * l + 1))
    (node_words (2 * l) no_node (X right))

pub sentinels-more :
    (ns : List ℕ) (l m m' : ℕ)
    → node_length * (2 * (l + 1)) ≤ length ns
    → m ≡ suc m'
    → sentinels (written ns l) (node_length * (2 * (l + 1))) m' (l + 1) ≡ sentinels ns (node_length * (2 * l)) m l
unfolding start_nodes
sentinels-more ns l m m' h q =
    let first = node_words no_node (2 * l + 1) (X left) in
    let second = node_words (2 * l) no_node (X right) in
    let at = node_length * (2 * l) in
    let long = length-sets ns at first in
    let e₁ : node_length * (2 * l + 1) ≡ at + node_length = omega arith in
    let e₂ : node_length * (2 * (l + 1)) ≡ at + node_length + node_length = omega arith in
    let e₃ : l + 1 ≡ suc l = omega arith in
    rw (e₁, e₂, e₃, q)
    (ap (λ (t : List ℕ). t ++ start_nodes m' (suc l))
    (front-grows (sets ns at first) second (at + node_length) (omega arith))
    ∙ ap (λ (t : List ℕ). (t ++ second) ++ start_nodes m' (suc l)) (front-grows ns first at (omega arith))
    ∙ append_assoc (take at ns ++ first) second (start_nodes m' (suc l))
    ∙ append_assoc (take at ns) first (second ++ start_nodes m' (suc l)))

pub sentinels-done : (ns : List ℕ) (n m l : ℕ) → m ≡ 0 → sentinels ns n m l ≡ take n ns
unfolding start_nodes
sentinels-done ns n m l q = rw q (append-nil (take n ns))

-- ---- The header, with the hats of all lanes.
pub header-started :
    (S T g lanes : ℕ) (t hats : List ℕ)
    → ((l : ℕ) → (s : Side) → l < most_lanes → hat_in hats l s ≡ start_hat lanes l s)
    → sets t 0 (header_words S T g lanes 0 (T - 1) (hat_in hats))
    ≡ sets t 0 (header_words S T g lanes 0 (T - 1) (start_hat lanes))
header-started S T g lanes t hats h =
    rw (
      h 0 left (omega arith),
      h 0 right (omega arith),
      h 1 left (omega arith),
      h 1 right (omega arith),
      h 2 left (omega arith),
      h 2 right (omega arith),
      h 3 left (omega arith),
      h 3 right (omega arith),
    )

-- ---- The table, piece by piece: the header, which stands before node 0, the nodes' part, the tasks.
module _ (S T g lanes : ℕ) (t₀ t₁ ns t₂ : List ℕ) (m : ℕ) (long : HoldsHeader t₀) where
  abbrev head : List ℕ
  head = header_words S T g lanes 0 (T - 1) (start_hat lanes)

  abbrev unused : List ℕ
  unused = times (S - 2 * lanes) (node_words no_node no_node never)

  pub table-started :
      {from : ℕ}
      → from ≡ node_at 0
      → t₁ ≡ sets t₀ 0 head
      → node_length * S ≤ length ns
      → take (node_length * S) ns ≡ start_nodes lanes 0 ++ unused
      → t₂ ≡ take (node_at S) (put_mid from m t₁ ns) ++ times T (words_of fresh)
      → t₂ ≡ start_words S T g lanes
  unfolding start_words
  table-started {from} at e₁ enough e e₂ =
      let l₁ : length t₁ ≡ length t₀ = rw e₁ (length-sets t₀ 0 head) in
      let header : take (node_at 0) t₁ ≡ head = rw e₁ (front-grows t₀ head 0 (omega arith)) in
      let header-long : length (take (node_at 0) t₁) ≡ node_at 0 = length-take-le (node_at 0) t₁ (omega arith) in
      let after = ns ++ post_of (node_at 0) m t₁ in
      let front : take (node_at S) (put_mid (node_at 0) m t₁ ns) ≡ take (node_at 0) t₁ ++ take (node_length * S) ns
      = ap (λ (n : ℕ). take (n + node_length * S) (take (node_at 0) t₁ ++ after)) (sym header-long)
      ∙ take-append-add (take (node_at 0) t₁) after (node_length * S)
      ∙ ap (λ (l : List ℕ). take (node_at 0) t₁ ++ l)
      (take-append-le (node_length * S) ns (post_of (node_at 0) m t₁) enough) in
      let nodes = append_assoc (start_nodes lanes 0) unused (times T (words_of fresh)) in
      let laid = ap (λ (f : ℕ). take (node_at S) (put_mid f m t₁ ns)) at in
      rw (e₂, laid, front, header, e) (ap (λ (l : List ℕ). head ++ l) nodes)
