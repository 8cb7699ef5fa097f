-- What calls mark one after another is what the definitions mark: the hats, what the tasks hold, both links of a node.
use mathlib.Core.Path.{◌≡◌, refl, sym, ap, ◌∙◌}
use mathlib.Core.List.{List, [], ◌∷◌, ◌++◌}
use Prim.Native.Nat.{ℕ, suc, ◌+◌, ◌-◌, ◌<◌, ◌≤◌}
use native.Mathlib.Omega.{arith}
use native.Mathlib.Numerals.{add-one}
use lib.ListN.{get_or}
use Rattle.machine.specs.Sides.{Side, left, right}
use Rattle.machine.specs.Tasks.{Task}
use Rattle.machine.specs.Table.{node_count, task_count, hat, node_part, link, record_words, task}
use Rattle.machine.specs.Allocate.{hats_from, held_by, held_from, roots, Marking, unmarked, mark, mark_all, visit, first_unmarked, allocate}
use Rattle.machine.proofs.SlotRule.Marking.{allocate-joined}
use Rattle.table_record.specs.declared.Task as Coded
use Rattle.table_record.specs.Coded.{struct_of, task_meant}
use Rattle.table_layout.specs.Words.{link_in}
use Rattle.table_layout.proofs.Laws.Views.{link-in, task-read}
use Rattle.table_search.specs.Marked.{Marked, with_mark, with_marks, visited, spread, Searchable, hats, held}

-- ---- One list after another.
mark_all-append : (S : ℕ) (m : Marking) (xs ys : List ℕ) → mark_all S m (xs ++ ys) ≡ mark_all S (mark_all S m xs) ys
unfolding mark_all
mark_all-append S m [] ys = refl
mark_all-append S m (x ∷ xs) ys = mark_all-append S (mark S m x) xs ys

-- ---- One turn of the loop over the lanes, with l of them passed: the two hats read are marked.
module _ (ws : List ℕ) (m : Marked) (count l : ℕ) where
  abbrev hats-left : ℕ → List ℕ
  hats-left i = hats_from ws (count - i) i

  pub hats-kept : {v u : Marked} {a b : ℕ} → l < count → a ≡ hat ws l left → b ≡ hat ws l right
      → v ≡ with_mark (with_mark m a) b → with_marks m (hats-left l) ≡ u → with_marks v (hats-left (l + 1)) ≡ u
  unfolding hats_from mark_all
  hats-kept h is-left is_right e q =
      let n : count - l ≡ suc (count - suc l) = omega arith in
      rw (e, is-left, is_right, add-one) (rw n at q)

  pub hats-end : {u : Marked} → count ≤ l → with_marks m (hats-left l) ≡ u → m ≡ u
  unfolding hats_from mark_all
  hats-end h q = let n : count - l ≡ 0 = omega arith in rw n at q

-- ---- One turn of the loop over the tasks, with k of them passed: what the record read holds is marked.
module _ (ws : List ℕ) (m : Marked) (count k : ℕ) where
  abbrev held-left : ℕ → List ℕ
  held-left i = held_from ws (count - i) i

  pub held-kept : {v u : Marked} {t : Coded.Task} → k < count → count ≡ task_count ws → t ≡ struct_of (record_words ws k)
      → v ≡ with_marks m (held_by (task_meant t)) → with_marks m (held-left k) ≡ u → with_marks v (held-left (k + 1)) ≡ u
  unfolding held_from
  held-kept {v} h all is e q =
      let n : count - k ≡ suc (count - suc k) = omega arith in
      let own = held_by (task ws k) in
      let marked : v ≡ with_marks m own
      = e ∙ ap (λ (t : Task). with_marks m (held_by t)) (ap task_meant is ∙ task-read ws k (omega arith)) in
      rw (marked, add-one)
      (ap (λ (v : Marking). record { nodes = m.nodes; marking = v })
      (sym (mark_all-append m.nodes m.marking own (held-left (suc k)))) ∙ (rw n at q))

  pub held-end : {u : Marked} → count ≤ k → with_marks m (held-left k) ≡ u → m ≡ u
  unfolding held_from mark_all
  held-end h q = let n : count - k ≡ 0 = omega arith in rw n at q

-- ---- Both links of the node at a place of the queue, read in the nodes' words and marked, are the visit.
pub links-marked : (ws : List ℕ) (m : Marked) (i : ℕ) {v : Marked} {ns : List ℕ} {a b : ℕ} → Searchable ws m
    → ns ≡ node_part ws
    → a ≡ link_in ns left (get_or m.marking.queue i 0)
    → b ≡ link_in ns right (get_or m.marking.queue i 0)
    → v ≡ with_mark (with_mark m a) b
    → v ≡ visited ws m i
unfolding visit
links-marked ws m i {ns = ns} s is e f g =
    let x = get_or m.marking.queue i 0 in
    let read : (s' : Side) → link_in ns s' x ≡ link ws s' x
    = λ s'. ap (λ (l : List ℕ). link_in l s' x) is ∙ sym (link-in ws s.well_sized.sized s' x) in
    g ∙ rw (e ∙ read left, f ∙ read right, s.same_nodes)

-- ---- One turn of the loop over the queue, with the places before i passed.
pub searchable-kept : {ws : List ℕ} {m v : Marked} (i : ℕ) → v ≡ visited ws m i → Searchable ws m → Searchable ws v
searchable-kept i e s = rw e (record { well_sized = s.well_sized; same_nodes = s.same_nodes })

-- ---- The hats, what the tasks hold, the queue and the search, one after another, are the allocation.
pub all-joined : (ws : List ℕ) (hint x : ℕ) {m h t s : Marked} → m.nodes ≡ node_count ws → m.marking ≡ unmarked
    → h ≡ with_marks m (hats ws) → t ≡ with_marks h (held ws) → s ≡ spread ws t
    → x ≡ first_unmarked s.nodes s.marking.marks s.nodes hint → x ≡ allocate ws hint
unfolding roots
all-joined ws hint x {m} {h} {t} {s} same nothing e f g k =
    let S = node_count ws in
    let both : t ≡ with_marks (with_marks m (hats ws)) (held ws) = f ∙ ap (λ (h : Marked). with_marks h (held ws)) e in
    let marked : t.marking ≡ mark_all S unmarked (roots ws)
    = ap (λ (m : Marked). m.marking) both ∙ rw (same, nothing) (sym (mark_all-append S unmarked (hats ws) (held ws))) in
    let nodes : s.nodes ≡ S = ap (λ (m : Marked). m.nodes) g ∙ ap (λ (m : Marked). m.nodes) both ∙ same in
    allocate-joined ws hint x t.marking s.marking marked (ap (λ (m : Marked). m.marking) g) (rw nodes at k)
