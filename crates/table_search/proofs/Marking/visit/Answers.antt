-- A queued number is a node, so both of its links are words of the table.
use mathlib.Core.Path.{◌≡◌, sym, ap, ◌∙◌, subst}
use mathlib.Core.Bool.{Bool}
use mathlib.Core.List.{List}
use Prim.Native.Nat.{ℕ, ◌<◌}
use native.Mathlib.Omega.{arith}
use native.Mathlib.Decide.{ℕ_discrete}
use lib.ListN.{length, get_or}
use Rattle.machine.specs.Table.{node_part}
use Rattle.table_layout.specs.Words.{HoldsNode}
use Rattle.table_layout.proofs.Laws.Views.{node-held}
use Rattle.table_search.specs.Arrays.{marked_of, Ready}
use Rattle.table_search.specs.Marked.{Marked, with_mark, Searchable}
use Rattle.table_search.proofs.Laws.Arrays.{tail-in-queue, queued-low, padded-at}
use Rattle.table_search.proofs.Laws.Marked.{links-marked}
use Rattle.table_search.proofs.Marking.visit.Goals as goal

-- The place is of a queued number, which is a node.
module _ {ms : List Bool} {q : List ℕ} {tail : ℕ} {m : Marked} (r : Ready ms q tail) (is : marked_of ms q tail ≡ m)
    (place : ℕ) (h : place < m.marking.tail) where
  queued : place < tail
  queued = rw (ap (λ (m : Marked). m.marking.tail) is) h

  in-queue : place < length q
  in-queue = omega (arith, queued, tail-in-queue r)

  node-low : get_or q place 0 < m.nodes
  node-low = rw (ap (λ (m : Marked). m.nodes) is) at (queued-low r place queued)

  queued_number : get_or m.marking.queue place 0 ≡ get_or q place 0
  queued_number = ap (λ (m : Marked). get_or m.marking.queue place 0) (sym is) ∙ padded-at q place

  -- The number is a node of the part.
  node_in : (ws : List ℕ) {ns : List ℕ} → Searchable ws m → ns ≡ node_part ws → HoldsNode ns (get_or q place 0)
  node_in ws s e =
      let x = get_or q place 0 in
      subst (λ (l : List ℕ). HoldsNode l x) (sym e)
      (node-held ws s.well_sized.sized x (rw s.same_nodes at node-low))

pub offset_bounds-self-inside-place : goal.offset_bounds-self-inside-place
offset_bounds-self-inside-place c =
    omega (arith, in-queue c.self.invariant c.self.view_is c.args.place c.requires.1)

pub bounds-self-inside-place : goal.bounds-self-inside-place
bounds-self-inside-place c = in-queue c.self.invariant c.self.view_is c.args.place c.requires.1

pub link-left-requires : goal.link-left-requires
link-left-requires c = (
  node_in c.self.invariant c.self.view_is c.args.place c.requires.1 c.args.table.now c.requires.0 c.part-nodes.ensures,
  omega arith,
)

pub link-right-requires : goal.link-right-requires
link-right-requires c = (
  node_in c.self.invariant c.self.view_is c.args.place c.requires.1 c.args.table.now c.requires.0 c.part-nodes.ensures,
  omega arith,
)

pub returns : goal.returns
unfolding ℕ_discrete
returns c =
    let m = c.args.self.now in
    let same = queued_number c.self.invariant c.self.view_is c.args.place c.requires.1 in
    links-marked c.args.table.now m c.args.place c.requires.0 c.part-nodes.ensures
    (rw same c.link-left.ensures) (rw same c.link-right.ensures)
    (c.mark-2.ensures ∙ ap (λ (m : Marked). with_mark m c.link-right.result) c.mark.ensures)
