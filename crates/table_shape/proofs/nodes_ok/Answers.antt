use mathlib.Core.Path.{◌≡◌, ap, sym, ◌∙◌}
use Prim.Native.Nat.{ℕ, ◌+◌, ◌≤◌, ◌<◌}
use native.Mathlib.Omega.{arith}
use mathlib.Core.List.{List}
use lib.ListN.{length, drop}
use Rattle.machine.specs.Table.{node_length, node_at, node_count}
use mathlib.Core.Bool.{true}
use Rattle.machine.specs.Shape.{length_ok, all_below, node_ok}
use Rattle.machine.proofs.Shape.ShapeLaws.{well_sized}
use Rattle.table_shape.specs.Promised.{first_ok}
use Rattle.table_shape.proofs.Laws.TableWords.{header-long}
use Rattle.table_shape.proofs.Laws.Below.{none_below, one-tested}
use Rattle.table_shape.proofs.Laws.FirstNode.{node-first, moved_on, left-long, next-left}
use Rattle.table_shape.proofs.nodes_ok.Goals as goal

pub slots-n-requires : goal.slots-n-requires
slots-n-requires c = header-long c.args.table.now c.requires

-- Node 0 stands within the table.
first-within : (t : List ℕ) {f : ℕ} → f ≡ node_at 0 → length_ok t ≡ true → f ≤ length t
first-within t is passes = omega (arith, is, header-long t passes)

pub slice_bounds-rest-count : goal.slice_bounds-rest-count
slice_bounds-rest-count c = first-within c.args.table.now c.node_at-first.ensures c.requires

pub slice_bounds-rest-start : goal.slice_bounds-rest-start
slice_bounds-rest-start c = first-within c.args.table.now c.node_at-first.ensures c.requires

pub loop-init : goal.loop-init
loop-init c =
    let t = c.args.table.now in (
      sym (none_below (node_ok t)),
      moved_on t c.node_at-first.result ∙ ap (λ (n : ℕ). drop n t) c.node_at-first.ensures,
    )

-- The loop's number is a node's, and the node that the words left begin with stands in the table.
node-within :
    (t : List ℕ) (x : ℕ) {n : ℕ} → length_ok t ≡ true → n ≡ node_count t → x < n → node_at x + node_length ≤ length t
node-within t x passes counted low = omega (arith, (well_sized t passes).sized, counted)

pub node_ok-ok-requires : goal.node_ok-ok-requires
node_ok-ok-requires c =
    let t = c.args.table.now in
    let l = c.loop in
    left-long t l.counter l.invariant.1 (node-within t l.counter c.requires c.slots-n.ensures c.loop-test.true)

pub slice_bounds-rest-count-in-loop : goal.slice_bounds-rest-count-in-loop
slice_bounds-rest-count-in-loop c =
    let t = c.args.table.now in
    let l = c.loop in
    left-long t l.counter l.invariant.1 (node-within t l.counter c.requires c.slots-n.ensures c.loop-test.true)

pub slice_bounds-rest-start-in-loop : goal.slice_bounds-rest-start-in-loop
slice_bounds-rest-start-in-loop c =
    let t = c.args.table.now in
    let l = c.loop in
    left-long t l.counter l.invariant.1 (node-within t l.counter c.requires c.slots-n.ensures c.loop-test.true)

pub loop-preserved : goal.loop-preserved
loop-preserved c =
    let t = c.args.table.now in
    let l = c.loop in
    let low = c.loop-test.true in
    let tested =
    c.node_ok-ok.ensures
    ∙ ap (λ (S : ℕ). first_ok S l.rest.now) c.slots-n.ensures
    ∙ ap (first_ok (node_count t)) l.invariant.1
    ∙ sym (node-first t l.counter (node-within t l.counter c.requires c.slots-n.ensures low)) in
    (one-tested (node_ok t) l.counter l.invariant.0 tested, next-left t l.counter l.invariant.1)

pub returns : goal.returns
returns c =
    let t = c.args.table.now in
    let l = c.loop in
    let e : l.counter ≡ node_count t = omega (arith, c.loop-test.false, c.slots-n.ensures, l.auto.counter-end) in
    l.invariant.0 ∙ ap (λ n. all_below n (node_ok t)) e
