use Rattle.std.proofs.Common.{◌≡◌, ◌+◌, ◌*◌, ◌-◌, ◌≤◌, refl, sym, ap, ◌∙◌, arith, length, take, take_all}
use native.Mathlib.Nat.{mul-suc}
use borrow.Rule.Slice.PartMut.{mid_len}
use Rattle.machine.specs.Table.{node_length}
use Rattle.machine.specs.Snapshots.{rows, transposed}
use Rattle.call_snapshot.specs.Promised.{column_of}
use Rattle.call_snapshot.proofs.Laws.Fronts.{no_row, one-column, column-ends}
use Rattle.call_snapshot.proofs.orders.ByColumnsOrder.write.Invariants.{word_in}
use Rattle.call_snapshot.proofs.orders.ByColumnsOrder.write.Goals as goal

pub loop-c-init : goal.loop-c-init
loop-c-init c =
    let a = c.args in
    let none_yet : a.slots * 0 ≡ 0 = omega arith in
    ap (λ k. take k a.to.now) none_yet ∙ no_row a.to.now a.slots (word_in a.from.now)

pub loop-c-preserved : goal.loop-c-preserved
loop-c-preserved c =
    let l = c.loop-c in
    let a = c.args in
    let at = a.slots * l.c in
    let next : a.slots * (l.c + 1) ≡ at + a.slots = omega (arith, mul-suc a.slots l.c) in
    let fits : at + a.slots ≤ length l.to = omega (arith, column-ends a.slots l.c at refl (omega arith)) in
    let n : (at + a.slots) - at ≡ a.slots = omega arith in
    let part = mid_len at (at + a.slots) l.to fits ∙ n in
    let written = rw next at c.write_column.ensures in
    rw next
    (one-column l.to (word_in a.from.now) a.slots l.c at c.write_column.new.column (omega arith) l.invariant
    (written ∙ ap (λ m. column_of l.c m a.from.now) part) (rw next at c.write_column.auto.column ∙ part))

pub returns : goal.returns
unfolding transposed
returns c =
    let l = c.loop-c in
    let a = c.args in
    let e : l.c ≡ node_length = omega arith in
    let all : a.slots * l.c ≡ a.slots * node_length = ap (λ m. a.slots * m) e in
    sym (take_all (a.slots * l.c) l.to (omega (arith, all)))
    ∙ l.invariant
    ∙ ap (λ m. rows m a.slots (word_in a.from.now)) e
