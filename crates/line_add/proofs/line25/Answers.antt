-- `line_add::line25` meets its contract: the swap fails by either comparison, and ends by the operation.
use Rattle.machine.specs.Lines.{act, dcas, out≔, val≔}
use Rattle.machine.proofs.Basics.Choices.{test-equal, test-unequal, equalᵛ, unequalᵛ}
use Rattle.table_record.specs.Coded.{task_meant, with_register, with_count}
use mathlib.Core.List.{[], ◌∷◌}
use lib.ListN.{get_or}
use Rattle.machine.specs.Sides.{side_of}
use Rattle.machine.specs.Values.{N}
use Rattle.machine.specs.Tasks.{no_node}
use Rattle.line_parts.proofs.Laws.Choosing.{push-spliced}
use Rattle.line_parts.specs.Lent.{line_of, next_done}
use Rattle.line_parts.proofs.Laws.Ready.{by_code, by-record}
use Rattle.line_parts.proofs.Laws.Compared.{are-same, are-other}
use Rattle.line_add.proofs.line25.Goals as goal
use Rattle.line_add.proofs.line25.Goals.{else-outward-t-via-then-outward-t+else-x, else-outward-t-via-else-outward-t}

pub returns-then-t-eq-PUSH : goal.returns-then-t-eq-PUSH
unfolding line_of act dcas
returns-then-t-eq-PUSH c g f =
    let t = c.args.t in
    let a = c.in_ok-a.ensures.node in
    let linked = rw (c.link-outward.ensures, a.is) at c.if-outward-t.true in
    let x = rw (c.value.ensures, a.is) at c.is-x.ensures in
    rw (
      c.next.ensures,
      c.counting.ensures,
      c.with.ensures,
      c.set_value.ensures,
      c.of.ensures,
      c.set_link.ensures,
      a.is,
      test-unequal a.through,
      test-equal linked,
      equalᵛ (are-same x c.if-x.true),
      push-spliced (out≔ (get_or t.registers 0 0) (get_or t.registers 3 0) ∷ val≔ (get_or t.registers 0 0) (N (side_of t.side)) ∷ []) (task_meant t) t.operation
          c.if-t-eq-PUSH.true,
    )
    (by-record c.requires.canonical _ (λ u. next_done c.args.hat (with_count (with_register u 3 no_node) 0) 2))

pub returns : goal.returns
unfolding line_of act dcas
returns c g f =
    let a = c.in_ok-a.ensures.node in
    let R = c.requires in
    let h = c.args.hat in
    elim c.else-outward-t.branch [
      | else-outward-t-via-then-outward-t+else-x w ↦
          let linked = rw (c.link-outward.ensures, a.is) at w.if-outward-t.true in
          let x = rw (c.value.ensures, a.is) at c.is-x.ensures in
          rw (c.next-2.ensures, test-unequal a.through, test-equal linked, unequalᵛ (are-other x w.if-x.false))
          (by_code R (λ u. next_done h u 15))
      | else-outward-t-via-else-outward-t w ↦
          let not-linked = rw (c.link-outward.ensures, a.is) at w.if-outward-t.false in
          rw (c.next-2.ensures, test-unequal a.through, test-unequal not-linked) (by_code R (λ u. next_done h u 15))
    ]
