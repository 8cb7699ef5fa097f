-- `line_pop::after_read` meets its contract: the tests are the cases of `after_read`.
use mathlib.Core.Path.{sym, ◌∙◌}
use Rattle.machine.specs.Sides.{side_of}
use Rattle.machine.proofs.Basics.Choices.{equalᵛ, unequalᵛ}
use Rattle.machine.specs.Values.{decode}
use Rattle.line_parts.proofs.Laws.Choosing.{read-bag, read-N, read-other}
use Rattle.line_parts.proofs.Laws.Compared.{are-same, are-other}
use Rattle.line_pop.proofs.after_read.Goals as goal
use Rattle.line_pop.proofs.after_read.Goals.{then-is, else-is}

pub returns-then-bag_ok : goal.returns-then-bag_ok
returns-then-bag_ok c =
    let a = c.args in rw (read-bag (side_of a.o) a.v (sym c.bag_ok.ensures ∙ c.if-bag_ok.true))

pub returns-then-is-2 : goal.returns-then-is-2
returns-then-is-2 c =
    let o = side_of c.args.o in
    let no-bag = sym c.bag_ok.ensures ∙ c.if-bag_ok.false in
    elim c.if-is.branch [
      | then-is w ↦ rw (read-N o (decode c.args.v) (sym c.is.ensures ∙ w.if-is.true))
      | else-is w ↦
          let x = are-same w.is-else-is.ensures (sym w.value-is ∙ c.if-is-2.true) in
          rw (read-other o c.args.v no-bag (sym c.is.ensures ∙ w.if-is.false), equalᵛ x)
    ]

pub returns-else-is-2 : goal.returns-else-is-2
returns-else-is-2 c =
    let o = side_of c.args.o in
    let no-bag = sym c.bag_ok.ensures ∙ c.if-bag_ok.false in
    elim c.if-is.branch [
      | then-is w ↦ cc (w.value-is, c.if-is-2.false)
      | else-is w ↦
          let x = are-other w.is-else-is.ensures (sym w.value-is ∙ c.if-is-2.false) in
          rw (read-other o c.args.v no-bag (sym c.is.ensures ∙ w.if-is.false), unequalᵛ x)
    ]
