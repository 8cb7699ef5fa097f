-- `line_remove::line60` meets its contract: a link to a node.
use lib.ListN.{get_or}
use Rattle.machine.specs.Sides.{side_of}
use Rattle.machine.specs.Lines.{act}
use Rattle.machine.proofs.Basics.Choices.{test-unequal}
use Rattle.table_record.specs.Coded.{with_register}
use Rattle.table_layout.specs.Words.{link_in}
use Rattle.line_parts.specs.Lent.{line_of, next_done}
use Rattle.line_parts.proofs.Laws.Ready.{by_code}
use Rattle.line_remove.proofs.line60.Goals as goal

pub returns : goal.returns
unfolding line_of act
returns c g f =
    let t = c.args.t in
    let a = c.in_ok-a.ensures.node in
    let b = link_in c.args.ns.now (side_of t.side) (get_or t.registers 0 0) in
    let linked = rw (c.link-b.ensures, a.is) at c.if-b-eq-NONE.false in
    rw (c.next.ensures, c.with.ensures, c.link-b.ensures, a.is, test-unequal a.through, test-unequal linked)
    (by_code c.requires (λ u. next_done c.args.hat (with_register u 1 b) 62))
