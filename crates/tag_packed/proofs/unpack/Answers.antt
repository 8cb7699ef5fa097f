use Rattle.std.proofs.Common.{◌*◌, arith, add-one, length-set}
use borrow.Kind.Array.{e_int, good_length}
use mir.Syntax.{w8}
use Rattle.tag_packed.specs.Packed.{halves}
use Rattle.tag.proofs.Stores.{filled-end}
use Rattle.tag_packed.proofs.Laws.Halves.{length-halves, halves-next}
use Rattle.tag_packed.proofs.unpack.Goals as goal

pub loop-i-preserved : goal.loop-i-preserved
loop-i-preserved c =
    let l = c.loop-i in
    let five = c.args.five in
    let long = good_length (e_int w8) 5 five _ c.well_formed.0 in (
      simp length-set l.invariant.0,
      rw (add-one l.i) (halves-next l.digits five l.i (omega arith) (omega arith) l.invariant.1),
    )

pub returns : goal.returns
returns c =
    let l = c.loop-i in
    let five = c.args.five in
    let long = good_length (e_int w8) 5 five _ c.well_formed.0 in
    filled-end l.digits (halves five) (2 * l.i) (omega arith) (omega (arith, length-halves five)) l.invariant.1
