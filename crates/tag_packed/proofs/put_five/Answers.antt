-- `tag_packed::put_five` meets its contract: the bytes are a part of the slice.
use Rattle.std.proofs.Common.{◌+◌, ◌-◌, arith}
use borrow.Kind.Array.{e_int, good_length}
use mir.Syntax.{w8}
use Rattle.tag_packed.proofs.Laws.Filling.{part-stored}
use Rattle.tag_packed.proofs.put_five.Goals as goal

pub returns : goal.returns
returns c =
    let a = c.args in
    let long = good_length (e_int w8) 5 a.five _ c.well_formed.1.1.0 in
    part-stored a.bytes.now a.five a.at (a.at + 5 - a.at) c.copy_from_slice.ensures.after (omega arith) (omega arith)
