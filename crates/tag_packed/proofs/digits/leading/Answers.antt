-- `tag_packed::digits::leading` meets its contract: the first digit is the tag's leading one.
use borrow.Kind.Array.{e_int, good_length}
use mir.Syntax.{w8}
use Rattle.tag_packed.proofs.Laws.Words.{leading-digit}
use Rattle.tag_packed.proofs.digits.leading.Goals as goal

pub returns : goal.returns
returns c =
    let digits = c.args.digits in
    leading-digit digits (good_length (e_int w8) 10 digits _ c.well_formed.0) c.requires
