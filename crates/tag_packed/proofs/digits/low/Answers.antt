-- `tag_packed::digits::low` meets its contract: a digit and two fours make the low part.
use native.Mathlib.Omega.{arith}
use borrow.Kind.Array.{e_int, good_length}
use mir.Syntax.{w8}
use Rattle.tag.proofs.DigitLaws.{digit_at}
use Rattle.tag_packed.proofs.Laws.Words.{low-digits}
use Rattle.tag_packed.proofs.digits.low.Goals as goal

pub overflow_mul-result : goal.overflow_mul-result
overflow_mul-result c =
    omega (arith, digit_at c.args.digits 1 c.requires)

pub overflow_add-result : goal.overflow_add-result
overflow_add-result c =
    let upper = c.four-upper in
    omega (arith, digit_at c.args.digits 1 c.requires, upper.ensures.1)

pub overflow_add-result-2 : goal.overflow_add-result-2
overflow_add-result-2 c =
    let upper = c.four-upper in
    let lower = c.four-lower in
    omega (
      arith,
      digit_at c.args.digits 1 c.requires,
      upper.ensures.1,
      lower.ensures.1,
    )

pub returns : goal.returns
returns c =
    let digits = c.args.digits in
    let ten = good_length (e_int w8) 10 digits _ c.well_formed.0 in
    rw (c.four-upper.ensures.0, c.four-lower.ensures.0)
    (low-digits digits ten c.requires)
