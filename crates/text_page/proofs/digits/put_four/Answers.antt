-- `text_page::digits::put_four` meets its contract.
use Prim.Native.Nat.{◌%◌}
use native.Mathlib.Omega.{arith}
use Rattle.text.specs.Numerals.{with_zeros}
use Rattle.text.proofs.Laws.WritingLaws.{part-stored}
use Rattle.text_page.proofs.Laws.Digits.{four-stored}
use Rattle.text_page.proofs.Laws.Lengths.{zeros-length}
use Rattle.text_page.proofs.digits.put_four.Goals as goal

pub returns : goal.returns
returns c =
    let first = c.put_two in
    let low = c.args.n % 100 in
    four-stored c.args.out.now 0 c.args.n first.ensures
    (part-stored first.new.out (with_zeros 2 low) 2 (omega (arith, zeros-length 2 low, first.auto.out)) c.put_two-2.ensures)
