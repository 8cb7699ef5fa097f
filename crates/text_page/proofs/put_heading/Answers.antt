-- `text_page::put_heading` meets its contract: the title stands over a blank line.
use mathlib.Core.Path.{◌≡◌, sym, ap, ◌∙◌}
use mathlib.Core.List.{◌++◌}
use native.Mathlib.Omega.{arith}
use lib.ListN.{length, drop}
use lib.Seq.{sets, sets-eq, length-sets}
use Rattle.text.specs.Text.{bytes}
use Rattle.text.specs.Numerals.{with_zeros}
use Rattle.text.proofs.Laws.WritingLaws.{part-stored}
use Rattle.text_page.proofs.Laws.LineStores.{heading-stored}
use Rattle.text_page.proofs.Laws.Lengths.{zeros-length}
use Rattle.text_page.proofs.put_heading.Goals as goal

pub returns : goal.returns
returns c =
    let a = c.args in
    let line = c.put_blank_line.new.out in
    let kept = c.put_blank_line.auto.out in
    let name : c.copy_from_slice.new.self ++ drop 5 line ≡ sets line 0 (bytes "LANE ") =
    rw c.copy_from_slice.ensures.after (sym (sets-eq (bytes "LANE ") line 0 (omega arith))) in
    let long = ap length name ∙ length-sets line 0 (bytes "LANE ") in
    heading-stored a.out.now a.count c.put_blank_line.ensures name
    (part-stored _ (with_zeros 4 a.count) 5 (omega (arith, zeros-length 4 a.count, long, kept)) c.put_four.ensures)
