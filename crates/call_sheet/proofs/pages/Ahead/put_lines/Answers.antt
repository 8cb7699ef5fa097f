use mathlib.Core.Path.{◌∙◌}
use Prim.Native.Nat.{◌*◌}
use native.Mathlib.Omega.{arith}
use lib.ListN.{take}
use Rattle.text.proofs.Laws.WritingLaws.{part-stored}
use Rattle.text_page.specs.Page.{line_length, line, cells, per_line}
use Rattle.text_page.proofs.Laws.Lengths.{tag-line-length}
use Rattle.call_sheet.specs.Found.{tags_ahead}
use Rattle.call_sheet.proofs.Laws.Written.{lines_next}
use Rattle.call_sheet.proofs.pages.Ahead.put_lines.Goals as goal

pub loop-i-preserved : goal.loop-i-preserved
loop-i-preserved c =
    let l = c.loop-i in
    let tags = tags_ahead l.rest in
    let done = c.put_line-rest.ensures in
    let stored = part-stored l.out (line (cells (take per_line tags))) (line_length * l.i)
    (omega (arith, tag-line-length tags)) done.out_after in
    lines_next l.out tags l.i (omega arith) stored done.others ∙ l.invariant
