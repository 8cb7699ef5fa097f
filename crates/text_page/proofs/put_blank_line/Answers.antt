-- `text_page::put_blank_line` meets its contract.
use mathlib.Core.Path.{sym}
use native.Mathlib.Omega.{arith}
use lib.Seq.{length-take-le}
use Rattle.text_page.specs.Page.{column_count}
use Rattle.text_page.proofs.Laws.LineStores.{blanks-stored, feed-stored}
use Rattle.text_page.proofs.put_blank_line.Goals as goal

pub slice_bounds-fill-end-2 : goal.slice_bounds-fill-end-2
slice_bounds-fill-end-2 c = sym (length-take-le column_count c.args.out.now (omega arith))

pub returns : goal.returns
returns c =
    let out = c.args.out.now in
    feed-stored out 0 (blanks-stored out (omega arith) (c.fill.ensures.after (λ y h. h)))
