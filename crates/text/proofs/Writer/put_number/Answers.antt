-- `text::Writer::put_number` meets its contract: the digits that `io::decimal` gives are those of the number.
use mathlib.Core.Path.{◌≡◌, ap, ◌∙◌}
use native.Mathlib.Omega.{arith}
use lib.ListN.{length, take}
use Rattle.text.specs.Numerals.{decimal}
use Rattle.text.proofs.Laws.Decimals.{fewest-digits, decimal-length}
use Rattle.text.proofs.Writer.put_number.Goals as goal
use Rattle.text.proofs.Writer.put_number.Goals.{Start}

pub put-requires : goal.put-requires
put-requires c =
    let d = c.decimal-k in
    let text : take d.result d.new.out ≡ decimal c.args.n = d.ensures.digits ∙ fewest-digits c.args.n d.result d.ensures.len in
    omega (arith, decimal-length c.args.n (omega arith), ap length text)

pub returns-clause-written : goal.returns-clause-written
returns-clause-written c =
    let d = c.decimal-k in
    rw (d.ensures.digits ∙ fewest-digits c.args.n d.result d.ensures.len) at c.put.ensures.written
