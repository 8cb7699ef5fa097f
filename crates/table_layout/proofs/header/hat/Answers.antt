-- `table_layout::header::hat` meets its contract: the word at the hat's place.
use mathlib.Core.Path.{sym, ap, ◌∙◌}
use Prim.Native.Nat.{ℕ}
use lib.ListN.{get_or}
use Rattle.machine.specs.Sides.{side_of}
use Rattle.table_layout.proofs.Laws.HeaderWords.{hat-read}
use Rattle.table_layout.proofs.header.hat.Goals as goal

pub returns : goal.returns
returns c =
    let a = c.args in
    ap (λ (i : ℕ). get_or a.table.now i 0) c.hat_at.ensures.0
    ∙ sym (hat-read a.lane c.requires.1 (side_of a.side) a.table.now)
