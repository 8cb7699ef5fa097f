-- What a task sees of the table is what it sees of the lent part and its hat.
use mathlib.Core.Path.{◌≡◌, fun_ext}
use mathlib.Core.List.{List}
use Prim.Native.Nat.{ℕ}
use Rattle.machine.specs.Shape.{sizes_of, Sized}
use Rattle.machine.specs.Sides.{Side, opposite}
use Rattle.machine.specs.Table.{hat, node_part}
use Rattle.machine.specs.Lines.{seen}
use Rattle.line_parts.specs.Lent.{memory_in}
use Rattle.table_layout.proofs.Laws.Views.{link-in, value_in}

pub seen-in : (ws : List ℕ) → Sized (sizes_of ws) → (l : ℕ) (s : Side) → seen l s ws
    ≡ memory_in s (node_part ws) (hat ws l s)
seen-in ws sized l s =
    λ i. record {
      out = fun_ext (link-in ws sized s) i;
      inn = fun_ext (link-in ws sized (opposite s)) i;
      val = fun_ext (value_in ws sized) i;
      hat = hat ws l s;
    }
