-- `call_sheet::pages::Ahead::put_line` meets its contract. The loop's invariant: the line of the tags so far is written.
use mathlib.Core.Path.{◌≡◌}
use mathlib.Core.List.{List}
use Prim.Native.Nat.{ℕ}
use lib.ListN.{take}
use lib.Seq.{sets}
use Rattle.text_page.specs.Page.{line, cells}
use Rattle.lane_walk.specs.Walks.{node_after}
use Rattle.call_sheet.specs.Found.{tags_ahead}
use Rattle.call_sheet.proofs.pages.Ahead.put_line.Given as goal

-- What holds before each turn.
pub record Turn (table blank out tags : List ℕ) (first from c : ℕ) : Type 0 where
  pub node-reached : from ≡ node_after table c first
  pub out-is : out ≡ sets blank 0 (line (cells (take c tags)))

abbrev pub invariant-loop-c : goal.invariant-loop-c
invariant-loop-c l =
    Turn l.lanes.table.now l.initial.out l.out (tags_ahead l.self) l.self.from l.from l.c
