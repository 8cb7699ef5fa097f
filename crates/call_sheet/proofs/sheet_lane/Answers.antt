-- `call_sheet::sheet_lane` meets its contract: from the node that the walk had, the tags of the page are ahead.
use mathlib.Core.Path.{◌≡◌, refl, sym, ap, ◌∙◌}
use mathlib.Core.List.{List}
use mathlib.Core.Option.{some}
use Prim.Native.Nat.{ℕ}
use native.Mathlib.Omega.{arith}
use Rattle.machine.specs.Sides.{left, right}
use Rattle.machine.specs.Table.{hat, link}
use Rattle.machine.specs.Calls.{lane}
use Rattle.machine.proofs.Shape.ShapeLaws.{well_sized}
use Rattle.lane_walk.specs.Walks.{ahead}
use Rattle.lane_walk.proofs.Laws.Ahead.{lane-ahead}
use Rattle.call_sheet.proofs.Laws.Refused.{left_there, count_small, page-written}
use Rattle.call_sheet.proofs.sheet_lane.Goals as goal

-- The first node of a lane.
abbrev first : List ℕ → ℕ → ℕ
first ws l = link ws right (hat ws l left)

is-ahead : (ws : List ℕ) (l : ℕ) → ahead ws (first ws l) ≡ lane ws l
is-ahead ws l = lane-ahead ws l refl

pub invariant_of-put_page : goal.invariant_of-put_page
invariant_of-put_page c =
    let a = c.args in
    let ws = a.lanes.table.now in
    let there = left_there ws (first ws a.l) a.page a.out.now (lane ws a.l) (is-ahead ws a.l) c.in_ok-located.ensures in
    record { counted = there ∙ ap some (sym c.saturating_sub-left.ensures) }

pub put_page-requires : goal.put_page-requires
put_page-requires c =
    let a = c.args in
    let ws = a.lanes.table.now in
    let few = count_small ws (first ws a.l) a.page a.out.now (lane ws a.l) (is-ahead ws a.l) c.in_ok-located.ensures in
    let sizes = well_sized ws a.lanes.linked.length_passes in
    (omega (arith, few, sizes.most_nodes), omega arith)

pub returns : goal.returns
returns c =
    let a = c.args in
    let ws = a.lanes.table.now in
    page-written ws (first ws a.l) a.page a.out.now (lane ws a.l) (is-ahead ws a.l) c.in_ok-located.ensures
    (omega arith) (omega arith) c.put_page.ensures
