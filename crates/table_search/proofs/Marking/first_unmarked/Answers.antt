-- Each answer is one case of what two scans find.
use mathlib.Core.Path.{sym, ap, ◌∙◌}
use native.Mathlib.Omega.{arith}
use Rattle.std.proofs.Common.{Option, Some, None}
use Rattle.std.specs.List.{position}
use mathlib.Core.Path.{◌≡◌}
use mathlib.Core.Bool.{Bool, not}
use mathlib.Core.List.{List, map}
use Prim.Native.Nat.{ℕ, ◌+◌, ◌-◌, ◌<◌}
use lib.ListN.{length, take, drop, length-drop}
use lib.Seq.{take_all}
use Rattle.machine.specs.Allocate.{first_unmarked}
use Rattle.table_search.specs.Arrays.{padded, number}
use Rattle.table_search.specs.Marked.{Marked, node_or_none}
use Rattle.table_search.proofs.Laws.Searched.{found-after, found-before}
use Rattle.table_search.proofs.Marking.first_unmarked.Goals as goal

-- What is found in the marking that the slice of marks has.
abbrev searched : ℕ → Marked → ℕ
searched hint m = first_unmarked m.nodes m.marking.marks m.nodes hint

module _ (ms : List Bool) (hint : ℕ) (low : hint < length ms) where
  all-after : take (length ms - hint) (drop hint ms) ≡ drop hint ms
  all-after = take_all (length ms - hint) (drop hint ms) (omega (arith, length-drop hint ms))

  after : (i : ℕ) → Some i ≡ position not (take (length ms - hint) (drop hint ms))
      → hint + i ≡ first_unmarked (length ms) (padded (map number ms)) (length ms) hint
  after i e = found-after ms hint low i (rw all-after at (sym e))

  before : (r : Option ℕ) → None ≡ position not (take (length ms - hint) (drop hint ms)) → r ≡ position not (take hint ms)
      → node_or_none r ≡ first_unmarked (length ms) (padded (map number ms)) (length ms) hint
  before r e f = found-before ms hint low (rw all-after at (sym e)) r f

pub returns-in-Some : goal.returns-in-Some
returns-in-Some c =
    let hint = c.args.hint in
    let is = c.self.view_is in
    after c.self.inside.marks.now hint (rw (ap (λ (m : Marked). m.nodes) is) c.requires) c.in-Some.i c.in-Some.ensures
    ∙ ap (searched hint) is

pub returns-in_err-i : goal.returns-in_err-i
returns-in_err-i c =
    let hint = c.args.hint in
    let is = c.self.view_is in
    ap node_or_none c.from_residual.ensures
    ∙ before c.self.inside.marks.now hint (rw (ap (λ (m : Marked). m.nodes) is) c.requires) None c.in_default.ensures
    c.in_err-i.ensures
    ∙ ap (searched hint) is

pub returns : goal.returns
returns c =
    let hint = c.args.hint in
    let is = c.self.view_is in
    before c.self.inside.marks.now hint (rw (ap (λ (m : Marked). m.nodes) is) c.requires) (Some c.in_ok-i.i)
    c.in_default.ensures c.in_ok-i.ensures
    ∙ ap (searched hint) is
