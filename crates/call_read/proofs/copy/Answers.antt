use mathlib.Core.Path.{sym, ap, ◌∙◌}
use mathlib.Core.Option.{Option}
use mathlib.Core.List.{List}
use Prim.Native.Nat.{ℕ, ◌+◌, ◌*◌, ◌-◌}
use native.Mathlib.Omega.{arith}
use lib.Seq.{sets}
use Rattle.tag.specs.Tags.{tag_words}
use Rattle.machine.specs.declared.Stored.{Stored}
use Rattle.machine.specs.Values.{number}
use Rattle.machine.specs.Sides.{right}
use Rattle.machine.specs.Table.{link, value_words}
use Rattle.lane_walk.specs.Walks.{ahead}
use Rattle.call_read.proofs.ReadLaws.{written, here, one_written}
use Rattle.call_read.proofs.copy.Goals as goal

pub loop-i-preserved : goal.loop-i-preserved
loop-i-preserved c =
    let l = c.loop-i in
    let ws = c.args.lanes.table.now in
    let n = c.args.n in
    let bag = here ws n l.i l.x c.loop-i-test.true l.invariant.bags-left in
    let rest = ahead ws (link ws right l.x) in
    let words = c.put_tag.ensures
    ∙ ap (λ (u : Stored). sets l.out (2 * l.i) (tag_words (number u))) c.value.ensures
    in record {
      bags-left = rw c.next-x.ensures bag.fewer;
      out-alike = rw (c.next-x.ensures, words)
          (one_written l.i (number (value_words ws l.x)) (n - (l.i + 1)) rest l.out bag.fewer (omega arith)
          ∙ ap (λ (bags : Option (List ℕ)). written l.i bags l.out) (sym bag.first-bag)
          ∙ l.invariant.out-alike);
    }
