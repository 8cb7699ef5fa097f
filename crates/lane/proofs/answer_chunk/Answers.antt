-- `lane::answer_chunk` meets its contract: each part of the chunk is answered, and written.
use mathlib.Core.Path.{refl, ◌∙◌}
use native.Mathlib.Omega.{arith}
use Rattle.lane.proofs.TurnLaws.{answering-starts, answering-goes-on, answering-stops}
use Rattle.lane.proofs.answer_chunk.Goals as goal

pub loop-from-init : goal.loop-from-init
loop-from-init g c = record { same_space = refl; answering = answering-starts _ c.requires.in_order }

pub loop-from-preserved : goal.loop-from-preserved
loop-from-preserved g c =
    let kept = c.loop-from.invariant in
    let done = c.serve_lines-served.ensures in
    record {
      same_space = done.same_space ∙ kept.same_space;
      answering =
          answering-goes-on _ kept.answering _ done.onward done.serves done.makes.in_order done.at_in_bounds
          c.serve_lines-served.auto.out;
    }

pub returns-then-is_err-clause-taken : goal.returns-then-is_err-clause-taken
returns-then-is_err-clause-taken g c =
    let done = c.serve_lines-served.ensures in
    let further = done.onward.further c.loop-from-test.true in
    answering-stops _ {out = c.serve_lines-served.new.out} (omega (arith, further))
    (answering-goes-on _ c.loop-from.invariant.answering _ done.onward done.serves done.makes.in_order
    done.at_in_bounds c.serve_lines-served.auto.out)
