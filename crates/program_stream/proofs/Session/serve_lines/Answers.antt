-- `program_stream::Session::serve_lines` meets its contract: each line served goes on from what the lines before it left.
use mathlib.Core.Path.{refl, ◌∙◌}
use native.Mathlib.Omega.{arith}
use Rattle.program_stream.proofs.Laws.MeantLaws.{bytes-made}
use Rattle.program_stream.proofs.Laws.ServingLaws.{serving-starts, serving-goes-on}
use Rattle.program_stream.proofs.Session.serve_lines.Goals as goal

pub loop-from-init : goal.loop-from-init
loop-from-init c =
    record { same_space = refl; serving = serving-starts _ _ c.requires.start_in_bounds c.requires.in_order }

pub loop-from-preserved : goal.loop-from-preserved
loop-from-preserved c =
    let kept = c.loop-from.invariant in
    let done = c.serve.ensures in
    record {
      same_space = done.same_space ∙ kept.same_space;
      serving =
          serving-goes-on _ _ kept.serving c.loop-from-test.true (omega (arith, c.if-at-out.true)) _ done.onward
          done.serves done.at_bound c.serve.auto.out;
    }

pub returns-else-at-out-clause-makes : goal.returns-else-at-out-clause-makes
returns-else-at-out-clause-makes c = bytes-made _ c.requires.in_order c.loop-from.invariant.serving.serves

pub returns-after-loop-from-clause-makes : goal.returns-after-loop-from-clause-makes
returns-after-loop-from-clause-makes c = bytes-made _ c.requires.in_order c.loop-from.invariant.serving.serves
