use Rattle.std.proofs.Common.{sym, refl, ◌∙◌, add-one, arith, leb}
use Rattle.window.specs.Window.{at_most}
use Rattle.window.proofs.Laws.Tests.{same-then}
use Rattle.window.proofs.Laws.Counting.{test-passed, test-done, total-few, sum-passed, sum_done}
use Rattle.window.proofs.places.tally.Goals as goal

pub loop-word-preserved : goal.loop-word-preserved
loop-word-preserved c =
    let l = c.loop-word in
    let words = c.args.words.now in (
      rw add-one (test-passed 1 words l.word-index 1 l.gathered refl c.loop-word-test.true ∙ l.invariant.0),
      λ t.
          rw add-one
          (sum-passed words l.word-index l.lost (omega (arith, total-few words t, c.requires)) c.loop-word-test.true
          (l.invariant.1 t)),
    )

pub returns : goal.returns
returns c =
    let l = c.loop-word in
    let words = c.args.words.now in
    c.then_some.ensures
    ∙ same-then (leb l.gathered 1) (at_most 1 words)
    (sym (test-done 1 words l.word-index l.gathered (omega arith)) ∙ l.invariant.0)
    (λ t. sym (sum_done words l.word-index l.lost (omega arith)) ∙ l.invariant.1 t)
