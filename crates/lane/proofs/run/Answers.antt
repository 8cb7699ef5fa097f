-- `lane::run` meets its contract: each turn goes on from what the turns before it led to.
use mathlib.Core.Path.{refl, ap, ◌∙◌}
use Rattle.program_stream.proofs.Laws.MeantLaws.{first-in-order}
use Rattle.lane.specs.Turns.{goes_on}
use Rattle.lane.proofs.TurnLaws.{running-starts, running-goes-on, ran-so-far, ran-to-stop}
use Rattle.lane.proofs.run.Goals as goal

pub loop-init : goal.loop-init
loop-init g c =
    let ordered = c.restart.ensures.in_order c.requires.largest_table_in_bounds c.requires.text_len in
    record { same_space = refl; running = running-starts _ refl ordered }

pub loop-preserved : goal.loop-preserved
loop-preserved g c =
    let kept = c.loop.invariant in
    record {
      same_space = c.turn.ensures.same_space ∙ kept.same_space;
      running = running-goes-on kept.running (ap goes_on c.in_default.is) c.turn.ensures.turned;
    }

pub returns-in-Break-clause-ran : goal.returns-in-Break-clause-ran
returns-in-Break-clause-ran g c =
    let s = c.args.session.now in
    let first = first-in-order s.space.words.now s.line.text c.requires.largest_table_in_bounds c.requires.text_len in
    ran-to-stop _ _ first (rw c.restart.ensures.fresh at c.loop.invariant.running) c.turn.ensures.turned

pub returns-clause-ran : goal.returns-clause-ran
returns-clause-ran g c =
    let s = c.args.session.now in
    let first = first-in-order s.space.words.now s.line.text c.requires.largest_table_in_bounds c.requires.text_len in
    ran-so-far _ _ first (rw c.restart.ensures.fresh at c.loop.invariant.running)
