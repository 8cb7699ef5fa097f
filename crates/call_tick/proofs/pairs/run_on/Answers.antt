-- `call_tick::pairs::run_on` meets its contract: the ticks made and the run of the pairs ahead are the run of the list.
use Rattle.std.proofs.Common.{ap, ◌∙◌, arith, length, ◌+◌, ◌*◌, ◌≤◌}
use lib.ListN.{length-drop}
use Rattle.machine.specs.Answers.{answer_length}
use Rattle.table_shape.proofs.Laws.FirstNode.{moved_on}
use Rattle.call_tick.proofs.Laws.ConsecutiveTicks.{tick-passed}
use Rattle.call_tick.proofs.Laws.RunWords.{tick-tag, run-begins, run_ends, run-refused, run-made}
use Rattle.call_tick.proofs.pairs.run_on.Goals as goal

pub loop-rest-init : goal.loop-rest-init
loop-rest-init c =
    let a = c.args in record {
      pairs-left = omega arith;
      well-formed = c.requires.taken.table;
      rest-alike = run-begins a.list.now a.table.now a.answers.now;
    }

pub returns-in-Err-clause-runs : goal.returns-in-Err-clause-runs
returns-in-Err-clause-runs c =
    let l = c.loop-rest in
    run-refused l.made l.rest.now l.table l.answers (omega (arith, l.invariant.pairs-left, c.requires.taken.paired))
    c.in-Err.ensures
    ∙ l.invariant.rest-alike

pub put_answer-requires : goal.put_answer-requires
put_answer-requires c =
    let l = c.loop-rest in (
      tick-tag l.table _ _ c.in-Ok.ensures l.invariant.well-formed,
      omega (arith, l.invariant.pairs-left, c.requires.taken.paired, c.requires.room),
    )

pub loop-rest-preserved : goal.loop-rest-preserved
loop-rest-preserved c =
    let l = c.loop-rest in
    let left = l.rest.now in
    let on = moved_on left 2 in
    let room : answer_length * l.made + answer_length ≤ length l.answers =
    omega (arith, l.invariant.pairs-left, c.requires.taken.paired, c.requires.room) in record {
      pairs-left = omega (arith, l.invariant.pairs-left, c.requires.taken.paired, ap length on ∙ length-drop 2 left);
      well-formed = tick-passed l.table l.invariant.well-formed _ _ c.in-Ok.ensures;
      rest-alike = rw (c.put_answer.ensures, on)
          (run-made l.made left l.table l.answers (omega (arith, l.invariant.pairs-left, c.requires.taken.paired))
          c.in-Ok.answer c.in-Ok.ensures room
          ∙ l.invariant.rest-alike);
    }

pub returns-clause-runs : goal.returns-clause-runs
returns-clause-runs c =
    let l = c.loop-rest in
    run_ends l.made l.rest.now l.table l.answers (omega arith) ∙ l.invariant.rest-alike
