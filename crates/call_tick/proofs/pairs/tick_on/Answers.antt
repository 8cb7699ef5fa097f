-- `call_tick::pairs::tick_on` meets its contract: a list of one pair makes the pair's tick.
use Rattle.std.proofs.Common.{◌≡◌, ◌≢◌, sym, ap, ◌∙◌, arith, [], ◌∷◌}
use Rattle.machine.specs.Outcomes.Answer.{Refused}
use Rattle.machine.specs.Calls.{tick_on}
use Rattle.machine.specs.Results.{stop_number}
use Rattle.call_tick.proofs.Laws.RunWords.{left-with}
use Rattle.call_tick.proofs.Laws.OnePair.{pair-refused, pair-said, pair_made}
use Rattle.call_tick.proofs.pairs.tick_on.Goals as goal

pub returns-in-Some : goal.returns-in-Some
returns-in-Some c =
    let a = c.args in
    let stopped = rw c.in-Some.is at c.run_on.ensures.stopped in
    let no_tick : c.run_on.result.made ≡ 0 = omega (arith, stopped) in
    ap (λ r. left-with (Refused (stop_number r)) c.run_on.new.table) (sym c.in-Some.is)
    ∙ pair-refused a.table.now a.task a.hint (0 ∷ 0 ∷ 0 ∷ []) c.run_on.ensures.runs no_tick

pub answer_of-requires : goal.answer_of-requires
answer_of-requires c =
    let a = c.args in
    let stopped = rw c.in-None.is at c.run_on.ensures.stopped in
    let one_tick : c.run_on.result.made ≢ 0 = λ e. absurd (omega (arith, e, stopped)) in (
      (tick_on a.table.now a.task a.hint).answer,
      (pair-said a.table.now a.task a.hint (0 ∷ 0 ∷ 0 ∷ []) c.run_on.ensures.runs c.requires one_tick).0,
    )

pub returns-in-None : goal.returns-in-None
returns-in-None c =
    let a = c.args in
    let stopped = rw c.in-None.is at c.run_on.ensures.stopped in
    let one_tick : c.run_on.result.made ≢ 0 = λ e. absurd (omega (arith, e, stopped)) in
    pair_made a.table.now a.task a.hint (0 ∷ 0 ∷ 0 ∷ []) c.run_on.ensures.runs c.requires one_tick c.answer_of.ensures
