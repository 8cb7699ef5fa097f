-- `program_answer::forms::start_front` meets its contract: what the call leaves stands before the words behind it.
use mathlib.Core.Path.{◌∙◌}
use lib.ListN.{drop}
use lib.Seq.{length-take-le, take_at, drop_at}
use Rattle.program_answer.proofs.forms.start_front.Goals as goal

pub returns-clause-done : goal.returns-clause-done
returns-clause-done c =
    let words = c.args.words.now in
    let need = c.args.need in
    let long = c.start.auto.table ∙ length-take-le need words c.requires in
    rw (take_at c.start.new.table (drop need words) need long) c.start.ensures

pub returns-clause-others : goal.returns-clause-others
returns-clause-others c =
    let words = c.args.words.now in
    let need = c.args.need in
    drop_at c.start.new.table (drop need words) need (c.start.auto.table ∙ length-take-le need words c.requires)
