-- `call_start::fresh::Sizes::write_header` meets its contract: the hats are those of a started table.
use mathlib.Core.Path.{◌∙◌}
use Rattle.call_start.proofs.Filling.{header-started}
use Rattle.call_start.proofs.fresh.Sizes.write_header.Goals as goal

pub returns : goal.returns
returns c =
    let s = c.args.self in
    c.write.ensures ∙ header-started s.slots s.tasks s.growth s.lanes c.args.table.now c.hats.result c.hats.ensures
