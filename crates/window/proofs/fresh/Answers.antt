-- `window::fresh` meets its contract: zeros, and the width before them.
use Rattle.std.proofs.Common.{rules}
use Rattle.window.proofs.Laws.Windows.{leaves-fresh}
use Rattle.window.proofs.fresh.Goals as goal

pub returns-clause-window_after : goal.returns-clause-window_after
returns-clause-window_after c =
    leaves-fresh c.args.window.now c.args.width (search rules) (c.fill.ensures.after (λ y e. search rules))
