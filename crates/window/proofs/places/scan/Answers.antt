-- `window::places::scan` meets its contract: the places fed are tallied, and the others are 0.
use Rattle.std.proofs.Common.{◌≡◌, true, sym, ◌∙◌, rules}
use Rattle.window.specs.Window.{header_ok}
use Rattle.window.proofs.Laws.Scans.{lent-places, scan-is}
use Rattle.window.proofs.places.scan.Goals as goal

pub returns : goal.returns
returns c =
    let ws = c.args.window.now in
    let parts = c.split_at.ensures in
    let passed : header_ok ws ≡ true = search rules in
    c.then_some.ensures
    ∙ rw c.all_zeros.ensures
    (scan-is ws passed (rw (lent-places ws) at parts.front) (rw (lent-places ws) at parts.back)
    (sym (c.in_ok-lost.was) ∙ c.tally.ensures))
