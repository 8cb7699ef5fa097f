-- `window::feed` meets its contract: each test of the code is the definition's.
use Rattle.std.proofs.Common.{sym, ◌∙◌, arith}
use Rattle.window.specs.Window.{next_place, places, is_window}
use Rattle.window.proofs.Laws.Counting.{at-total}
use Rattle.window.proofs.Laws.Tests.{passed-then, failed-then}
use Rattle.window.proofs.Laws.Scans.{few-lost}
use Rattle.window.proofs.Laws.Feeds.{bad-window, out-of-turn, next-in, lost-is-bit, one-fed}
use Rattle.window.proofs.feed.Goals as goal

pub returns-in_default : goal.returns-in_default
returns-in_default c =
    let a = c.args in
    let ws = a.window.now in
    bad-window ws a.count a.before a.after (failed-then (is_window ws) _ c.in_default.ensures)

pub returns-then-not-in_turn : goal.returns-then-not-in_turn
returns-then-not-in_turn c =
    let a = c.args in
    let ws = a.window.now in
    out-of-turn ws a.count a.before a.after (passed-then (is_window ws) c.in-Some.ensures).0
    (sym c.in_turn.ensures ∙ c.if-not-in_turn.true)

pub put-oldest-requires : goal.put-oldest-requires
put-oldest-requires c =
    let ws = c.args.window.now in
    next-in ws (passed-then (is_window ws) c.in-Some.ensures).0

pub overflow_sub-result : goal.overflow_sub-result
overflow_sub-result c =
    let ws = c.args.window.now in
    let found = passed-then (is_window ws) c.in-Some.ensures in
    omega (arith, found.1, c.put-oldest.ensures.value, at-total (places ws) (next_place ws))

pub overflow_add-result : goal.overflow_add-result
overflow_add-result c =
    let a = c.args in
    let ws = a.window.now in
    let found = passed-then (is_window ws) c.in-Some.ensures in
    omega (arith, found.1, few-lost ws found.0, c.lost_word-lost.ensures, lost-is-bit a.before a.after)

pub returns : goal.returns
returns c =
    let a = c.args in
    let put = c.put-oldest.ensures in
    let found = passed-then (is_window a.window.now) c.in-Some.ensures in
    let turn = sym c.in_turn.ensures ∙ c.if-not-in_turn.false in
    one-fed a.window.now found.0 a.count a.before a.after turn found.1 put.value c.lost_word-lost.ensures put.window_after
