-- Request 2026-01: up to 32 ticks the panel's list is a run, and over them it is refused.
use lib.ListN.{length}
use borrow.Author.Tests.{le-leb, lt-leb}
use Rattle.machine.specs.Calls.{run, panel}
use Rattle.machine.specs.Panel.{PanelIsRun, PanelTooLong}

pub panel-is-run : PanelIsRun
unfolding panel run
panel-is-run ws list answers short = rw (le-leb (length list) 64 short)

pub panel-too-long : PanelTooLong
unfolding panel
panel-too-long ws list answers over = rw (lt-leb (length list) 64 over)
