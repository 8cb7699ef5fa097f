-- `text_scan::Line::scan_line` meets its contract: byte after byte, up to a line feed or the end of the chunk.
use Rattle.std.proofs.Common.{◌≡◌, length, arith}
use Rattle.text.proofs.Laws.FirstLine.{line-fed, chunk-ends}
use Rattle.text_scan.proofs.Laws.LineLaws.{scanning-starts, scanning-goes-on, scanning-ends}
use Rattle.text_scan.proofs.Line.scan_line.Goals as goal

pub loop-i-init : goal.loop-i-init
loop-i-init c = scanning-starts _ _ _ c.requires

pub returns-then-b-eq10 : goal.returns-then-b-eq10
returns-then-b-eq10 c =
    let l = c.loop-i in
    scanning-ends l.invariant (line-fed c.args.chunk.now l.i (omega arith) c.if-b-eq10.true)

pub loop-i-preserved : goal.loop-i-preserved
loop-i-preserved c = scanning-goes-on c.loop-i.invariant (omega arith) c.if-b-eq10.false c.scan_byte.ensures

pub returns : goal.returns
returns c =
    let l = c.loop-i in
    let at_end : l.i ≡ length c.args.chunk.now = omega arith in
    rw (← at_end) (scanning-ends l.invariant (chunk-ends c.args.chunk.now l.i (omega arith)))
