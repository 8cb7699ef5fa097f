use mathlib.Core.Path.{refl, sym, ap, ◌∙◌}
use Prim.Native.Nat.{◌+◌, ◌-◌}
use native.Mathlib.Omega.{arith}
use lib.Seq.{take_all}
use borrow.Rule.Slice.PartMut.{put_mid}
use Rattle.machine.specs.Tasks.{record_length}
use Rattle.machine.specs.Table.{record_at}
use Rattle.table_record.specs.Coded.{record_of}
use Rattle.table_layout.proofs.Laws.RecordParts.{record-put}
use Rattle.call_start.proofs.Filling.{filling-more, filling-done}
use Rattle.call_start.proofs.fresh.Sizes.write_tasks.Invariants.{idle}
use Rattle.call_start.proofs.fresh.Sizes.write_tasks.Goals as goal

pub loop-k-preserved : goal.loop-k-preserved
loop-k-preserved c =
    let l = c.loop-k in
    let s = c.args.self in
    let at = c.record_at-at in
    let put =
    ap (put_mid at.result (at.result + record_length - at.result) l.table)
    (c.write.ensures ∙ ap record_of c.fresh.ensures)
    ∙ record-put l.table idle at.ensures refl (omega arith) in
    rw put
    (filling-more l.table idle (record_at s.slots l.k) (record_at s.slots (l.k + 1)) (s.tasks - l.k)
    (s.tasks - (l.k + 1)) (omega arith) (omega arith) (omega arith)
    ∙ l.invariant)

pub returns : goal.returns
returns c =
    let s = c.args.self in
    let l = c.loop-k in
    let n = record_at s.slots l.k in
    sym (take_all n l.table (omega arith))
    ∙ sym (filling-done l.table idle n (s.tasks - l.k) (omega arith))
    ∙ l.invariant
