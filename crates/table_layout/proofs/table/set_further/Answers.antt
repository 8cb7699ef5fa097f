-- `table_layout::table::set_further` meets its contract: the part written is the record.
use mathlib.Core.Path.{refl, ap, ◌∙◌}
use Prim.Native.Nat.{◌+◌, ◌-◌}
use borrow.Rule.Slice.PartMut.{put_mid}
use Rattle.machine.specs.Tasks.{record_length}
use Rattle.table_record.specs.Coded.{record_of}
use Rattle.table_layout.proofs.Laws.RecordParts.{record-put}
use Rattle.table_layout.proofs.table.set_further.Goals as goal

pub returns : goal.returns
returns c =
    let at = c.place-at.result in
    ap (put_mid at (at + record_length - at) c.args.table.now) c.write_further.ensures
    ∙ record-put c.args.table.now (record_of c.args.new) c.place-at.ensures refl c.requires.holds_record
