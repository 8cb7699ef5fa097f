-- The record read has the words of the definition, so that its test is theirs.
use mathlib.Core.Path.{ap, ◌∙◌}
use Prim.Native.Nat.{ℕ, ◌+◌, ◌*◌}
use Rattle.machine.specs.Tasks.{record_length}
use Rattle.machine.specs.Table.{record_from}
use Rattle.machine.proofs.Words.Stretches.{record-long}
use Rattle.table_record.specs.declared.Task as Tasks
use Rattle.table_record.specs.Coded.{record_of}
use Rattle.table_record.proofs.Laws.RecordWords.{words-of-struct}
use Rattle.table_shape.specs.Promised.{fits_in}
use Rattle.table_shape.proofs.nth_ok.Goals as goal

pub returns : goal.returns
returns c =
    let a = c.args in
    let ws = a.table.now in
    let at : ℕ = a.first + record_length * a.k in
    c.fits_in.ensures
    ∙ ap (λ (t : Tasks.Task). fits_in ws (record_of t)) c.record_in.ensures
    ∙ ap (fits_in ws) (words-of-struct (record_from a.words.now at) (record-long a.words.now at c.requires.record_length_in_bounds))
