-- `airline_list::end_for` meets its contract: a tag is sent where its code is, and a closing line that is all that is left
-- closes the list.
use mathlib.Core.Path.{refl, sym, ap, ◌∙◌}
use Prim.Native.Nat.{◌+◌}
use native.Mathlib.Omega.{arith}
use lib.ListN.{length}
use Rattle.airline_list.specs.Outcomes.{To}
use Rattle.airline_list.specs.Forms.{Others, form_text}
use Rattle.airline_list.specs.Lists.{verdict}
use Rattle.airline_list.specs.Read.{sent_to}
use Rattle.airline_list.proofs.Laws.KeptLaws.{none_kept}
use Rattle.airline_list.proofs.Laws.LineLaws.{form-lent, length-lent}
use Rattle.airline_list.proofs.Laws.ReadingLaws.{too_many, closes, tag-sent}
use Rattle.airline_list.proofs.end_for.Goals as goal

pub read_airlines-place-requires : goal.read_airlines-place-requires
read_airlines-place-requires c = rw c.none-codes.ensures (none_kept c.code_of-wanted.result)

pub returns-then-place-gt-MOST_LINES : goal.returns-then-place-gt-MOST_LINES
returns-then-place-gt-MOST_LINES c =
    let wanted = c.code_of-wanted in
    ap (sent_to wanted.result) (too_many c.read_airlines-place.ensures c.if-place-gt-MOST_LINES.true)
    ∙ tag-sent (verdict c.args.list.now) wanted.result c.args.tag wanted.ensures

pub returns-in-Some : goal.returns-in-Some
returns-in-Some c =
    let list = c.args.list.now in
    let wanted = c.code_of-wanted in
    let place = c.read_airlines-place in
    let closing = c.in-Some in
    let from = place.result.from in
    let to = from + length (form_text (Others closing.others)) in
    let its = form-lent list from place.ensures.within (sym closing.ensures.form) in
    let lent = length-lent list from place.ensures.within in
    let short = closing.ensures.short in
    ap To c.unwrap_or.ensures
    ∙ closes place.ensures (omega arith) its refl (omega arith)
    ∙ tag-sent (verdict list) wanted.result c.args.tag wanted.ensures
