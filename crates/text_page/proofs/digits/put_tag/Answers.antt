-- `text_page::digits::put_tag` meets its contract.
use mathlib.Core.Path.{◌≡◌, refl, ap, ◌∙◌}
use Prim.Native.Nat.{◌+◌, ◌/◌, ◌%◌}
use native.Mathlib.Omega.{arith}
use lib.ListN.{length, set, length-set}
use lib.Seq.{length-sets}
use Rattle.text.specs.Numerals.{with_zeros}
use Rattle.text.proofs.Laws.WritingLaws.{part-stored}
use Rattle.text_page.proofs.Laws.Digits.{tag-stored}
use Rattle.text_page.proofs.Laws.Lengths.{zeros-length}
use Rattle.text_page.proofs.digits.put_tag.Goals as goal

pub returns : goal.returns
returns c =
    let a = c.args in
    let out = a.out.now in
    let two = set (set out 0 (48 + a.digit)) 1 (48 + a.low / 100_000_000) in
    let middle = with_zeros 4 (a.low / 10_000 % 10_000) in
    let low = with_zeros 4 (a.low % 10_000) in
    let long : length two ≡ length out = simp length-set refl in
    let four = zeros-length 4 (a.low / 10_000 % 10_000) in
    let last = zeros-length 4 (a.low % 10_000) in
    let first = part-stored two middle 2 (omega (arith, four, long)) c.put_four.ensures in
    let long-six = ap length first ∙ length-sets two 2 middle in
    tag-stored out 0 a.digit a.low c.requires.0 c.requires.1 first
    (part-stored _ low 6 (omega (arith, last, long, long-six)) c.put_four-2.ensures)
