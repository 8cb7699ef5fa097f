-- `airline_list::forms::has_code` meets its contract: the bytes are tested as the definition does, and a text too short
-- has no code.
use mathlib.Core.Bool.{Bool, true, and-false, ◌&&◌}
use mathlib.Core.Path.{◌≡◌, sym, ap, ◌∙◌}
use lib.ListN.{take}
use Rattle.text.specs.Text.{bytes, same}
use Rattle.airline_list.specs.FirstForm.{three_digits}
use Rattle.airline_list.proofs.Laws.HeadLaws.{head-in-parts, short-no-digits}
use Rattle.airline_list.proofs.forms.has_code.Goals as goal
use Rattle.airline_list.proofs.forms.has_code.Goals.{Else-not-is_text}

pub returns-then-text-lt18 : goal.returns-then-text-lt18
returns-then-text-lt18 c =
    let text = c.args.text.now in
    sym (rw (short-no-digits text c.if-text-lt18.true) (and-false (same (take 15 text) (bytes "(airline (code "))))

-- The first part is there.
begins : (c : Else-not-is_text)
    → same (take 8 c.args.text.now) (bytes "(airline") ≡ true
begins c = let r = c.is_text in sym r.ensures ∙ c.if-not-is_text.false

pub returns-then-not-is_text-2 : goal.returns-then-not-is_text-2
returns-then-not-is_text-2 c =
    let r = c.is_text-2 in
    let e = (goal.at.returns-then-not-is_text-2 c).Else-not-is_text in
    let text = c.args.text.now in
    let head = head-in-parts text (begins e) (sym r.ensures ∙ c.if-not-is_text-2.true) in
    sym (ap (λ (b : Bool). b && three_digits text) head)

pub returns : goal.returns
returns c =
    let r = c.is_text-2 in
    let e = (goal.at.returns c).Else-not-is_text in
    let text = c.args.text.now in
    let head = head-in-parts text (begins e) (sym r.ensures ∙ c.if-not-is_text-2.false) in
    rw (c.is_digit.ensures, c.is_digit-2.ensures, c.is_digit-3.ensures, head)
