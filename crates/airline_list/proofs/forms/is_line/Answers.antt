-- `airline_list::forms::is_line` meets its contract: the text begins with the line, and the line ends there.
use mathlib.Core.Bool.{true}
use mathlib.Core.Path.{◌≡◌, sym, ◌∙◌}
use native.Mathlib.Omega.{arith}
use lib.ListN.{length, take}
use Rattle.text.specs.Text.{same}
use Rattle.airline_list.proofs.Laws.HeadLaws.{not_first, too_short, first-whole, first-fed}
use Rattle.airline_list.proofs.forms.is_line.Goals as goal
use Rattle.airline_list.proofs.forms.is_line.Goals.{Else-not-is_text}

pub returns-then-text-n : goal.returns-then-text-n
returns-then-text-n c =
    too_short c.args.text.now c.args.line.now c.requires c.if-text-n.true

pub returns-then-not-is_text : goal.returns-then-not-is_text
returns-then-not-is_text c =
    let t = c.is_text in
    not_first c.args.text.now c.args.line.now c.requires
    (sym t.ensures ∙ c.if-not-is_text.true)

begins :
    (c : Else-not-is_text)
    → let a = c.args in
    same (take (length a.line.now) a.text.now) a.line.now ≡ true
begins c = let t = c.is_text in sym t.ensures ∙ c.if-not-is_text.false

pub returns-then-text-n-2 : goal.returns-then-text-n-2
returns-then-text-n-2 c =
    first-whole c.args.text.now c.args.line.now c.requires (begins (goal.at.returns-then-text-n-2 c).Else-not-is_text) c.if-text-n-2.true

pub returns : goal.returns
returns c =
    let else2 = (goal.at.returns c).Else-not-is_text in
    first-fed c.args.text.now c.args.line.now c.requires (begins else2) (omega arith)
