-- `airline_list::read_lines` meets its contract: each way out is one case of what a list comes to.
use mathlib.Core.Path.{◌≡◌, sym, ap, ◌∙◌}
use mathlib.Core.List.{List}
use mathlib.Core.Logic.{inl, inr}
use Prim.Native.Nat.{ℕ, ◌+◌, ◌-◌, ◌≤◌}
use native.Mathlib.Omega.{arith}
use lib.ListN.{length, take, drop}
use Rattle.text.specs.Lines.{first_line}
use Rattle.airline_list.specs.declared.forms.Form.{Form as Found}
use Rattle.airline_list.specs.Outcomes.{To, NotSent}
use Rattle.airline_list.specs.Forms.{Form, said, form_text, form_of}
use Rattle.airline_list.specs.Read.{sent_to}
use Rattle.airline_list.proofs.Laws.LineLaws.{form_at, form-lent, form-within, code-small}
use Rattle.airline_list.proofs.Laws.ReadingLaws.{
  no-form,
  too_many,
  closes,
  closes-early,
  named-again,
  not-closed,
  airline_more,
}
use Rattle.airline_list.proofs.read_lines.Goals as goal
use Rattle.airline_list.proofs.read_lines.Goals.{then-code-wanted, else-code-wanted}

-- The form that is found in the part lent is that of the line at the place, which ends where the form's text does.
module _ (list : List ℕ) (from : ℕ) (within : from ≤ length list) (found : Found)
    (is : said found ≡ form_of (first_line (take (length list - from) (drop from list)))) where
  its : {form : Form} → said found ≡ form → form_at list from ≡ form
  its e = form-lent list from within (sym e ∙ is)

  ends : {n : ℕ} → n ≡ length (form_text (said found)) → {form : Form} → said found ≡ form
      → from + n ≡ from + length (form_text form)
  ends l e = ap (λ n. from + n) (l ∙ ap (λ f. length (form_text f)) e)

  inside : {n : ℕ} → n ≡ length (form_text (said found)) → from + n ≤ length list
  inside l =
      let e = ap (λ f. length (form_text f)) (form-lent list from within is) in
      omega (arith, form-within list from within)

pub returns-in_default : goal.returns-in_default
returns-in_default c =
    let line = c.loop-line in
    ap (sent_to c.args.wanted)
    (no-form line.invariant (form-lent c.args.list.now line.from line.invariant.within c.in_default.ensures))

pub overflow_add-to : goal.overflow_add-to
overflow_add-to c =
    let line = c.loop-line in
    let within = inside c.args.list.now line.from line.invariant.within c.in-Some.form c.in-Some.ensures c.length.ensures in
    omega arith

pub overflow_sub-last : goal.overflow_sub-last
overflow_sub-last c =
    let line = c.loop-line in
    inside c.args.list.now line.from line.invariant.within c.in-Some.form c.in-Some.ensures c.length.ensures

pub insert-requires : goal.insert-requires
insert-requires c =
    let line = c.loop-line in
    code-small c.args.list.now line.from
    (its c.args.list.now line.from line.invariant.within c.in-Some.form c.in-Some.ensures (ap said c.in-Airline.is))

pub returns-then-not-insert : goal.returns-then-not-insert
returns-then-not-insert c =
    let list = c.args.list.now in
    let line = c.loop-line in
    let within = line.invariant.within in
    let is = ap said c.in-Airline.is in
    ap (sent_to c.args.wanted)
    (named-again line.invariant (omega arith) (its list line.from within c.in-Some.form c.in-Some.ensures is)
    (ends list line.from within c.in-Some.form c.in-Some.ensures c.length.ensures is) c.if-not-insert.ensures.is_new)

pub returns-then-last : goal.returns-then-last
returns-then-last c =
    let list = c.args.list.now in
    let line = c.loop-line in
    let within = line.invariant.within in
    let is = ap said c.in-Airline.is in
    ap (sent_to c.args.wanted)
    (not-closed line.invariant (omega arith) (its list line.from within c.in-Some.form c.in-Some.ensures is)
    (ends list line.from within c.in-Some.form c.in-Some.ensures c.length.ensures is) c.if-not-insert.ensures.is_new c.if-last.true)

pub returns-then-last-2 : goal.returns-then-last-2
returns-then-last-2 c =
    let list = c.args.list.now in
    let line = c.loop-line in
    let within = line.invariant.within in
    let is = ap said c.in-Others.is in
    ap To c.unwrap_or.ensures
    ∙ closes line.invariant (omega arith) (its list line.from within c.in-Some.form c.in-Some.ensures is)
    (ends list line.from within c.in-Some.form c.in-Some.ensures c.length.ensures is) c.if-last-2.true

pub returns-in-Others : goal.returns-in-Others
returns-in-Others c =
    let list = c.args.list.now in
    let line = c.loop-line in
    let within = line.invariant.within in
    let is = ap said c.in-Others.is in
    ap (sent_to c.args.wanted)
    (closes-early line.invariant (omega arith) (its list line.from within c.in-Some.form c.in-Some.ensures is)
    (ends list line.from within c.in-Some.form c.in-Some.ensures c.length.ensures is) c.if-last-2.false)

pub loop-line-preserved : goal.loop-line-preserved
loop-line-preserved c =
    let list = c.args.list.now in
    let line = c.loop-line in
    let within = line.invariant.within in
    let is = ap said c.in-Airline.is in
    rw c.if-not-insert.ensures.with_code
    (airline_more line.invariant (omega arith) (its list line.from within c.in-Some.form c.in-Some.ensures is)
    (ends list line.from within c.in-Some.form c.in-Some.ensures c.length.ensures is) c.if-not-insert.ensures.is_new c.if-last.false
    c.if-code-wanted.named
    (elim c.if-code-wanted.branch [
      | then-code-wanted w ↦ inl (w.if-code-wanted.true, w.named-is)
      | else-code-wanted w ↦ inr (w.if-code-wanted.false, w.named-is)
    ]))

pub returns : goal.returns
returns c =
    let line = c.loop-line in
    let last : 65 ≡ line.line = omega arith in
    ap (λ n. NotSent 27 n) last ∙ ap (sent_to c.args.wanted) (too_many line.invariant (omega arith))
