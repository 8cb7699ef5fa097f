-- An accepted list is written as it says, but for a line feed at its end.
use mathlib.Core.Path.{◌≡◌, sym, ap, ◌∙◌, subst}
use mathlib.Core.Logic.{◌⊎◌, inl, inr}
use mathlib.Core.List.{List, [], ◌∷◌, ◌++◌, map}
use Prim.Native.Nat.{ℕ}
use Rattle.tag.proofs.TagLaws.{clash}
use Rattle.text.specs.Lines.{line_feed, lines_of}
use Rattle.text.proofs.Laws.AllLines.{joined, Joins, lines-joined}
use Rattle.airline_list.specs.declared.End.{End}
use Rattle.airline_list.specs.Forms.{Form, Airline, Others, Neither, form_text, form_of}
use Rattle.airline_list.specs.Lists.{Entry, list_text}
use Rattle.airline_list.specs.Accepted.{IsItsText}
use Rattle.airline_list.proofs.Laws.FormLaws.{form-text}
use Rattle.airline_list.proofs.Laws.AcceptedLaws.{forms_for, accepted}

is-text : (line : List ℕ) (form : Form) → (form ≡ Neither → ⊥) → form_of line ≡ form → line ≡ form_text form
is-text line form some e = go (form-text line)
  where
    go : (form_of line ≡ Neither) ⊎ (line ≡ form_text (form_of line)) → line ≡ form_text form
    go (inl n) = absurd (some (sym e ∙ n))
    go (inr t) = t ∙ ap form_text e

-- ---- The lines of a list put together again.
lines-text : (es : List Entry) (closing : End) (lines : List (List ℕ)) → map form_of lines ≡ forms_for es closing
    → joined lines ≡ list_text es closing
unfolding joined list_text
lines-text [] closing [] h = clash (cc)
lines-text [] closing (line ∷ []) h =
    let e : form_of line ≡ Others closing = cc in
    let t = is-text line (Others closing) (λ n. clash (cc)) e in
    ap (λ (x : List ℕ). x ++ (line_feed ∷ [])) t
lines-text [] closing (line ∷ other ∷ lines) h = clash (cc)
lines-text (e ∷ es) closing [] h = clash (cc)
lines-text (e ∷ es) closing (line ∷ lines) h =
    let p : form_of line ≡ Airline e.code e.end = cc in
    let q : map form_of lines ≡ forms_for es closing = cc in
    let t = is-text line (Airline e.code e.end) (λ n. clash (cc)) p in
    let r = lines-text es closing lines q in
    λ i. t i ++ (line_feed ∷ r i)

pub is-its-text : IsItsText
is-its-text list es closing h =
    let a = accepted list es closing h in
    let t = lines-text es closing (lines_of list) a.forms-are in
    subst (Joins list) t (lines-joined list)
