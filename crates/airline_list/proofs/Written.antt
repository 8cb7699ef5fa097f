-- A list written from what an accepted list says is read as the same; and every tag is sent to one of the two ends.
use mathlib.Core.Path.{◌≡◌, refl, sym, ap, ◌∙◌}
use mathlib.Core.Bool.{true, false}
use mathlib.Core.Logic.{◌⊎◌, inl, inr}
use mathlib.Core.List.{List, [], ◌∷◌, ◌++◌, map}
use Prim.Native.Nat.{ℕ, ◌+◌, ◌/◌, ◌%◌}
use native.Mathlib.Omega.{arith}
use borrow.Author.Tests.{ne_eqb}
use lib.Dec.{eqb}
use Rattle.text.specs.Text.{bytes}
use Rattle.text.specs.Lines.{line_feed, lines_of, one_line}
use Rattle.text.proofs.Laws.AllLines.{line-cut}
use Rattle.text_scan.specs.Scanned.{zero_digit}
use Rattle.airline_list.specs.declared.End.{End}
use Rattle.airline_list.specs.declared.End.TheVariants.{Left, Right}
use Rattle.airline_list.specs.Outcomes.{To}
use Rattle.airline_list.specs.Forms.{Airline, Others, end_text, form_text, form_of}
use Rattle.airline_list.specs.Lists.{code_of, Entry, judged, verdict, end_for, sent, list_text}
use Rattle.airline_list.specs.Accepted.{WrittenIsRead, EveryTagIsSent}
use Rattle.airline_list.proofs.Laws.CodeLaws.{three-digits}
use Rattle.airline_list.proofs.Laws.FormLaws.{form-written}
use Rattle.airline_list.proofs.Laws.AcceptedLaws.{forms_for, CodesOk, accepted}

-- ---- A form's text is one line.
digit-no-feed : (d : ℕ) → eqb (zero_digit + d) line_feed ≡ false
digit-no-feed d = ne_eqb (zero_digit + d) line_feed (λ e. absurd (omega arith))

end_line : (end : End) → one_line (end_text end ++ bytes ")") ≡ true
end_line Left = refl
end_line Right = refl

airline-line : (code : ℕ) (end : End) → one_line (form_text (Airline code end)) ≡ true
airline-line code end =
    rw (
      three-digits code,
      digit-no-feed (code / 100 % 10),
      digit-no-feed (code / 10 % 10),
      digit-no-feed (code % 10),
    )
    (end_line end)

-- ---- The list, written.
forms-written : (es : List Entry) (closing : End) → CodesOk es
    → map form_of (lines_of (list_text es closing)) ≡ forms_for es closing
unfolding lines_of list_text
forms-written [] closing ok =
    ap (map form_of) (line-cut (form_text (Others closing)) [] (end_line closing))
    ∙ ap (λ form. form ∷ []) (form-written (Others closing) tt)
forms-written (e ∷ es) closing ok =
    let form = form-written (Airline e.code e.end) ok.0 in
    let more = forms-written es closing ok.1 in
    ap (map form_of) (line-cut (form_text (Airline e.code e.end)) (list_text es closing)
    (airline-line e.code e.end))
    ∙ (λ i. form i ∷ more i)

pub written-is-read : WrittenIsRead
unfolding verdict
written-is-read list es closing h =
    let a = accepted list es closing h in
    ap (judged 1 []) (forms-written es closing a.codes ∙ sym a.forms-are) ∙ h

-- ---- Every tag is sent.
pub every-tag-is-sent : EveryTagIsSent
every-tag-is-sent list es closing h tag = go (end_for (code_of tag) es closing) refl
  where
    go : (end : End) → end_for (code_of tag) es closing ≡ end
        → (sent (verdict list) tag ≡ To Left) ⊎ (sent (verdict list) tag ≡ To Right)
    go Left e = inl (rw h (ap To e))
    go Right e = inr (rw h (ap To e))
