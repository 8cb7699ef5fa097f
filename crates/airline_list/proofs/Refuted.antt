-- Every wrong reading is told from the right one, computed; and the right one is the definition.
use mathlib.Core.Path.{◌≡◌, refl, ap, ◌∙◌}
use mathlib.Core.List.{List, [], ◌∷◌, ◌++◌, map}
use Prim.Native.Nat.{ℕ, suc}
use Rattle.tag.specs.Tags.{last_digits, number_from}
use Rattle.text.specs.Lines.{lines_of}
use Rattle.airline_list.specs.Forms.{Form, Airline, Others, Neither, form_of}
use Rattle.airline_list.specs.Lists.{Entry, entry, Verdict, says, faulty, named, judged, verdict, end_for, sent}
use Rattle.airline_list.specs.Wrong.{
  judged_by,
  named_before,
  faulty_there,
  sent_by,
  right_reader,
  neither_from,
  lines_fed,
  cases,
  AllRefuted,
  RightIsSent,
}

pub all-refuted : AllRefuted
unfolding cases judged_by neither_from lines_fed last_digits number_from lines_of form_of named end_for
all-refuted = (refl, refl)

judged-by : (n : ℕ) (earlier : List Entry) (forms : List Form)
    → judged_by named_before faulty_there n earlier forms ≡ judged n earlier forms
unfolding judged_by judged
judged-by n earlier [] = refl
judged-by n earlier (Neither ∷ forms) = refl
judged-by n earlier (Others end ∷ forms) = refl
judged-by n earlier (Airline code end ∷ forms) =
    rw (judged-by (suc n) (earlier ++ (entry code end ∷ [])) forms)

sent-right : (v : Verdict) (tag : ℕ) → sent_by right_reader v tag ≡ sent v tag
sent-right (says es closing) tag = refl
sent-right (faulty number line) tag = refl

pub right-is-sent : RightIsSent
unfolding verdict
right-is-sent list tag =
    ap (λ (v : Verdict). sent_by right_reader v tag) (judged-by 1 [] (map form_of (lines_of list)))
    ∙ sent-right (verdict list) tag
