-- The lines of a list from a place on, and their forms.
use mathlib.Core.Path.{◌≡◌, sym, ap, ◌∙◌, subst}
use mathlib.Core.Bool.{true, false}
use mathlib.Core.Logic.{◌⊎◌, inl, inr}
use mathlib.Core.List.{List, [], ◌∷◌, map}
use Prim.Native.Nat.{ℕ, suc, ◌+◌, ◌-◌, ◌≤◌, ◌<◌}
use native.Mathlib.Omega.{arith}
use lib.ListN.{length, take, drop, drop_of_length-le, length-drop}
use lib.Seq.{take_all, drop-drop}
use Rattle.text.specs.Lines.{first_line, lines_of}
use Rattle.text.proofs.Laws.AllLines.{first-of-lines}
use Rattle.text.proofs.Laws.FirstLine.{line-within}
use Rattle.airline_list.specs.declared.End.{End}
use Rattle.airline_list.specs.Forms.{Form, Airline, Neither, form_text, form_of}
use Rattle.airline_list.specs.Lists.{none_left}
use Rattle.airline_list.specs.Read.{codes, InRange}
use Rattle.airline_list.proofs.Laws.FormLaws.{form-text, form-in-range}

-- ---- The forms from a place of the list on.
abbrev pub form_at : (list : List ℕ) (from : ℕ) → Form
form_at list from = form_of (first_line (drop from list))

abbrev pub forms_at : (list : List ℕ) (from : ℕ) → List Form
forms_at list from = map form_of (lines_of (drop from list))

pub forms-end : (list : List ℕ) (from : ℕ) → length list ≤ from → forms_at list from ≡ []
unfolding lines_of
forms-end list from h = rw (drop_of_length-le list {i = from} h)

some-forms : (list : List ℕ) (from : ℕ) → from < length list → none_left (forms_at list from) ≡ false
some-forms list from h =
    let some : 0 < length (drop from list) = simp length-drop (omega arith) in
    rw (first-of-lines (drop from list) some)

-- Whether a line follows is told by the place where one ends.
pub none-follows : (list : List ℕ) (to : ℕ) → length list - to ≤ 1 → none_left (forms_at list (to + 1)) ≡ true
none-follows list to h = rw (forms-end list (to + 1) (omega arith))

pub one-follows : (list : List ℕ) (to : ℕ) → 1 < length list - to → none_left (forms_at list (to + 1)) ≡ false
one-follows list to h = some-forms list (to + 1) (omega arith)

module _ (list : List ℕ) (from : ℕ) where
  -- The forms behind the first line feed.
  abbrev pub forms_behind : List Form
  forms_behind = map form_of (lines_of (drop (suc (length (first_line (drop from list)))) (drop from list)))

  pub forms-first : from < length list → forms_at list from ≡ form_at list from ∷ forms_behind
  forms-first h =
      let some : 0 < length (drop from list) = simp length-drop (omega arith) in
      ap (map form_of) (first-of-lines (drop from list) some)

  -- A line that has a form ends where the form's text does.
  pub forms-behind : (to : ℕ) → to ≡ from + length (form_text (form_at list from))
      → first_line (drop from list) ≡ form_text (form_at list from) → forms_behind ≡ forms_at list (to + 1)
  forms-behind to ends text =
      let n = ap length text in
      let place : from + suc (length (first_line (drop from list))) ≡ to + 1 = omega arith in
      ap (λ (t : List ℕ). map form_of (lines_of t))
      (drop-drop (suc (length (first_line (drop from list)))) from list ∙ ap (λ i. drop i list) place)

  pub form-within : from ≤ length list → from + length (form_text (form_at list from)) ≤ length list
  form-within h = go (form-text (first_line (drop from list)))
    where
      go : (form_at list from ≡ Neither) ⊎ (first_line (drop from list) ≡ form_text (form_at list from))
          → from + length (form_text (form_at list from)) ≤ length list
      go (inl e) = rw e (omega arith)
      go (inr e) = rw (← e) (line-within list from h)

-- What a part of the list tells that is lent from a place on, it tells of the list.
module _ (list : List ℕ) (from : ℕ) (within : from ≤ length list) where
  part : take (length list - from) (drop from list) ≡ drop from list
  part = take_all (length list - from) (drop from list) (simp length-drop (omega arith))

  pub form-lent : {form : Form} → form ≡ form_of (first_line (take (length list - from) (drop from list)))
      → form_at list from ≡ form
  form-lent e = sym (e ∙ ap (λ t. form_of (first_line t)) part)

  pub length-lent : length (take (length list - from) (drop from list)) + from ≡ length list
  length-lent = rw part (simp length-drop (omega arith))

-- The code of a line is of three digits.
pub code-small : (list : List ℕ) (from : ℕ) {code : ℕ} {end : End} → form_at list from ≡ Airline code end → code < codes
code-small list from e = subst InRange e (form-in-range (first_line (drop from list)))
