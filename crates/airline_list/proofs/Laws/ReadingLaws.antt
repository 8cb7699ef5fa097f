-- The lines read one by one: what is left to read, after what was read, comes to what the list comes to.
use mathlib.Core.Path.{◌≡◌, refl, sym, ap, ◌∙◌}
use mathlib.Core.Bool.{true, false}
use mathlib.Core.Logic.{◌⊎◌, inl, inr}
use mathlib.Core.List.{List, [], ◌∷◌, ◌++◌}
use Prim.Native.Nat.{ℕ, ◌+◌, ◌-◌, ◌≤◌, ◌<◌}
use native.Mathlib.Decide.{dec_lt}
use native.Mathlib.Numerals.{add-one}
use native.Mathlib.Omega.{arith}
use borrow.Author.Tests.{lt-ltb, le-ltb}
use lib.ListN.{length, drop, drop_of_length-le}
use Rattle.std.specs.Prelude.{Option, None, unwrap_or}
use Rattle.tag.proofs.TagLaws.{clash}
use Rattle.text.specs.Lines.{first_line}
use Rattle.airline_list.specs.declared.End.{End}
use Rattle.airline_list.specs.Outcomes.{To}
use Rattle.airline_list.specs.Forms.{Form, Airline, Others, Neither, form_text, form_of}
use Rattle.airline_list.specs.Lists.{code_of, entry, Verdict, says, faulty, named, none_left, judged, verdict, end_for, sent}
use Rattle.airline_list.specs.Read.{codes, has_bit, with_bit, Kept, Reading, sent_to}
use Rattle.airline_list.proofs.Laws.FormLaws.{form-text}
use Rattle.airline_list.proofs.Laws.KeptLaws.{Ends, named-end, kept_more}
use Rattle.airline_list.proofs.Laws.LineLaws.{
  form_at,
  forms_at,
  forms-end,
  forms_behind,
  forms-first,
  forms-behind,
  none-follows,
  one-follows,
  code-small,
}

pub nothing_read : {wanted : ℕ} (list seen : List ℕ) → Kept wanted seen None [] → Reading wanted list 0 1 seen None
unfolding verdict
nothing_read list seen K =
    record { within = omega arith; few = omega arith; earlier = []; kept = K; rest = refl }

-- Past the end no line has a form.
form-before : (list : List ℕ) (from : ℕ) (form : Form) → form_at list from ≡ form → (form ≡ Neither → ⊥)
    → from < length list
unfolding first_line form_of
form-before list from form its some = go (dec_lt from (length list))
  where
    go : Dec (from < length list) → from < length list
    go (yes before) = before
    go (no past) =
        let none = drop_of_length-le list {i = from} (omega arith) in
        absurd (some (sym its ∙ ap (λ t. form_of (first_line t)) none))

module _ {wanted : ℕ} {list : List ℕ} {from line : ℕ} {seen : List ℕ} {end : Option End}
    (R : Reading wanted list from line seen end) where
  first-judged : from < length list
      → judged line R.earlier (form_at list from ∷ forms_behind list from) ≡ verdict list
  first-judged before = sym (ap (judged line R.earlier) (forms-first list from before)) ∙ R.rest

  -- A line that has no form is a fault, and so is none.
  pub no-form : form_at list from ≡ Neither → faulty 27 line ≡ verdict list
  unfolding judged
  no-form neither = go (dec_lt from (length list))
    where
      go : Dec (from < length list) → faulty 27 line ≡ verdict list
      go (yes before) =
          sym (ap (λ form. judged line R.earlier (form ∷ forms_behind list from)) neither) ∙ first-judged before
      go (no past) = sym (ap (judged line R.earlier) (forms-end list from (omega arith))) ∙ R.rest

  pub too_many : 64 < line → faulty 27 line ≡ verdict list
  unfolding judged
  too_many many = go (dec_lt from (length list))
    where
      judged-so : (form : Form) → judged line R.earlier (form ∷ forms_behind list from) ≡ faulty 27 line
      judged-so (Airline code end) = rw (lt-ltb 64 line many)
      judged-so (Others end) = rw (lt-ltb 64 line many)
      judged-so Neither = refl

      go : Dec (from < length list) → faulty 27 line ≡ verdict list
      go (yes before) = sym (judged-so (form_at list from)) ∙ first-judged before
      go (no past) = sym (ap (judged line R.earlier) (forms-end list from (omega arith))) ∙ R.rest

  -- ---- A line with a form, which ends where the form's text does.
  module _ (few : line ≤ 64) {form : Form} (its : form_at list from ≡ form) (some : form ≡ Neither → ⊥)
      {to : ℕ} (ends : to ≡ from + length (form_text form)) where
    line-judged : judged line R.earlier (form ∷ forms_at list (to + 1)) ≡ verdict list
    line-judged = go (form-text (first_line (drop from list)))
      where
        go : (form_at list from ≡ Neither) ⊎ (first_line (drop from list) ≡ form_text (form_at list from))
            → judged line R.earlier (form ∷ forms_at list (to + 1)) ≡ verdict list
        go (inl neither) = absurd (some (sym its ∙ neither))
        go (inr text) =
            let there : to ≡ from + length (form_text (form_at list from)) =
            ends ∙ ap (λ f. from + length (form_text f)) (sym its) in
            ap (λ f. judged line R.earlier (f ∷ forms_at list (to + 1))) (sym its)
            ∙ ap (λ fs. judged line R.earlier (form_at list from ∷ fs)) (sym (forms-behind list from to there text))
            ∙ first-judged (form-before list from form its some)

  module _ (few : line ≤ 64) {others : End} (its : form_at list from ≡ Others others)
      {to : ℕ} (ends : to ≡ from + length (form_text (Others others))) where
    whole : judged line R.earlier (Others others ∷ forms_at list (to + 1)) ≡ verdict list
    whole = line-judged few its (λ e. clash (cc)) ends

    pub closes : length list - to ≤ 1 → To (unwrap_or end others) ≡ sent_to wanted (verdict list)
    unfolding judged
    closes last =
        let no-more : none_left (forms_at list (to + 1)) ≡ true = none-follows list to last in
        let says-so : says R.earlier others ≡ verdict list = sym (rw (le-ltb 64 line few, no-more)) ∙ whole in
        ap To (ap (λ e. unwrap_or e others) R.kept.ends ∙ named-end wanted R.earlier others)
        ∙ ap (sent_to wanted) says-so

    pub closes-early : 1 < length list - to → faulty 29 line ≡ verdict list
    unfolding judged
    closes-early more =
        let some-more : none_left (forms_at list (to + 1)) ≡ false = one-follows list to more in
        sym (rw (le-ltb 64 line few, some-more)) ∙ whole

  module _ (few : line ≤ 64) {code : ℕ} {its-end : End} (its : form_at list from ≡ Airline code its-end)
      {to : ℕ} (ends : to ≡ from + length (form_text (Airline code its-end))) where
    small : code < codes
    small = code-small list from its

    all-judged : judged line R.earlier (Airline code its-end ∷ forms_at list (to + 1)) ≡ verdict list
    all-judged = line-judged few its (λ e. clash (cc)) ends

    pub named-again : has_bit seen code ≡ true → faulty 28 line ≡ verdict list
    unfolding judged
    named-again old =
        let again : named code R.earlier ≡ true = sym (R.kept.bits code small) ∙ old in
        sym (rw (le-ltb 64 line few, again)) ∙ all-judged

    module _ (new : has_bit seen code ≡ false) where
      not-named : named code R.earlier ≡ false
      not-named = sym (R.kept.bits code small) ∙ new

      pub not-closed : length list - to ≤ 1 → faulty 29 line ≡ verdict list
      unfolding judged
      not-closed last =
          let no-more : none_left (forms_at list (to + 1)) ≡ true = none-follows list to last in
          sym (rw (le-ltb 64 line few, not-named, no-more)) ∙ all-judged

      pub airline_more : 1 < length list - to → (after : Option End) → Ends wanted code its-end end after
          → Reading wanted list (to + 1) (line + 1) (with_bit seen code) after
      unfolding judged
      airline_more more after E =
          let some-more : none_left (forms_at list (to + 1)) ≡ false = one-follows list to more in
          record {
            within = omega arith;
            few = omega arith;
            earlier = R.earlier ++ (entry code its-end ∷ []);
            kept = kept_more R.kept code its-end small not-named E;
            rest = rw (add-one line) (sym (rw (le-ltb 64 line few, not-named, some-more)) ∙ all-judged);
          }

-- ---- What the two calls answer.
pub tag-sent : (v : Verdict) (wanted tag : ℕ) → wanted ≡ code_of tag → sent_to wanted v ≡ sent v tag
tag-sent (says es closing) wanted tag e = ap (λ code. To (end_for code es closing)) e
tag-sent (faulty number line) wanted tag e = refl
