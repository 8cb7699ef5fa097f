-- A line has a form just where it is that form's text.
use mathlib.Core.Path.{◌≡◌, refl, ap, ◌∙◌}
use mathlib.Core.Bool.{Bool, true, false, cond}
use mathlib.Core.Logic.{◌⊎◌, inl, inr}
use mathlib.Core.List.{List, [], ◌∷◌, ◌++◌}
use Prim.Native.Nat.{ℕ, ◌+◌, ◌%◌, ◌≤◌, ◌<◌}
use native.Mathlib.Omega.{arith}
use borrow.Author.Tests.{eq-eqb}
use lib.ListN.{length}
use Rattle.std.specs.Prelude.{Some, None}
use Rattle.tag.specs.Tags.{last_digits, number_from}
use Rattle.text.specs.Text.{bytes, same}
use Rattle.text.proofs.Laws.SameTexts.{same-equal}
use Rattle.airline_list.specs.declared.End.{End}
use Rattle.airline_list.specs.declared.End.TheVariants.{Left, Right}
use Rattle.airline_list.specs.Forms.{Form, Airline, Others, Neither, code_text, end_text, form_text, code_in, first_with, form_of}
use Rattle.airline_list.specs.FirstForm.{end_of_two, airline_with, airline_behind}
use Rattle.airline_list.specs.Read.{codes, InRange}

-- ---- Lines that begin as an airline's.
same-behind : (front xs ys : List ℕ) → same (front ++ xs) (front ++ ys) ≡ same xs ys
same-behind [] xs ys = refl
same-behind (b ∷ bs) xs ys = rw (eq-eqb b b refl) (same-behind bs xs ys)

abbrev pub airline_line : (code : ℕ) (rest : List ℕ) → List ℕ
airline_line code rest = bytes "(airline (code " ++ (code_text code ++ rest)

code-written : (code : ℕ) (rest : List ℕ) → code_in (airline_line code rest) ≡ code % codes
unfolding last_digits number_from
code-written code rest = omega arith

-- The form of such a line is told by what stands behind the code.
pub airline-form : (code : ℕ) (rest : List ℕ) → code < codes
    → form_of (airline_line code rest) ≡ airline_behind code rest
unfolding form_of airline_behind end_of_two
airline-form code rest small =
    let written : code_in (airline_line code rest) ≡ code = code-written code rest ∙ omega arith in
    let left = same-behind (code_text code) rest (bytes ") left)") in
    let right = same-behind (code_text code) rest (bytes ") right)") in
    rw (written, left, right) (go (same rest (bytes ") left)")) (same rest (bytes ") right)")))
  where
    go : (left right : Bool)
        → cond left (Airline code Left) (cond right (Airline code Right) Neither)
        ≡ airline_with code (cond left (Some Left) (cond right (Some Right) None))
    go true right = refl
    go false true = refl
    go false false = refl

-- ---- A line that has a form is its text.
with-text : (line : List ℕ) (forms : List Form)
    → (first_with line forms ≡ Neither) ⊎ (line ≡ form_text (first_with line forms))
with-text line [] = inl refl
with-text line (form ∷ forms) = go (same line (form_text form)) refl (with-text line forms)
  where
    go : (b : Bool) → same line (form_text form) ≡ b
        → (first_with line forms ≡ Neither) ⊎ (line ≡ form_text (first_with line forms))
        → (cond b form (first_with line forms) ≡ Neither) ⊎ (line ≡ form_text (cond b form (first_with line forms)))
    go true e r = inr (same-equal line (form_text form) e)
    go false e r = r

pub form-text : (line : List ℕ) → (form_of line ≡ Neither) ⊎ (line ≡ form_text (form_of line))
unfolding form_of
form-text line =
    let code = code_in line in
    with-text line (Airline code Left ∷ Airline code Right ∷ Others Left ∷ Others Right ∷ [])

-- ---- The code of a line that has one is of three digits.
code-small : (line : List ℕ) (end : End) → same line (form_text (Airline (code_in line) end)) ≡ true → code_in line < codes
code-small line end h =
    let text = same-equal line (form_text (Airline (code_in line) end)) h in
    let e : code_in line ≡ code_in line % codes =
    ap code_in text ∙ code-written (code_in line) (bytes ") " ++ (end_text end ++ bytes ")")) in
    omega arith

pub form-in-range : (line : List ℕ) → InRange (form_of line)
unfolding form_of
form-in-range line =
    go (same line (form_text (Airline (code_in line) Left))) refl (same line (form_text (Airline (code_in line) Right)))
    refl
    (same line (form_text (Others Left))) (same line (form_text (Others Right)))
  where
    go : (a : Bool) → same line (form_text (Airline (code_in line) Left)) ≡ a
        → (b : Bool) → same line (form_text (Airline (code_in line) Right)) ≡ b → (c d : Bool)
        → InRange (cond a (Airline (code_in line) Left) (cond b (Airline (code_in line) Right)
        (cond c (Others Left) (cond d (Others Right) Neither))))
    go true h b k c d = code-small line Left h
    go false h true k c d = code-small line Right k
    go false h false k true d = tt
    go false h false k false true = tt
    go false h false k false false = tt

-- ---- A form's text has this form.
pub form-written : (form : Form) → InRange form → form_of (form_text form) ≡ form
unfolding form_of airline_behind end_of_two
form-written (Airline code Left) small = airline-form code (bytes ") left)") small
form-written (Airline code Right) small = airline-form code (bytes ") right)") small
form-written (Others Left) r = refl
form-written (Others Right) r = refl
form-written Neither r = refl

pub airline-length : (code : ℕ) (end : End) → length (form_text (Airline code end)) ≡ 21 + length (end_text end)
unfolding last_digits
airline-length code Left = refl
airline-length code Right = refl

pub end_short : (end : End) → length (end_text end) ≤ 5
end_short Left = omega arith
end_short Right = omega arith
