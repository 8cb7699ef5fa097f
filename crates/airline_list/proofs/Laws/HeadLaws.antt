-- The first line of a text, by what the code tests of the text.
use mathlib.Core.Path.{◌≡◌, refl, sym, ap, ◌∙◌}
use mathlib.Core.Bool.{Bool, true, false, not, cond, ◌&&◌, and-false}
use mathlib.Core.List.{List, [], ◌∷◌, ◌++◌, append_assoc}
use Prim.Native.Nat.{ℕ, zero, suc, ◌+◌, ◌*◌, ◌-◌, ◌/◌, ◌%◌, ◌≤◌, ◌<◌}
use native.Mathlib.Decide.{dec_lt}
use native.Mathlib.Omega.{arith}
use borrow.Author.Tests.{ne_eqb, eqb-true, eqb-false, le-leb}
use lib.Dec.{eqb}
use lib.ListN.{length, get_or, take, drop, take-append-drop, length-take, get_or-eq_default}
use lib.Seq.{drop-cons, take-take}
use Rattle.std.specs.Prelude.{Some, None}
use Rattle.tag.specs.Tags.{number_from}
use Rattle.tag.proofs.TagLaws.{clash, both_true}
use Rattle.text.specs.Text.{bytes, same}
use Rattle.text.specs.Lines.{line_feed, first_line, one_line}
use Rattle.text.proofs.Laws.SameTexts.{same-equal, same-lengths-differ, same-in-parts, drop_of_take}
use Rattle.text.proofs.Laws.FirstLine.{line-goes-on, line-bytes, no-feed, front-line}
use Rattle.text_scan.proofs.Laws.PlaceLaws.{digit-range}
use Rattle.text_scan.specs.Scanned.{zero_digit, is_digit}
use Rattle.airline_list.specs.declared.End.{End}
use Rattle.airline_list.specs.declared.End.TheVariants.{Left, Right}
use Rattle.airline_list.specs.Forms.{Airline, Others, Neither, code_text, end_text, form_text, code_in, form_of}
use Rattle.airline_list.specs.FirstForm.{three_digits, has_code, end_of_two, others_with, airline_behind, others_in}
use Rattle.airline_list.specs.Read.{codes}
use Rattle.airline_list.proofs.Laws.CodeLaws.{three-digits}
use Rattle.airline_list.proofs.Laws.FormLaws.{airline_line, airline-form}

-- ---- A line without a line feed is the first one where the text begins with it, and a line feed follows or nothing.
-- The default of a place within a list does not matter.
get_d_any : (xs : List ℕ) (i d e : ℕ) → i < length xs → get_or xs i d ≡ get_or xs i e
get_d_any [] i d e h = absurd (omega arith)
get_d_any (x ∷ xs) zero d e h = refl
get_d_any (x ∷ xs) (suc i) d e h = get_d_any xs i d e (omega arith)

first-is : (text line : List ℕ) → one_line line ≡ true
    → same (first_line text) line
    ≡ (same (take (length line) text) line && eqb (get_or text (length line) line_feed) line_feed)
unfolding first_line
first-is [] [] o = refl
first-is [] (x ∷ xs) o = refl
first-is (b ∷ bs) [] o = go (eqb b line_feed) refl
  where
    go : (fed : Bool) → eqb b line_feed ≡ fed → same (cond fed [] (b ∷ first_line bs)) [] ≡ eqb b line_feed
    go true e = sym e
    go false e = sym e
first-is (b ∷ bs) (x ∷ xs) o = go (eqb b line_feed) refl (first-is bs xs p.1)
  where
    p : (not (eqb x line_feed) ≡ true) × (one_line xs ≡ true)
    p = both_true (not (eqb x line_feed)) (one_line xs) o

    go : (fed : Bool) → eqb b line_feed ≡ fed
        → same (first_line bs) xs
        ≡ (same (take (length xs) bs) xs && eqb (get_or bs (length xs) line_feed) line_feed)
        → same (cond fed [] (b ∷ first_line bs)) (x ∷ xs)
        ≡ (eqb b x && same (take (length xs) bs) xs && eqb (get_or bs (length xs) line_feed) line_feed)
    go true e r =
        let feed = eqb-true b line_feed e in
        let other : b ≡ x → ⊥ = λ same. eqb-false x line_feed (no-feed (eqb x line_feed) p.0) (sym same ∙ feed) in
        sym (rw (ne_eqb b x other))
    go false e r = first (eqb b x)
      where
        first : (same_byte : Bool)
            → (same_byte && same (first_line bs) xs)
            ≡ (same_byte && same (take (length xs) bs) xs && eqb (get_or bs (length xs) line_feed) line_feed)
        first true = r
        first false = refl

-- The same by the tests of the code.
module _ (text line : List ℕ) (one : one_line line ≡ true) where
  pub not_first : same (take (length line) text) line ≡ false → false ≡ same (first_line text) line
  not_first h = sym (first-is text line one ∙ ap (λ b. b && eqb (get_or text (length line) line_feed) line_feed) h)

  pub too_short : length text < length line → false ≡ same (first_line text) line
  too_short h =
      not_first (same-lengths-differ (take (length line) text) line
      (λ e. let z = length-take (length line) text in absurd (omega arith)))

  module _ (begins : same (take (length line) text) line ≡ true) where
    pub first-whole : length text ≡ length line → true ≡ same (first_line text) line
    first-whole h =
        let end : get_or text (length line) line_feed ≡ line_feed =
        get_or-eq_default text line_feed {n = length line} (omega arith) in
        sym (first-is text line one ∙ rw (begins, end))

    pub first-fed : length line < length text → eqb (get_or text (length line) 0) line_feed ≡ same (first_line text) line
    first-fed h = sym (first-is text line one ∙ rw (begins, get_d_any text (length line) line_feed 0 h))

-- ---- The text in front of a code, in two parts.
pub head-in-parts : (text : List ℕ) {first second : Bool}
    → same (take 8 text) (bytes "(airline") ≡ first
    → same (take 7 (drop 8 text)) (bytes " (code ") ≡ second
    → same (take 15 text) (bytes "(airline (code ") ≡ (first && second)
head-in-parts text e f =
    sym (same-in-parts 8 (take 15 text) (bytes "(airline (code "))
    ∙ (λ i. same (take-take 8 15 text (omega arith) i) (bytes "(airline") && same (drop_of_take 8 7 text i)
    (bytes " (code "))
    ∙ (λ i. e i && f i)

-- ---- The three digits of a code.
digit-written : (d : ℕ) → d ≤ 9 → is_digit (zero_digit + d) ≡ true
digit-written d h = rw (le-leb 48 (zero_digit + d) (omega arith), le-leb (zero_digit + d) 57 (omega arith))

pub record Digits (text : List ℕ) : Type 0 where
  pub first : is_digit (get_or text 15 0) ≡ true
  pub second : is_digit (get_or text 16 0) ≡ true
  pub third : is_digit (get_or text 17 0) ≡ true

pub digits : (text : List ℕ) → three_digits text ≡ true → Digits text
digits text h =
    let p = both_true (is_digit (get_or text 15 0) && is_digit (get_or text 16 0)) (is_digit (get_or text 17 0)) h in
    let q = both_true (is_digit (get_or text 15 0)) (is_digit (get_or text 16 0)) p.0 in
    record { first = q.0; second = q.1; third = p.1 }

-- A byte that is missing is no digit.
pub short-no-digits : (text : List ℕ) → length text < 18 → three_digits text ≡ false
short-no-digits text h =
    rw (get_or-eq_default text 0 {n = 17} (omega arith)) (and-false (is_digit (get_or text 15 0) && is_digit
    (get_or text 16 0)))

pub digits_long : (text : List ℕ) → three_digits text ≡ true → 18 ≤ length text
digits_long text h = go (dec_lt (length text) 18)
  where
    go : Dec (length text < 18) → 18 ≤ length text
    go (yes short) = let n = short-no-digits text short in clash (cc)
    go (no long) = omega arith

module _ (text : List ℕ) (three : three_digits text ≡ true) where
  from-code : drop 15 text ≡ get_or text 15 0 ∷ get_or text 16 0 ∷ get_or text 17 0 ∷ drop 18 text
  from-code =
      let long = digits_long text three in
      let a = drop-cons text 15 0 (omega arith) in
      let b = drop-cons text 16 0 (omega arith) in
      let c = drop-cons text 17 0 (omega arith) in
      a ∙ ap (λ (t : List ℕ). get_or text 15 0 ∷ t) (b ∙ ap (λ (t : List ℕ). get_or text 16 0 ∷ t) c)

  pub code_sum : code_in text
      ≡ 100 * (get_or text 15 0 - zero_digit) + 10 * (get_or text 16 0 - zero_digit) + (get_or text 17 0 - zero_digit)
  unfolding number_from
  code_sum = rw from-code (omega arith)

  pub code-in-range : code_in text < codes
  code-in-range =
      let d = digits text three in
      let a = digit-range (get_or text 15 0) d.first in
      let b = digit-range (get_or text 16 0) d.second in
      let c = digit-range (get_or text 17 0) d.third in
      rw code_sum (omega arith)

  code-bytes : code_text (code_in text) ≡ get_or text 15 0 ∷ get_or text 16 0 ∷ get_or text 17 0 ∷ []
  code-bytes =
      let d = digits text three in
      let a = digit-range (get_or text 15 0) d.first in
      let b = digit-range (get_or text 16 0) d.second in
      let c = digit-range (get_or text 17 0) d.third in
      let sum = code_sum in
      let p : zero_digit + code_in text / 100 % 10 ≡ get_or text 15 0 = omega arith in
      let q : zero_digit + code_in text / 10 % 10 ≡ get_or text 16 0 = omega arith in
      let r : zero_digit + code_in text % 10 ≡ get_or text 17 0 = omega arith in
      rw (three-digits (code_in text)) (λ i. p i ∷ q i ∷ r i ∷ [])

-- ---- A text that begins as an airline's line does.
digit-goes-on : (text : List ℕ) (i : ℕ) → i < length text → is_digit (get_or text i 0) ≡ true
    → first_line (drop i text) ≡ get_or text i 0 ∷ first_line (drop (i + 1) text)
digit-goes-on text i h d =
    let r = digit-range (get_or text i 0) d in
    line-goes-on text i h (λ e. absurd (omega arith))

module _ (text : List ℕ) (h : has_code text ≡ true) where
  pub three : three_digits text ≡ true
  three = (both_true (same (take 15 text) (bytes "(airline (code ")) (three_digits text) h).1

  head : first_line text ≡ airline_line (code_in text) (first_line (drop 18 text))
  head =
      let before = same-equal (take 15 text) (bytes "(airline (code ")
      (both_true (same (take 15 text) (bytes "(airline (code ")) (three_digits text) h).0 in
      let whole : text ≡ bytes "(airline (code " ++ drop 15 text =
      sym (take-append-drop 15 text) ∙ ap (λ (t : List ℕ). t ++ drop 15 text) before in
      let long = digits_long text three in
      let d = digits text three in
      let a = digit-goes-on text 15 (omega arith) d.first in
      let b = digit-goes-on text 16 (omega arith) d.second in
      let c = digit-goes-on text 17 (omega arith) d.third in
      let code = ap (λ (t : List ℕ). t ++ first_line (drop 18 text)) (code-bytes text three) in
      ap first_line whole ∙ front-line (bytes "(airline (code ") (drop 15 text) refl
      ∙ ap (λ (t : List ℕ). bytes "(airline (code " ++ t)
      (a ∙ ap (λ (t : List ℕ). get_or text 15 0 ∷ t) (b ∙ ap (λ (t : List ℕ). get_or text 16 0 ∷ t) c) ∙ sym code)

  pub airline-ahead : airline_behind (code_in text) (first_line (drop 18 text)) ≡ form_of (first_line text)
  airline-ahead =
      sym (ap form_of head ∙ airline-form (code_in text) (first_line (drop 18 text)) (code-in-range text three))

-- ---- A text that begins otherwise.
code-there : (code : ℕ) (rest : List ℕ) → has_code (airline_line code rest) ≡ true
code-there code rest =
    let a = digit-written (code / 100 % 10) (omega arith) in
    let b = digit-written (code / 10 % 10) (omega arith) in
    let c = digit-written (code % 10) (omega arith) in
    rw (three-digits code, a, b, c)

-- A text begins as its first line does.
not-airline : (text : List ℕ) → has_code text ≡ false → (code : ℕ) (end : End)
    → same (first_line text) (form_text (Airline code end)) ≡ false
not-airline text h code end = go (same (first_line text) (form_text (Airline code end))) refl
  where
    go : (b : Bool) → same (first_line text) (form_text (Airline code end)) ≡ b → b ≡ false
    go false e = refl
    go true e =
        let rest = bytes ") " ++ (end_text end ++ bytes ")") in
        let more = drop (length (first_line text)) text in
        let line = same-equal (first_line text) (airline_line code rest) e in
        let whole : text ≡ airline_line code (rest ++ more) =
        sym (take-append-drop (length (first_line text)) text)
        ∙ ap (λ (t : List ℕ). t ++ more) (line-bytes text ∙ line)
        ∙ ap (λ (t : List ℕ). bytes "(airline (code " ++ t) (append_assoc (code_text code) rest more) in
        let there : has_code text ≡ true = ap has_code whole ∙ code-there code (rest ++ more) in
        clash (cc)

pub others-ahead : (text : List ℕ) → has_code text ≡ false → others_in (first_line text) ≡ form_of (first_line text)
unfolding form_of others_in end_of_two
others-ahead text h =
    rw (not-airline text h (code_in (first_line text)) Left, not-airline text h (code_in (first_line text)) Right)
    (go (same (first_line text) (bytes "(others left)")) (same (first_line text) (bytes "(others right)")))
  where
    go : (left right : Bool)
        → others_with (cond left (Some Left) (cond right (Some Right) None))
        ≡ cond left (Others Left) (cond right (Others Right) Neither)
    go true right = refl
    go false true = refl
    go false false = refl
