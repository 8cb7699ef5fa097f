-- The first bytes of a text, the first three numbers, and the width of the last one are enough to tell the command.
use mathlib.Core.Bool.{Bool, true, false, cond, and-false}
use mathlib.Core.List.{List, [], ◌∷◌}
use mathlib.Core.Logic.{◌⊎◌, inl, inr}
use mathlib.Core.Path.{◌≡◌, refl, ap, ◌∙◌}
use Prim.Native.Nat.{ℕ, ◌-◌, ◌^◌, ◌<◌, ◌≤◌, min}
use native.Mathlib.Decide.{ℕ_discrete, dec_le}
use native.Mathlib.Omega.{arith}
use borrow.Author.Tests.{lt-leb, ne_eqb}
use lib.Dec.{T, leb, ltb, lit<}
use lib.ListN.{length, get_or, take}
use Rattle.tag.specs.Tags.{largest_tag}
use Rattle.text.specs.Text.{bytes, same}
use Rattle.text.proofs.Laws.SameTexts.{same-equal, same-take}
use Rattle.text_scan.specs.Scanned.{Scanned, places_in, WellScanned}
use Rattle.text_scan.specs.Kept.{text_places, kept_number, counted_digits}
use Rattle.program_command.specs.Commands.{
  largest_number,
  all_fit,
  tag_width,
  begin_text,
  begin_or,
  begin_of,
  form_of,
  push_of,
  command_with,
}
use Rattle.program_command.specs.Said.{Unread}
use Rattle.program_command.specs.KeptCommand.{first_three}

-- ---- No form has as many bytes as are kept.
module _ (l : List ℕ) where
  cut : (w : List ℕ) → T (ltb (length w) text_places) → same (take text_places l) w ≡ same l w
  cut w h = same-take text_places l w (lit< h)

  form-cut : (a b c : ℕ) → form_of (take text_places l) a b c ≡ form_of l a b c
  unfolding begin_or begin_of form_of
  form-cut a b c =
      rw (
        cut (bytes "(tick 0 0 0)") tt,
        cut (bytes "(lane)") tt,
        cut (bytes "(start (slots 0) (tasks 0) (growth 0))") tt,
        cut (begin_text "pop" "left") tt,
        cut (begin_text "pop" "right") tt,
        cut (begin_text "add" "left") tt,
        cut (begin_text "add" "right") tt,
        cut (begin_text "remove" "left") tt,
        cut (begin_text "remove" "right") tt,
      )

  command-cut : (ns : List ℕ) (width : ℕ) → command_with (take text_places l) ns width ≡ command_with l ns width
  unfolding command_with
  command-cut ns width =
      rw (
        cut (begin_text "push" "left") tt,
        cut (begin_text "push" "right") tt,
        form-cut (get_or ns 0 0) (get_or ns 1 0) (get_or ns 2 0),
      )

  -- ---- No form has places for more than three numbers.
  module _ (many : 3 < places_in l) where
    other_text : (w : List ℕ) → T (ltb (places_in w) 4) → same l w ≡ false
    other_text w few = go (same l w) refl
      where
        go : (b : Bool) → same l w ≡ b → b ≡ false
        go true e =
            let places : places_in l ≡ places_in w = ap places_in (same-equal l w e) in
            let fewer : places_in w < 4 = lit< few in
            absurd (omega arith)
        go false e = refl

    no-form : (a b c : ℕ) → form_of l a b c ≡ Unread
    unfolding places_in begin_or begin_of form_of
    no-form a b c =
        rw (
          other_text (bytes "(tick 0 0 0)") tt,
          other_text (bytes "(lane)") tt,
          other_text (bytes "(start (slots 0) (tasks 0) (growth 0))") tt,
          other_text (begin_text "pop" "left") tt,
          other_text (begin_text "pop" "right") tt,
          other_text (begin_text "add" "left") tt,
          other_text (begin_text "add" "right") tt,
          other_text (begin_text "remove" "left") tt,
          other_text (begin_text "remove" "right") tt,
        )

-- ---- What is kept of a number decides the same.

-- It is the number, or both are too large.
abbrev KeptOrLarge : ℕ → Type 0
KeptOrLarge n = (kept_number n ≡ n) ⊎ ((leb (kept_number n) largest_number ≡ false) × (leb n largest_number ≡ false))

kept-or-large : (n : ℕ) → KeptOrLarge n
kept-or-large n = go (dec_le n largest_tag)
  where
    go : Dec (n ≤ largest_tag) → KeptOrLarge n
    go (yes h) = inl (omega arith)
    go (no h) = inr (lt-leb (kept_number n) largest_number (omega arith), lt-leb n largest_number (omega arith))

form-kept : (l : List ℕ) (a b c : ℕ)
    → cond (all_fit (kept_number a ∷ kept_number b ∷ kept_number c ∷ []))
    (form_of l (kept_number a) (kept_number b) (kept_number c)) Unread
    ≡ cond (all_fit (a ∷ b ∷ c ∷ [])) (form_of l a b c) Unread
form-kept l a b c = go (kept-or-large a) (kept-or-large b) (kept-or-large c)
  where
    go : KeptOrLarge a → KeptOrLarge b → KeptOrLarge c
        → cond (all_fit (kept_number a ∷ kept_number b ∷ kept_number c ∷ []))
        (form_of l (kept_number a) (kept_number b) (kept_number c)) Unread
        ≡ cond (all_fit (a ∷ b ∷ c ∷ [])) (form_of l a b c) Unread
    go (inl e) (inl f) (inl g) = rw (e, f, g)
    go (inr e) f g = rw (e.0, e.1)
    go (inl e) (inr f) g = rw (e, f.0, f.1, and-false)
    go (inl e) (inl f) (inr g) = rw (e, f, g.0, g.1, and-false, and-false)

push_kept : (side task tag width : ℕ) → tag < 10 ^ width
    → push_of side (kept_number task) (kept_number tag) (min counted_digits width) ≡ push_of side task tag width
unfolding push_of
push_kept side task tag width narrow = go (ℕ_discrete width tag_width) (kept-or-large task)
  where
    go : Dec (width ≡ tag_width) → KeptOrLarge task
        → push_of side (kept_number task) (kept_number tag) (min counted_digits width) ≡ push_of side task tag width
    go (yes e) (inl f) =
        let below : tag < 10 ^ tag_width = rw e at narrow in
        let g : kept_number tag ≡ tag = omega arith in
        rw (e, f, g)
    go (yes e) (inr f) = rw (f.0, f.1)
    go (no e) f =
        simp (ne_eqb width tag_width e, ne_eqb (min counted_digits width) tag_width (λ x. e (omega arith)), and-false)

-- ---- The command of what is kept.
few-fit : (ns : List ℕ) → length ns ≤ 3 → all_fit (first_three ns) ≡ all_fit ns
few-fit [] h = refl
few-fit (a ∷ []) h = refl
few-fit (a ∷ b ∷ []) h = refl
few-fit (a ∷ b ∷ c ∷ []) h = refl
few-fit (a ∷ b ∷ c ∷ d ∷ ns) h = absurd (omega arith)

cond_same : {A : Type 0} (b : Bool) (x : A) → cond b x x ≡ x
cond_same true x = refl
cond_same false x = refl

module _ (σ : Scanned) (W : WellScanned σ) (held : List ℕ)
    (first : (k : ℕ) → k < 3 → get_or held k 0 ≡ kept_number (get_or σ.numbers k 0)) where
  abbrev a : ℕ
  a = get_or σ.numbers 0 0

  abbrev b : ℕ
  b = get_or σ.numbers 1 0

  abbrev c : ℕ
  c = get_or σ.numbers 2 0

  -- the second number of two is the last
  push-command : (side : ℕ) (w : List ℕ) → places_in w ≡ 2 → same σ.text w ≡ true
      → push_of side (get_or held 0 0) (get_or held 1 0) (min counted_digits σ.width) ≡ push_of side a b σ.width
  push-command side w two e =
      let places : places_in σ.text ≡ places_in w = ap places_in (same-equal σ.text w e) in
      let at : length σ.numbers - 1 ≡ 1 = omega (arith, W.placed) in
      rw (first 0 (lit< tt), first 1 (lit< tt)) (push_kept side a b σ.width (rw at at W.narrow))

  form-command : cond (all_fit (first_three held)) (form_of σ.text (get_or held 0 0) (get_or held 1 0) (get_or held 2 0))
      Unread
      ≡ cond (all_fit σ.numbers) (form_of σ.text a b c) Unread
  form-command =
      rw (first 0 (lit< tt), first 1 (lit< tt), first 2 (lit< tt))
      (form-kept σ.text a b c ∙ go (dec_le (length σ.numbers) 3))
    where
      go : Dec (length σ.numbers ≤ 3) → cond (all_fit (first_three σ.numbers)) (form_of σ.text a b c) Unread
          ≡ cond (all_fit σ.numbers) (form_of σ.text a b c) Unread
      go (yes few) = rw (few-fit σ.numbers few)
      go (no many) = simp (no-form σ.text (omega (arith, W.placed)) a b c, cond_same)

  pub command-kept : command_with (take text_places σ.text) (first_three held) (min counted_digits σ.width)
      ≡ command_with σ.text σ.numbers σ.width
  unfolding places_in command_with
  command-kept =
      command-cut σ.text (first_three held) (min counted_digits σ.width)
      ∙ go (same σ.text (begin_text "push" "left")) (same σ.text (begin_text "push" "right")) refl refl
    where
      go : (left right : Bool) → same σ.text (begin_text "push" "left") ≡ left
          → same σ.text (begin_text "push" "right") ≡ right
          → command_with σ.text (first_three held) (min counted_digits σ.width)
          ≡ command_with σ.text σ.numbers σ.width
      go true right e f = rw e (push-command 0 (begin_text "push" "left") refl e)
      go false true e f = rw (e, f) (push-command 1 (begin_text "push" "right") refl f)
      go false false e f = rw (e, f) form-command
