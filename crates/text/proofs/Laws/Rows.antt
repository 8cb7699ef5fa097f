-- A tag and a row of tags, written byte by byte and tag after tag.
use mathlib.Core.Path.{◌≡◌, refl, sym, ap, ◌∙◌}
use mathlib.Core.List.{List, [], ◌∷◌, ◌++◌, map, append-nil, append_assoc}
use Prim.Native.Nat.{ℕ, zero, suc, ◌+◌, ◌/◌, ◌-◌, ◌*◌, ◌≤◌, ◌<◌}
use native.Mathlib.Omega.{arith}
use lib.ListN.{length, get_or, get_or-append, set, take, drop, length-append, length-map, length-take, length-drop}
use Rattle.std.proofs.lemmas.List.{get_or-append_right, get_or_default}
use Rattle.std.proofs.lemmas.List.Edits.{map_over_more}
use lib.Seq.{get_or-take, length-take-le, get_or-drop, drop_at, drop-drop}
use Rattle.tag.specs.Tags.{tag_of, ten_digits, tags_in}
use Rattle.tag.proofs.DigitLaws.{length_last, last-are-digits, digit_at}
use Rattle.text.specs.Text.{bytes}
use Rattle.text.specs.Numerals.{tag_text, spaced}
use Rattle.text.specs.Writing.{Written}
use Rattle.text.proofs.Laws.SameTexts.{drop_of_take}
use Rattle.text.proofs.Laws.WritingLaws.{written-append}

-- ---- The bytes of a tag.
pub tag-length : (tag : ℕ) → length (tag_text tag) ≡ 10
tag-length tag = simp length-map (length_last 10 tag)

-- Digits, of which those before a place are characters already.
module _ (tag i : ℕ) {digits : List ℕ}
    (so_far : digits ≡ map (λ (d : ℕ). 48 + d) (take i (ten_digits tag)) ++ drop i (ten_digits tag))
    (there : i < 10) where
  pub digit-left : get_or digits i 0 ≤ 9
  digit-left =
      let ds = ten_digits tag in
      let front = map (λ (d : ℕ). 48 + d) (take i ds) in
      let long : length front ≡ i =
      simp length-map (omega (arith, length-take i ds, length_last 10 tag)) in
      let none : i - i ≡ 0 = omega arith in
      let here : i + 0 ≡ i = omega arith in
      let left : get_or digits i 0 ≡ get_or ds i 0 =
      ap (λ (l : List ℕ). get_or l i 0) so_far
      ∙ get_or-append_right front (drop i ds) i i 0 long (omega arith)
      ∙ rw (none, get_or-drop i ds 0 0, here) in
      rw left (digit_at ds i (last-are-digits 10 tag))

  pub digit-put : set digits i (get_or digits i 0 + 48)
      ≡ map (λ (d : ℕ). 48 + d) (take (i + 1) (ten_digits tag)) ++ drop (i + 1) (ten_digits tag)
  digit-put =
      let x = get_or digits i 0 in
      let e : x + 48 ≡ 48 + x = omega arith in
      let within : i < length digits =
      let long : length digits ≡ 10 =
      ap length so_far
      ∙ simp (length-append, length-map) (omega (arith, there, length-take i (ten_digits tag), length-drop i (ten_digits tag), length_last 10 tag)) in
      omega arith in
      ap (set digits i) e
      ∙ map_over_more (λ (d : ℕ). 48 + d) (ten_digits tag) digits i x (omega (arith, there, length_last 10 tag)) so_far
      (get_or_default digits i 0 x within)

-- ---- One tag more at the end.
spaced-more : (tags : List ℕ) (tag : ℕ) → spaced tags ++ (bytes " " ++ tag_text tag) ≡ spaced (tags ++ (tag ∷ []))
unfolding spaced
spaced-more [] tag = sym (append-nil (bytes " " ++ tag_text tag))
spaced-more (x ∷ tags) tag =
    append_assoc (bytes " " ++ tag_text x) (spaced tags) (bytes " " ++ tag_text tag)
    ∙ ap (λ (l : List ℕ). bytes " " ++ tag_text x ++ l) (spaced-more tags tag)

tags-more : (words : List ℕ) (i : ℕ)
    → tags_in (suc i) words ≡ tags_in i words ++ (tag_of (get_or words (2 * i) 0) (get_or words (2 * i + 1) 0) ∷ [])
unfolding tags_in
tags-more words zero = refl
tags-more words (suc i) =
    let even : 2 + 2 * i ≡ 2 * suc i = omega arith in
    let odd : 2 + (2 * i + 1) ≡ 2 * suc i + 1 = omega arith in
    let digit = get_or-drop 2 words (2 * i) 0 ∙ ap (λ (k : ℕ). get_or words k 0) even in
    let low = get_or-drop 2 words (2 * i + 1) 0 ∙ ap (λ (k : ℕ). get_or words k 0) odd in
    rw (← digit, ← low)
    (ap (λ (l : List ℕ). tag_of (get_or words 0 0) (get_or words 1 0) ∷ l) (tags-more (drop 2 words) i))

-- The first n tags are in the first 2 * n words.
tags-front : (n : ℕ) (words : List ℕ) → tags_in n (take (2 * n) words) ≡ tags_in n words
unfolding tags_in
tags-front zero words = refl
tags-front (suc n) words =
    let more : 2 * suc n ≡ 2 + 2 * n = omega arith in
    let first = get_or-take (2 * suc n) words 0 0 (omega arith) in
    let second = get_or-take (2 * suc n) words 1 0 (omega arith) in
    let rest : drop 2 (take (2 * suc n) words) ≡ take (2 * n) (drop 2 words) = rw more (drop_of_take 2 (2 * n) words) in
    rw (first, second, rest) (ap (λ (l : List ℕ). tag_of (get_or words 0 0) (get_or words 1 0) ∷ l) (tags-front n (drop 2 words)))

pub tags-of-front : (n : ℕ) (words : List ℕ) → 2 * n ≤ length words
    → tags_in (length (take (2 * n) words) / 2) (take (2 * n) words) ≡ tags_in n words
tags-of-front n words h =
    let half : length (take (2 * n) words) / 2 ≡ n = omega (arith, length-take-le (2 * n) words h) in
    rw half (tags-front n words)

-- ---- Words taken two by two.
module _ (words : List ℕ) (k : ℕ) (pair rest : List ℕ) (left : drop (2 * k) words ≡ pair ++ rest)
    (two : length pair ≡ 2) where
  pub pair-fits : 2 * suc k ≤ length words
  pair-fits =
      let long : length (drop (2 * k) words) ≡ length pair + length rest = ap length left ∙ length-append pair rest in
      omega (arith, length-drop (2 * k) words, long, two)

  pub pair-rest : rest ≡ drop (2 * suc k) words
  pair-rest =
      let e : 2 * suc k ≡ 2 * k + 2 = omega arith in
      rw e (sym (drop_at pair rest 2 two) ∙ ap (drop 2) (sym left) ∙ drop-drop 2 (2 * k) words)

  pair-word : (i : ℕ) → i < length pair → get_or pair i 0 ≡ get_or words (2 * k + i) 0
  pair-word i h =
      sym (get_or-append pair rest 0 i h) ∙ ap (λ (l : List ℕ). get_or l i 0) (sym left) ∙ get_or-drop (2 * k) words i 0

  pub pair-tag : tag_of (get_or pair 0 0) (get_or pair 1 0) ≡ tag_of (get_or words (2 * k) 0) (get_or words (2 * k + 1) 0)
  pair-tag =
      let first : 2 * k + 0 ≡ 2 * k = omega arith in
      rw (pair-word 0 (omega (arith, two)), pair-word 1 (omega (arith, two)), first)

pub no-tag-written : (out words : List ℕ) (at : ℕ) → Written out at (spaced (tags_in 0 words)) out at
unfolding spaced tags_in
no-tag-written out words at = record { buffer = refl; end = omega arith }

pub tag-written : (words : List ℕ) (i : ℕ) → {a b c : List ℕ} {at n m tag : ℕ}
    → tag ≡ tag_of (get_or words (2 * i) 0) (get_or words (2 * i + 1) 0)
    → Written a at (spaced (tags_in i words)) b n → Written b n (bytes " " ++ tag_text tag) c m
    → Written a at (spaced (tags_in (suc i) words)) c m
tag-written words i {tag = tag} e w v =
    rw (tags-more words i, ← e, ← spaced-more (tags_in i words) tag) (written-append w v)
