-- Words of eight bytes are the same numbers where they are the same bytes.
use Rattle.std.proofs.Common.{◌≡◌, refl, sym, ap, ◌∙◌}
use Rattle.std.specs.Prelude.{ℕ, suc, ◌+◌, ◌≤◌, ◌<◌, Bool, true, false, List, [], ◌∷◌, length, get_or, take, drop, eqb}
use Rattle.std.specs.Int.{w64, from_le_bytes, to_le_bytes}
use Rattle.std.proofs.lemmas.Nat.{le_bytes_8}
use native.Mathlib.Omega.{arith}
use native.Mathlib.Decide.{dec_lt}
use lib.ListN.{length-take, length-drop, get_or-eq_default}
use lib.Seq.{drop-cons}
use Rattle.std.proofs.lemmas.List.{get_or-take, get_or-drop}
use borrow.Author.Tests.{eq-eqb, eqb-true}
use Rattle.tag.proofs.TagLaws.{clash}
use Rattle.text.specs.Text.{same}
use Rattle.text.proofs.Laws.SameTexts.{same-equal, same-itself}

abbrev pub Bytes : List ℕ → Type 0
Bytes word = (length word ≡ 8) × ((i : ℕ) → get_or word i 0 < 256)

words_same : (one other : List ℕ) → Bytes one → Bytes other
    → eqb (from_le_bytes w64 one) (from_le_bytes w64 other) ≡ same one other
words_same one other B C =
    go (eqb (from_le_bytes w64 one) (from_le_bytes w64 other)) refl (same one other) refl
  where
    go : (numbers : Bool) → eqb (from_le_bytes w64 one) (from_le_bytes w64 other) ≡ numbers
        → (bytes : Bool) → same one other ≡ bytes → numbers ≡ bytes
    go true e true f = refl
    go false e false f = refl
    go true e false f =
        let n = eqb-true (from_le_bytes w64 one) (from_le_bytes w64 other) e in
        let is : one ≡ other =
        sym (le_bytes_8 one (from_le_bytes w64 one) B.0 B.1 refl) ∙ ap (to_le_bytes w64) n
        ∙ le_bytes_8 other (from_le_bytes w64 other) C.0 C.1 refl in
        let z : true ≡ false = sym (same-itself one) ∙ ap (same one) is ∙ f in
        clash (cc)
    go false e true f =
        let n = eq-eqb (from_le_bytes w64 one) (from_le_bytes w64 other)
        (ap (from_le_bytes w64) (same-equal one other f)) in
        clash (cc)

-- ---- The bytes of a word, one by one.
at-drop : (text : List ℕ) (i j : ℕ) → i < length text → j ≡ i + 1 → drop i text ≡ get_or text i 0 ∷ drop j text
at-drop text i j h e =
    let next : suc i ≡ j = omega arith in
    drop-cons text i 0 h ∙ ap (λ n. get_or text i 0 ∷ drop n text) next

eight_bytes : (text : List ℕ) (at : ℕ) → at + 8 ≤ length text
    → take 8 (drop at text)
    ≡ get_or text at 0 ∷ get_or text (at + 1) 0 ∷ get_or text (at + 2) 0 ∷ get_or text (at + 3) 0
    ∷ get_or text (at + 4) 0 ∷ get_or text (at + 5) 0 ∷ get_or text (at + 6) 0 ∷ get_or text (at + 7) 0 ∷ []
eight_bytes text at h =
    rw (
      at-drop text at (at + 1) (omega arith) refl,
      at-drop text (at + 1) (at + 2) (omega arith) (omega arith),
      at-drop text (at + 2) (at + 3) (omega arith) (omega arith),
      at-drop text (at + 3) (at + 4) (omega arith) (omega arith),
      at-drop text (at + 4) (at + 5) (omega arith) (omega arith),
      at-drop text (at + 5) (at + 6) (omega arith) (omega arith),
      at-drop text (at + 6) (at + 7) (omega arith) (omega arith),
      at-drop text (at + 7) (at + 8) (omega arith) (omega arith),
    )

-- A word read at a place.
module _ (text : List ℕ) (at : ℕ) (room : at + 8 ≤ length text) (small : (i : ℕ) → get_or text i 0 < 256) where
  long : length (take 8 (drop at text)) ≡ 8
  long = simp (length-take, length-drop) (omega arith)

  here_bytes : Bytes (take 8 (drop at text))
  here_bytes = (long, λ i. go i (dec_lt i 8))
    where
      go : (i : ℕ) → Dec (i < 8) → get_or (take 8 (drop at text)) i 0 < 256
      go i (yes within) = rw (get_or-take 8 (drop at text) i 0 within, get_or-drop at text i 0) (small (at + i))
      go i (no past) = rw (get_or-eq_default (take 8 (drop at text)) 0 {n = i} (omega (arith, long))) (omega arith)

  pub word-same : (word : List ℕ) → Bytes word
      → eqb (from_le_bytes w64 (
      get_or text at 0 ∷ get_or text (at + 1) 0 ∷ get_or text (at + 2) 0 ∷ get_or text (at + 3) 0
      ∷ get_or text (at + 4) 0 ∷ get_or text (at + 5) 0 ∷ get_or text (at + 6) 0 ∷ get_or text (at + 7) 0 ∷ []
      )) (from_le_bytes w64 word)
      ≡ same (take 8 (drop at text)) word
  word-same word B =
      ap (λ bytes. eqb (from_le_bytes w64 bytes) (from_le_bytes w64 word)) (sym (eight_bytes text at room))
      ∙ words_same (take 8 (drop at text)) word here_bytes B
