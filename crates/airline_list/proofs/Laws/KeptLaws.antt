-- The bits and the end stand for the airlines so far.
use mathlib.Core.Path.{◌≡◌, refl, sym, ap, ◌∙◌}
use mathlib.Core.Bool.{Bool, true, false, cond, ◌||◌}
use mathlib.Core.Logic.{◌⊎◌, inl, inr}
use mathlib.Core.List.{List, [], ◌∷◌, ◌++◌}
use Prim.Native.Nat.{ℕ, ◌/◌, ◌%◌, ◌^◌, ◌<◌}
use native.Mathlib.Decide.{ℕ_discrete}
use native.Mathlib.Nat.{div-eq_of_lt}
use native.Mathlib.Omega.{arith}
use borrow.Author.Tests.{eq-eqb, ne_eqb}
use lib.Bits.{bit_or}
use lib.Dec.{eqb}
use lib.ListN.{length, get_or, replicate, length-set, get_or-replicate, length-replicate}
use lib.Pow.{pow_pos}
use lib.Seq.{get_or-set_same, get_or-set_other}
use Rattle.std.specs.Prelude.{Option, Some, None, unwrap_or}
use Rattle.tag.proofs.TagLaws.{clash}
use Rattle.airline_list.specs.declared.End.{End}
use Rattle.airline_list.specs.Lists.{Entry, entry, named, end_for}
use Rattle.airline_list.specs.Read.{codes, has_bit, with_bit, end_named, Kept}
use Rattle.airline_list.proofs.Laws.BitLaws.{bit-set, bit_kept}

-- ---- The end of a code is the end named for it.
pub named-end : (wanted : ℕ) (es : List Entry) (others : End)
    → unwrap_or (end_named wanted es) others ≡ end_for wanted es others
unfolding end_for
named-end wanted [] others = refl
named-end wanted (e ∷ es) others = go (eqb wanted e.code) (named-end wanted es others)
  where
    go : (b : Bool) → unwrap_or (end_named wanted es) others ≡ end_for wanted es others
        → unwrap_or (cond b (Some e.end) (end_named wanted es)) others ≡ cond b e.end (end_for wanted es others)
    go true r = refl
    go false r = r

-- ---- A further airline changes the end of its own code alone.
other-end : (wanted new : ℕ) (end : End) (es : List Entry) → (wanted ≡ new → ⊥)
    → end_named wanted (es ++ (entry new end ∷ [])) ≡ end_named wanted es
other-end wanted new end [] h = rw (ne_eqb wanted new h)
other-end wanted new end (e ∷ es) h = rw (other-end wanted new end es h)

new-end : (code : ℕ) (end : End) (es : List Entry) → named code es ≡ false
    → end_named code (es ++ (entry code end ∷ [])) ≡ Some end
unfolding named
new-end code end [] h = rw (eq-eqb code code refl)
new-end code end (e ∷ es) h = go (eqb code e.code) refl (new-end code end es)
  where
    go : (b : Bool) → eqb code e.code ≡ b
        → (named code es ≡ false → end_named code (es ++ (entry code end ∷ [])) ≡ Some end)
        → end_named code (e ∷ es ++ (entry code end ∷ [])) ≡ Some end
    go true f r = let z : true ≡ false = rw f at h in clash (cc)
    go false f r = rw f (r (rw f at h))

-- ---- It sets the bit of its own code alone.
other-named : (code new : ℕ) (end : End) (es : List Entry) → (code ≡ new → ⊥)
    → named code (es ++ (entry new end ∷ [])) ≡ named code es
unfolding named
other-named code new end [] h = rw (ne_eqb code new h)
other-named code new end (e ∷ es) h = rw (other-named code new end es h)

new-named : (code : ℕ) (end : End) (es : List Entry) → named code (es ++ (entry code end ∷ [])) ≡ true
unfolding named
new-named code end [] = rw (eq-eqb code code refl)
new-named code end (e ∷ es) = go (eqb code e.code) (new-named code end es)
  where
    go : (b : Bool) → named code (es ++ (entry code end ∷ [])) ≡ true
        → (b || named code (es ++ (entry code end ∷ []))) ≡ true
    go true r = refl
    go false r = r

module _ (seen : List ℕ) (size : length seen ≡ 16) (new : ℕ) (small : new < codes) where
  inside : new / 64 < length seen
  inside = omega arith

  word_set : get_or (with_bit seen new) (new / 64) 0 ≡ bit_or (get_or seen (new / 64) 0) (2 ^ (new % 64))
  word_set = get_or-set_same seen (new / 64) (bit_or (get_or seen (new / 64) 0) (2 ^ (new % 64))) 0 inside

  new-bit : has_bit (with_bit seen new) new ≡ true
  new-bit = rw (word_set, bit-set (get_or seen (new / 64) 0) (new % 64))

  other-bit : (code : ℕ) → (code ≡ new → ⊥) → has_bit (with_bit seen new) code ≡ has_bit seen code
  other-bit code n = go (ℕ_discrete (code / 64) (new / 64))
    where
      go : Dec (code / 64 ≡ new / 64) → has_bit (with_bit seen new) code ≡ has_bit seen code
      go (yes e) =
          let apart : code % 64 ≡ new % 64 → ⊥ = λ f. n (omega arith) in
          rw (e, word_set, bit_kept (get_or seen (new / 64) 0) (new % 64) (code % 64) apart)
      go (no f) =
          ap (λ w. eqb (w / 2 ^ (code % 64) % 2) 1)
          (get_or-set_other seen (new / 64) (code / 64) (bit_or (get_or seen (new / 64) 0) (2 ^ (new % 64))) 0 f)

-- ---- Both, after one airline more.

-- What is kept of the end after an airline's line: its own for the wanted code, else what was kept before.
abbrev pub Ends : (wanted code : ℕ) (its : End) (before after : Option End) → Type 0
Ends wanted code its before after =
    ((code ≡ wanted) × (after ≡ Some its)) ⊎ ((code ≡ wanted → ⊥) × (after ≡ before))

pub kept_more : {wanted : ℕ} {seen : List ℕ} {before after : Option End} {es : List Entry}
    → Kept wanted seen before es → (code : ℕ) (its : End) → code < codes → named code es ≡ false
    → Ends wanted code its before after
    → Kept wanted (with_bit seen code) after (es ++ (entry code its ∷ []))
kept_more {wanted} {seen} {before} {after} {es} K code its small fresh E =
    record {
      size = length-set seen (code / 64) (bit_or (get_or seen (code / 64) 0) (2 ^ (code % 64))) ∙ K.size;
      bits = λ c h. bits-more c h (ℕ_discrete c code);
      ends = end-more E;
    }
  where
    bits-more : (c : ℕ) → c < codes → Dec (c ≡ code)
        → has_bit (with_bit seen code) c ≡ named c (es ++ (entry code its ∷ []))
    bits-more c h (yes e) = rw e (new-bit seen K.size code small ∙ sym (new-named code its es))
    bits-more c h (no n) = other-bit seen K.size code small c n ∙ K.bits c h ∙ sym (other-named c code its es n)

    end-more : Ends wanted code its before after → after ≡ end_named wanted (es ++ (entry code its ∷ []))
    end-more (inl w) = w.1 ∙ sym (new-end code its es fresh) ∙ ap (λ c. end_named c (es ++ (entry code its ∷ []))) w.0
    end-more (inr w) = w.1 ∙ K.ends ∙ sym (other-end wanted code its es (λ e. w.0 (sym e)))

-- ---- At first there are none.
pub none_kept : (wanted : ℕ) → Kept wanted (replicate 16 0) None []
unfolding named
none_kept wanted = record { size = length-replicate {A = ℕ} 16 0; bits = no-bit; ends = refl }
  where
    no-bit : (code : ℕ) → code < codes → has_bit (replicate 16 0) code ≡ false
    no-bit code h =
        rw (get_or-replicate {A = ℕ} 16 (code / 64) 0 0 (omega arith), div-eq_of_lt (pow_pos (code % 64)))
