-- A record's words, in its struct and as a lent part of the table, and the test that they are fresh.
use mathlib.Core.Path.{◌≡◌, refl, sym, ap, ◌∙◌, subst}
use mathlib.Core.Bool.{Bool, ◌&&◌, and-true, and_assoc}
use mathlib.Core.List.{List, [], ◌∷◌}
use Prim.Native.Nat.{ℕ, zero, suc, ◌+◌}
use native.Mathlib.Omega.{arith}
use lib.Dec.{eqb}
use lib.ListN.{length, get_or, set, drop, drop_of_length-le}
use lib.Seq.{drop-cons}
use Rattle.machine.specs.Tasks.{fresh, no_node, record_length, words_of}
use Rattle.machine.specs.Shape.{same_words}
use Rattle.table_record.specs.Coded.{struct_of, record_of, SameCall}
use Rattle.table_record.specs.declared.Task as Tasks

-- ---- The struct of a record's words has those words.

-- n words of a list from place i on, read one by one.
listed : (n i : ℕ) → List ℕ → List ℕ
listed zero i r = []
listed (suc n) i r = get_or r i 0 ∷ listed n (suc i) r

listed-all : (n i : ℕ) (r : List ℕ) → length r ≡ i + n → listed n i r ≡ drop i r
unfolding listed
listed-all zero i r h = sym (drop_of_length-le r {i = i} (omega arith))
listed-all (suc n) i r h =
    ap (◌∷◌ (get_or r i 0)) (listed-all n (suc i) r (omega arith)) ∙ sym (drop-cons r i 0 (omega arith))

pub words-of-struct : (r : List ℕ) → length r ≡ record_length → record_of (struct_of r) ≡ r
unfolding listed
words-of-struct r h = listed-all record_length 0 r (h ∙ omega arith)

-- ---- The words of a call, and those that change as it goes on, each written in its place.
module _ (r : List ℕ) (long : length r ≡ record_length) (t : Tasks.Task) where
  -- A record's words with the call of t, and with what else t says.
  abbrev called : List ℕ → List ℕ
  called l =
      set (set (set (set (set l 0 t.operation) 2 t.side) 3 t.argument.word)
      4 t.argument.digit) 12 t.lane

  abbrev furthered : List ℕ → List ℕ
  furthered l =
      set (set (set (set (set (set (set (set l 1 t.step) 5 t.counted) 6 t.value.word) 7 t.value.digit)
      8 (get_or t.registers 0 0)) 9 (get_or t.registers 1 0))
      10 (get_or t.registers 2 0)) 11 (get_or t.registers 3 0)

  pub call-written : SameCall (struct_of (called r)) t
  call-written =
      subst (λ (l : List ℕ). SameCall (struct_of (called l)) t) (words-of-struct r long) (refl, refl, refl, refl)

  pub further-written : SameCall (struct_of r) t → furthered r ≡ record_of t
  further-written same =
      ap furthered (sym (words-of-struct r long))
      ∙ (λ i.
      record_of
      (record {
        operation = same.0 i;
        step = t.step;
        side = same.1 i;
        argument = same.2 i;
        counted = t.counted;
        value = t.value;
        registers = t.registers;
        lane = same.3 i;
      }))

-- ---- A fresh record.

-- The test of each word, in order.
abbrev is_fresh : Tasks.Task → Bool
is_fresh t =
    eqb t.operation 0
    && eqb t.step 0
    && eqb t.side 0
    && eqb t.argument.word 0
    && eqb t.argument.digit 0
    && eqb t.counted 0
    && eqb t.value.word 0
    && eqb t.value.digit 0
    && (eqb (get_or t.registers 0 0) no_node && eqb (get_or t.registers 1 0) no_node)
    && (eqb (get_or t.registers 2 0) no_node && eqb (get_or t.registers 3 0) no_node)
    && eqb t.lane 0

pub fresh-words : (t : Tasks.Task) → is_fresh t ≡ same_words (record_of t) (words_of fresh)
unfolding same_words
fresh-words t = simp (and_assoc, and-true)
