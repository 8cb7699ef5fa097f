-- The record of a task and its words: each gives back the other.
use mathlib.Core.Path.{◌≡◌, refl, ap, sym, ◌∙◌}
use mathlib.Core.Logic.{inl, inr}
use mathlib.Core.Bool.{Bool, true, false, cond, ◌||◌}
use mathlib.Core.List.{List, [], ◌∷◌, ◌++◌}
use Prim.Native.Nat.{ℕ, ◌≤◌}
use lib.Dec.{leb, eqb}
use native.Mathlib.Omega.{arith}
use native.Mathlib.Decide.{ℕ_discrete}
use borrow.Author.Tests.{leb-true}
use Rattle.text.proofs.Laws.SameTexts.{same-equal, same-itself}
use Rattle.machine.specs.declared.Stored.{Stored}
use Rattle.machine.specs.Choice.{◌≟◌, if?◌then◌else◌}
use Rattle.machine.specs.Sides.{Side, left, right, opposite, side_number, side_of}
use Rattle.machine.specs.Values.{N, X, encode, stored_words, same_stored, bag_ok, value_ok}
use Rattle.machine.specs.Operations.{
  Operation,
  idle,
  push,
  pop,
  add,
  remove,
  operation_number,
  operation_of,
  argument_ok,
}
use Rattle.machine.specs.Steps.{steps_of, is_step_in}
use Rattle.machine.specs.Tasks.{
  Task,
  fresh,
  in_a,
  in_b,
  in_c,
  in_d,
  words_of,
  operation_word,
  step_word,
  side_word,
  argument_words,
  counted_word,
  value_read_words,
  register_word,
  lane_word,
  task_of,
}
use Rattle.machine.specs.Shape.{same_words, value_read_ok, busy_ok, record_ok}
use Rattle.machine.proofs.Basics.Tests.{and_left, and_right, or-either}
use Rattle.machine.proofs.Words.ValueLaws.{
  HasWord,
  N-mark,
  X-mark,
  never-has-word,
  same-stored,
  number-stored,
  argument-stored,
  encode-decode,
  bag-value-ok,
  mark-value-ok,
}
use Rattle.machine.proofs.Words.StepLaws.{step-of-number, number-of-step}

-- ---- Operations and sides.
pub operation-of-number : (op : Operation) → operation_of (operation_number op) ≡ op
unfolding ℕ_discrete
operation-of-number idle = refl
operation-of-number push = refl
operation-of-number pop = refl
operation-of-number add = refl
operation-of-number remove = refl

pub number-of-operation : (n : ℕ) → n ≤ 4 → operation_number (operation_of n) ≡ n
number-of-operation n h = go (n ≟ 0) (n ≟ 1) (n ≟ 2) (n ≟ 3)
  where
    go :
        (a : Dec (n ≡ 0)) (b : Dec (n ≡ 1)) (c : Dec (n ≡ 2)) (d : Dec (n ≡ 3))
        → operation_number (if? a then idle else if? b then push else if? c then pop else if? d then add else remove) ≡ n
    go (yes a) b c d = sym a
    go (no a) (yes b) c d = sym b
    go (no a) (no b) (yes c) d = sym c
    go (no a) (no b) (no c) (yes d) = sym d
    go (no a) (no b) (no c) (no d) = omega arith

pub side-of-number : (s : Side) → side_of (side_number s) ≡ s
unfolding ℕ_discrete
side-of-number left = refl
side-of-number right = refl

pub number-of-side : (n : ℕ) → n ≤ 1 → side_number (side_of n) ≡ n
number-of-side n h = go (n ≟ 0)
  where
    go : (d : Dec (n ≡ 0)) → side_number (if? d then left else right) ≡ n
    go (yes d) = sym d
    go (no d) = omega arith

-- ---- From a record to its words and back.
task-equal :
    {t u : Task}
    → t.operation ≡ u.operation
    → t.step ≡ u.step
    → t.side ≡ u.side
    → t.argument ≡ u.argument
    → t.counted ≡ u.counted
    → t.value ≡ u.value
    → t.A ≡ u.A
    → t.B ≡ u.B
    → t.C ≡ u.C
    → t.D ≡ u.D
    → t.lane ≡ u.lane
    → t ≡ u
task-equal o st s n c v a b g d l =
    λ i. record {
      operation = o i;
      step = st i;
      side = s i;
      argument = n i;
      counted = c i;
      value = v i;
      A = a i;
      B = b i;
      C = g i;
      D = d i;
      lane = l i;
    }

pub task-of-words : (t : Task) → HasWord t.value → task_of (words_of t) ≡ t
task-of-words t h =
    task-equal (operation-of-number t.operation) (step-of-number t.step) (side-of-number t.side)
    (number-stored t.argument) refl h refl refl refl refl refl

pub fresh-of-words : task_of (words_of fresh) ≡ fresh
fresh-of-words = task-of-words fresh never-has-word

-- ---- From words that pass the test to a record and back.
pub same-words : (xs ys : List ℕ) → same_words xs ys ≡ true → xs ≡ ys
unfolding same_words
same-words = same-equal

pub same-words-refl : (l : List ℕ) → same_words l l ≡ true
unfolding same_words
same-words-refl = same-itself

-- What is read at any step is as V may be.
pub read-value-ok : (s : Side) (step : ℕ) (u : Stored) → value_read_ok s step u ≡ true → value_ok u ≡ true
read-value-ok s step u = go (eqb step 51) (eqb step 48)
  where
    a : Bool
    a = same_stored u (encode (N (opposite s)))

    b : Bool
    b = same_stored u (encode (X (opposite s)))

    go : (at51 at48 : Bool) → cond at51 (bag_ok u) (cond at48 (a || b) (value_ok u)) ≡ true → value_ok u ≡ true
    go true at48 h = bag-value-ok u h
    go false true h =
        elim (or-either a b h) [
          | inl e ↦ rw (same-stored {w = encode (N (opposite s))} e) (mark-value-ok {s = opposite s} N-mark)
          | inr e ↦ rw (same-stored {w = encode (X (opposite s))} e) (mark-value-ok {s = opposite s} X-mark)
        ]
    go false false h = h

-- The words as they are read, by their names.
abbrev words_read : List ℕ → List ℕ
words_read r =
    operation_word r
    ∷ step_word r
    ∷ side_word r
    ∷ (stored_words (argument_words r)
    ++ (counted_word r
    ∷ (stored_words (value_read_words r)
    ++ (register_word r in_a ∷ register_word r in_b ∷ register_word r in_c ∷ register_word r in_d ∷ lane_word r ∷ []))))

module _ (S g L : ℕ) (r : List ℕ) where
  words-of-busy : busy_ok S g L r ≡ true → words_of (task_of r) ≡ words_read r
  unfolding busy_ok
  words-of-busy h =
      let o = operation_word r in
      let st = step_word r in
      let s = side_word r in
      let v = value_read_words r in
      let o-ok : leb o 4 ≡ true = search (and_left, and_right) depth 10 in
      let st-ok : is_step_in (steps_of (operation_of o)) st ≡ true = search (and_left, and_right) depth 10 in
      let s-ok : leb s 1 ≡ true = search (and_left, and_right) depth 10 in
      let v-ok : value_read_ok (side_of s) st v ≡ true = search (and_left, and_right) depth 10 in
      let u-ok : argument_ok (operation_of o) (argument_words r) ≡ true = search (and_left, and_right) depth 10 in
      λ i. number-of-operation o (leb-true o 4 o-ok) i
      ∷ number-of-step (steps_of (operation_of o)) st st-ok i
      ∷ number-of-side s (leb-true s 1 s-ok) i
      ∷ (stored_words (argument-stored (operation_of o) (argument_words r) u-ok i)
      ++ (counted_word r
      ∷ (stored_words (encode-decode v (read-value-ok (side_of s) st v v-ok) i)
      ++ (register_word r in_a ∷ register_word r in_b ∷ register_word r in_c ∷ register_word r in_d ∷ lane_word r ∷ []))))

  pub words-of-task : record_ok S g L r ≡ true → words_of (task_of r) ≡ words_read r
  unfolding record_ok
  words-of-task = go (eqb (operation_word r) 0)
    where
      go : (t : Bool) → cond t (same_words r (words_of fresh)) (busy_ok S g L r) ≡ true → words_of (task_of r) ≡ words_read r
      go true h =
          let e = same-words r (words_of fresh) h in
          ap (λ l. words_of (task_of l)) e ∙ ap words_of fresh-of-words ∙ ap words_read (sym e)
      go false h = words-of-busy h

  -- The words as they are read pass too.
  pub read-passes : record_ok S g L r ≡ true → record_ok S g L (words_read r) ≡ true
  unfolding record_ok busy_ok same_words
  read-passes = go (eqb (operation_word r) 0)
    where
      go :
          (t : Bool)
          → cond t (same_words r (words_of fresh)) (busy_ok S g L r) ≡ true
          → cond t (same_words (words_read r) (words_of fresh)) (busy_ok S g L (words_read r)) ≡ true
      go true h = rw (same-words r (words_of fresh) h) refl
      go false h = h
