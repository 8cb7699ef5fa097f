-- What the test of a record says of a task that is in a call, and back.
use mathlib.Core.Path.{◌≡◌, refl, ap, sym, ◌∙◌, subst}
use mathlib.Core.Logic.{◌≢◌, inl, inr}
use mathlib.Core.Bool.{Bool, true, false, cond}
use mathlib.Core.List.{[], ◌∷◌}
use Prim.Native.Nat.{ℕ, ◌≤◌, ◌<◌}
use lib.Dec.{leb, ltb, eqb}
use native.Mathlib.Omega.{arith}
use borrow.Author.Tests.{leb-true, ltb-true, eqb-true, lt-ltb, eq-eqb}
use Rattle.machine.specs.declared.Stored.{Stored}
use Rattle.machine.specs.Choice.{◌≟◌}
use Rattle.machine.specs.Sides.{Side, left, right, side_number}
use Rattle.machine.specs.Values.{bag, stored, number, encode, bag_ok, value_ok}
use Rattle.machine.specs.Operations.{
  Operation,
  idle,
  push,
  pop,
  add,
  remove,
  operation_number,
  argument_ok,
}
use Rattle.machine.specs.Steps.{Step, line31, line51, line56, line58, step_number, steps_of, is_step_in}
use Rattle.machine.specs.Tasks.{Task, no_node, fresh, words_of, goal}
use Rattle.machine.specs.Shape.{
  same_words,
  node_or_none,
  value_read_ok,
  counted_ok,
  busy_ok,
  record_ok,
}
use Rattle.machine.specs.Calls.{is_busy}
use Rattle.machine.proofs.Basics.Tests.{and_left, and_right, or-either, or_left, or_right}
use Rattle.machine.proofs.Words.ValueLaws.{HasWord, number-stored, stored-number, bag-decoded}
use Rattle.machine.proofs.Words.RecordLaws.{
  operation-of-number,
  side-of-number,
  same-words,
  read-value-ok,
}
use Rattle.machine.proofs.Basics.Contradiction.{refute}

-- ---- A node or none.
abbrev pub NodeOrNone : (S x : ℕ) → Type 0
NodeOrNone S x = x ≢ no_node → x < S

pub node-or-none : (S x : ℕ) → node_or_none S x ≡ true → NodeOrNone S x
node-or-none S x h n =
    elim (or-either (ltb x S) (eqb x no_node) h) [ inl e ↦ ltb-true x S e | inr e ↦ absurd (n (eqb-true x no_node e)) ]

pub node-or-none-ok : (S x : ℕ) → NodeOrNone S x → node_or_none S x ≡ true
node-or-none-ok S x h =
    elim (x ≟ no_node) [
      | yes e ↦ or_right (ltb x S) (eqb x no_node) (eq-eqb x no_node e)
      | no n ↦ or_left (ltb x S) (eqb x no_node) (lt-ltb x S (h n))
    ]

-- ---- A task in a call, at a step.
pub record BusyAt (S growth lanes : ℕ) (st : Step) (t : Task) : Type 0 where
  pub busy : is_busy t.operation ≡ true
  pub step_ok : is_step_in (steps_of t.operation) (step_number st) ≡ true
  pub argument-ok : argument_ok t.operation (stored t.argument) ≡ true
  pub counted-ok : counted_ok (step_number st) (goal growth t) t.counted ≡ true
  pub value-ok : value_read_ok t.side (step_number st) (encode t.value) ≡ true
  pub has_word : HasWord t.value
  pub A-ok : NodeOrNone S t.A
  pub B-ok : NodeOrNone S t.B
  pub C-ok : NodeOrNone S t.C
  pub D-ok : NodeOrNone S t.D
  pub lane-ok : t.lane < lanes

-- The facts of a busy record.
abbrev pub BusyFacts : (S growth lanes : ℕ) → Task → Type 0
BusyFacts S g L t = BusyAt S g L t.step t

busy-number : (op : Operation) → is_busy op ≡ true → eqb (operation_number op) 0 ≡ false
busy-number idle h = sym h
busy-number push h = refl
busy-number pop h = refl
busy-number add h = refl
busy-number remove h = refl

number-at-most : (op : Operation) → leb (operation_number op) 4 ≡ true
number-at-most idle = refl
number-at-most push = refl
number-at-most pop = refl
number-at-most add = refl
number-at-most remove = refl

side-at-most : (s : Side) → leb (side_number s) 1 ≡ true
side-at-most left = refl
side-at-most right = refl

pub record-of-fresh : (S g L : ℕ) → record_ok S g L (words_of fresh) ≡ true
unfolding record_ok same_words
record-of-fresh S g L = refl

module _ (S g L : ℕ) (t : Task) where
  pub record-of-busy : BusyFacts S g L t → record_ok S g L (words_of t) ≡ true
  unfolding record_ok busy_ok
  record-of-busy F =
      rw (
        busy-number t.operation F.busy,
        number-at-most t.operation,
        side-at-most t.side,
        operation-of-number t.operation,
        side-of-number t.side,
        F.step_ok,
        F.argument-ok,
        number-stored t.argument,
        F.counted-ok,
        F.value-ok,
        node-or-none-ok S t.A F.A-ok,
        node-or-none-ok S t.B F.B-ok,
        node-or-none-ok S t.C F.C-ok,
        node-or-none-ok S t.D F.D-ok,
        lt-ltb t.lane L F.lane-ok,
      )

  busy-test : record_ok S g L (words_of t) ≡ true → is_busy t.operation ≡ true → busy_ok S g L (words_of t) ≡ true
  unfolding record_ok
  busy-test h b = rw (busy-number t.operation b) at h

  pub busy-of-record :
      HasWord t.value → record_ok S g L (words_of t) ≡ true → is_busy t.operation ≡ true → BusyFacts S g L t
  unfolding busy_ok
  busy-of-record w h b =
      let test =
      rw (operation-of-number t.operation, side-of-number t.side, number-stored t.argument)
      at (busy-test h b)
      in
      let A-test : node_or_none S t.A ≡ true = search (and_left, and_right) depth 10 in
      let B-test : node_or_none S t.B ≡ true = search (and_left, and_right) depth 10 in
      let C-test : node_or_none S t.C ≡ true = search (and_left, and_right) depth 10 in
      let D-test : node_or_none S t.D ≡ true = search (and_left, and_right) depth 10 in
      let lane_test : ltb t.lane L ≡ true = search (and_left, and_right) depth 10 in
      record {
        busy = b;
        step_ok = search (and_left, and_right) depth 10;
        argument-ok = search (and_left, and_right) depth 10;
        counted-ok = search (and_left, and_right) depth 10;
        value-ok = search (and_left, and_right) depth 10;
        has_word = w;
        A-ok = node-or-none S t.A A-test;
        B-ok = node-or-none S t.B B-test;
        C-ok = node-or-none S t.C C-test;
        D-ok = node-or-none S t.D D-test;
        lane-ok = ltb-true t.lane L lane_test;
      }

-- An idle record is fresh.
pub idle-of-record :
    (S g L : ℕ) (t : Task) → record_ok S g L (words_of t) ≡ true → t.operation ≡ idle → words_of t ≡ words_of fresh
unfolding record_ok
idle-of-record S g L t h e =
    let number : eqb (operation_number t.operation) 0 ≡ true = ap (λ op. eqb (operation_number op) 0) e in
    same-words (words_of t) (words_of fresh) (rw number at h)

-- ---- What the facts say at a step.
module _ {S g L : ℕ} {st : Step} {t : Task} where
  pub not-idle : BusyAt S g L st t → t.operation ≢ idle
  not-idle F e = let b = F.busy in refute (cc)

  -- At every step the value read is as V may be, and counted is at most the goal.
  pub value-read-ok : BusyAt S g L st t → value_ok (encode t.value) ≡ true
  value-read-ok F = read-value-ok t.side (step_number st) (encode t.value) F.value-ok

  pub counted-at-most : BusyAt S g L st t → t.counted ≤ goal g t
  counted-at-most F =
      go (eqb (step_number st) 54) (is_step_in (line31 ∷ line56 ∷ line58 ∷ []) (step_number st)) F.counted-ok
    where
      n : ℕ
      n = t.counted

      m : ℕ
      m = goal g t

      go : (first counts : Bool) → cond first (eqb n 0) (cond counts (ltb n m) (leb n m)) ≡ true → n ≤ m
      go true counts h = let e = eqb-true n 0 h in omega arith
      go false true h = let l = ltb-true n m h in omega arith
      go false false h = leb-true n m h

module _ {S g L : ℕ} {t : Task} where
  -- At 51 a bag was read.
  pub bag_at_51 : BusyAt S g L line51 t → (b : ℕ) × (t.value ≡ bag b) × (bag_ok (stored b) ≡ true)
  bag_at_51 F =
      let u = encode t.value in (
        number u,
        sym F.has_word ∙ bag-decoded u F.value-ok,
        subst (λ (v : Stored). bag_ok v ≡ true) (sym (stored-number u F.value-ok)) F.value-ok,
      )
