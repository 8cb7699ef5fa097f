-- Where a task may go from a line, and the facts of its record there.
use mathlib.Core.Path.{◌≡◌, sym, ◌∙◌}
use mathlib.Core.Bool.{Bool, true, not, ◌&&◌}
use mathlib.Core.List.{[], ◌∷◌}
use Prim.Native.Nat.{ℕ, ◌≤◌}
use lib.Dec.{eqb}
use borrow.Author.Tests.{le-leb, not-true}
use Rattle.machine.specs.declared.Stored.{Stored}
use Rattle.machine.specs.Sides.{Side}
use Rattle.machine.specs.Values.{Value, encode, value_ok}
use Rattle.machine.specs.Operations.{Operation}
use Rattle.machine.specs.Steps.{Step, line31, line48, line51, line54, line56, line58, step_number, is_step_in}
use Rattle.machine.specs.Tasks.{Task, goal, further, goto, with_registers, with_a, with_b, with_c, with_value}
use Rattle.machine.specs.Shape.{value_read_ok, counted_ok}
use Rattle.machine.proofs.Basics.Tests.{and_left, and_right}
use Rattle.machine.proofs.Words.ValueLaws.{HasWord}
use Rattle.machine.proofs.Words.StepLaws.{part_of, has_part, step-in-part}
use Rattle.machine.proofs.Shape.BusyLaws.{NodeOrNone, BusyAt, BusyFacts, value-read-ok, counted-at-most}
use Rattle.machine.proofs.Shape.Fits.{ValueFits}

-- ---- Steps to which a task may go.

-- A step that has no test of its own for counted or for the value read.
abbrev pub ordinary : Step → Bool
ordinary st =
    not (eqb (step_number st) (step_number line48))
    && not (eqb (step_number st) (step_number line51))
    && not (eqb (step_number st) (step_number line54))
    && not (is_step_in (line31 ∷ line56 ∷ line58 ∷ []) (step_number st))

ordinary-value :
    (st : Step) → ordinary st ≡ true → (s : Side) (u : Stored)
    → value_ok u ≡ true
    → value_read_ok s (step_number st) u ≡ true
ordinary-value st h s u v =
    let n = step_number st in
    let a : not (eqb n 48) ≡ true = search (and_left, and_right) in
    let b : not (eqb n 51) ≡ true = search (and_left, and_right) in
    rw (not-true (eqb n 51) b, not-true (eqb n 48) a) v

ordinary-counted :
    (st : Step) → ordinary st ≡ true → (goal n : ℕ) → n ≤ goal → counted_ok (step_number st) goal n ≡ true
ordinary-counted st h goal n l =
    let k = step_number st in
    let counts = is_step_in (line31 ∷ line56 ∷ line58 ∷ []) k in
    let a : not (eqb k 54) ≡ true = search (and_left, and_right) in
    let b : not counts ≡ true = search (and_left, and_right) in
    rw (not-true (eqb k 54) a, not-true counts b) (le-leb n goal l)

-- A task of the operation may go to the step, which is an ordinary one.
pub data Lands (op : Operation) (st : Step) : Type 0 where
  lands : has_part op (part_of st) ≡ true → ordinary st ≡ true → Lands op st

-- ---- The record after a line: t stood at st with the facts F.
module _ {S g L : ℕ} {st : Step} {t : Task} (F : BusyAt S g L st t) where
  pub part : has_part t.operation (part_of st) ≡ true
  part = sym (step-in-part st t.operation) ∙ F.step_ok

  -- At any step of the operation, with the tests of that step.
  pub busy-stands :
      (st' : Step) {n : ℕ} {v : Value} {a b c d : ℕ}
      → has_part t.operation (part_of st') ≡ true
      → counted_ok (step_number st') (goal g t) n ≡ true
      → value_read_ok t.side (step_number st') (encode v) ≡ true
      → HasWord v
      → NodeOrNone S a
      → NodeOrNone S b
      → NodeOrNone S c
      → NodeOrNone S d
      → BusyFacts S g L (further t st' n v a b c d)
  busy-stands st' p n-ok v-ok word a-ok b-ok c-ok d-ok =
      record {
        busy = F.busy;
        step_ok = step-in-part st' t.operation ∙ p;
        argument-ok = F.argument-ok;
        counted-ok = n-ok;
        value-ok = v-ok;
        has_word = word;
        A-ok = a-ok;
        B-ok = b-ok;
        C-ok = c-ok;
        D-ok = d-ok;
        lane-ok = F.lane-ok;
      }

  -- At an ordinary step: with one register changed, or none, or with another value read.
  module _ {st' : Step} where
    pub moves-registers :
        Lands t.operation st'
        → {a b c d : ℕ}
        → NodeOrNone S a
        → NodeOrNone S b
        → NodeOrNone S c
        → NodeOrNone S d
        → BusyFacts S g L (goto (with_registers t a b c d) st')
    moves-registers (lands p q) =
        busy-stands st' p (ordinary-counted st' q (goal g t) t.counted (counted-at-most F))
        (ordinary-value st' q t.side (encode t.value) (value-read-ok F)) F.has_word

    pub busy-moves : Lands t.operation st' → BusyFacts S g L (goto t st')
    busy-moves l = moves-registers l F.A-ok F.B-ok F.C-ok F.D-ok

    pub moves-A : Lands t.operation st' → {x : ℕ} → NodeOrNone S x → BusyFacts S g L (goto (with_a t x) st')
    moves-A l h = moves-registers l h F.B-ok F.C-ok F.D-ok

    pub moves-B : Lands t.operation st' → {x : ℕ} → NodeOrNone S x → BusyFacts S g L (goto (with_b t x) st')
    moves-B l h = moves-registers l F.A-ok h F.C-ok F.D-ok

    pub moves-C : Lands t.operation st' → {x : ℕ} → NodeOrNone S x → BusyFacts S g L (goto (with_c t x) st')
    moves-C l h = moves-registers l F.A-ok F.B-ok h F.D-ok

    pub moves-value : Lands t.operation st' → (v : Value) → ValueFits v → BusyFacts S g L (goto (with_value t v) st')
    moves-value (lands p q) v h =
        busy-stands st' p (ordinary-counted st' q (goal g t) t.counted (counted-at-most F))
        (ordinary-value st' q t.side (encode v) h.1) h.0 F.A-ok F.B-ok F.C-ok F.D-ok
