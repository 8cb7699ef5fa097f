-- Steps and their numbers, and which steps belong to which operation.
use mathlib.Core.Path.{◌≡◌, refl, ap, sym, ◌∙◌}
use mathlib.Core.Logic.{inl, inr}
use mathlib.Core.Bool.{Bool, true, false}
use mathlib.Core.List.{List, [], ◌∷◌}
use Prim.Native.Nat.{ℕ}
use lib.Dec.{eqb}
use native.Mathlib.Decide.{ℕ_discrete}
use borrow.Author.Tests.{eqb-true}
use Rattle.machine.specs.Operations.{Operation, idle, push, pop, add, remove}
use Rattle.machine.specs.Steps.{Step, rest, step_number, step_in, steps_of, step_of, is_step_in}
use Rattle.machine.specs.Steps as Steps
use Rattle.machine.proofs.Basics.Tests.{or-either}
use Rattle.machine.proofs.Basics.Contradiction.{clash}

-- ---- Steps and numbers.
pub step-of-number : (st : Step) → step_of (step_number st) ≡ st
unfolding step_of step_in ℕ_discrete
step-of-number rest = refl
step-of-number Steps.line2 = refl
step-of-number Steps.line3 = refl
step-of-number Steps.line5 = refl
step-of-number Steps.line8 = refl
step-of-number Steps.line15 = refl
step-of-number Steps.line17 = refl
step-of-number Steps.line18 = refl
step-of-number Steps.line24 = refl
step-of-number Steps.line25 = refl
step-of-number Steps.line28 = refl
step-of-number Steps.line31 = refl
step-of-number Steps.line39 = refl
step-of-number Steps.line40 = refl
step-of-number Steps.line42 = refl
step-of-number Steps.line48 = refl
step-of-number Steps.line51 = refl
step-of-number Steps.line54 = refl
step-of-number Steps.line56 = refl
step-of-number Steps.line58 = refl
step-of-number Steps.line60 = refl
step-of-number Steps.line62 = refl
step-of-number Steps.line64 = refl
step-of-number Steps.line67 = refl
step-of-number Steps.line68 = refl
step-of-number Steps.line69 = refl
step-of-number Steps.line70 = refl
step-of-number Steps.line72 = refl
step-of-number Steps.line74 = refl
step-of-number Steps.line77 = refl
step-of-number Steps.line78 = refl
step-of-number Steps.line79 = refl
step-of-number Steps.line81 = refl
step-of-number Steps.line82 = refl

-- A number that passes the test of a list of steps is the number of a step.
step-with-number : (sts : List Step) (n : ℕ) → is_step_in sts n ≡ true → (st : Step) × (n ≡ step_number st)
unfolding is_step_in
step-with-number [] n h = clash (cc)
step-with-number (st ∷ sts) n h =
    elim (or-either (eqb n (step_number st)) (is_step_in sts n) h) [
      | inl e ↦ (st, eqb-true n (step_number st) e)
      | inr e ↦ step-with-number sts n e
    ]

pub number-of-step : (sts : List Step) (n : ℕ) → is_step_in sts n ≡ true → step_number (step_of n) ≡ n
number-of-step sts n h =
    let found = step-with-number sts n h in
    ap (λ k. step_number (step_of k)) found.1 ∙ ap step_number (step-of-number found.0) ∙ sym found.1

-- ---- The parts of the figure: the steps that belong to the same operations.
pub data Part : Type 0 where
  resting pushing growing popping removing : Part

abbrev pub part_of : Step → Part
part_of rest = resting
part_of Steps.line2 = pushing
part_of Steps.line3 = pushing
part_of Steps.line5 = pushing
part_of Steps.line8 = pushing
part_of Steps.line15 = growing
part_of Steps.line17 = growing
part_of Steps.line18 = growing
part_of Steps.line24 = growing
part_of Steps.line25 = growing
part_of Steps.line28 = growing
part_of Steps.line31 = growing
part_of Steps.line39 = popping
part_of Steps.line40 = popping
part_of Steps.line42 = popping
part_of Steps.line48 = popping
part_of Steps.line51 = popping
part_of Steps.line54 = removing
part_of Steps.line56 = removing
part_of Steps.line58 = removing
part_of Steps.line60 = removing
part_of Steps.line62 = removing
part_of Steps.line64 = removing
part_of Steps.line67 = growing
part_of Steps.line68 = growing
part_of Steps.line69 = growing
part_of Steps.line70 = growing
part_of Steps.line72 = growing
part_of Steps.line74 = removing
part_of Steps.line77 = removing
part_of Steps.line78 = removing
part_of Steps.line79 = removing
part_of Steps.line81 = removing
part_of Steps.line82 = removing

-- A push that meets the end of the lane adds nodes, by the steps of an add.
abbrev pub has_part : Operation → Part → Bool
has_part idle resting = true
has_part idle pushing = false
has_part idle growing = false
has_part idle popping = false
has_part idle removing = false
has_part push resting = false
has_part push pushing = true
has_part push growing = true
has_part push popping = false
has_part push removing = false
has_part pop resting = false
has_part pop pushing = false
has_part pop growing = false
has_part pop popping = true
has_part pop removing = false
has_part add resting = false
has_part add pushing = false
has_part add growing = true
has_part add popping = false
has_part add removing = false
has_part remove resting = false
has_part remove pushing = false
has_part remove growing = false
has_part remove popping = false
has_part remove removing = true

every-operation :
    (P : Operation → Type 0) → P idle → P push → P pop → P add → P remove → (op : Operation) → P op
every-operation P a b c d e idle = a
every-operation P a b c d e push = b
every-operation P a b c d e pop = c
every-operation P a b c d e add = d
every-operation P a b c d e remove = e

pub step-in-part :
    (st : Step) (op : Operation) → is_step_in (steps_of op) (step_number st) ≡ has_part op (part_of st)
unfolding is_step_in
step-in-part rest = every-operation _ refl refl refl refl refl
step-in-part Steps.line2 = every-operation _ refl refl refl refl refl
step-in-part Steps.line3 = every-operation _ refl refl refl refl refl
step-in-part Steps.line5 = every-operation _ refl refl refl refl refl
step-in-part Steps.line8 = every-operation _ refl refl refl refl refl
step-in-part Steps.line15 = every-operation _ refl refl refl refl refl
step-in-part Steps.line17 = every-operation _ refl refl refl refl refl
step-in-part Steps.line18 = every-operation _ refl refl refl refl refl
step-in-part Steps.line24 = every-operation _ refl refl refl refl refl
step-in-part Steps.line25 = every-operation _ refl refl refl refl refl
step-in-part Steps.line28 = every-operation _ refl refl refl refl refl
step-in-part Steps.line31 = every-operation _ refl refl refl refl refl
step-in-part Steps.line39 = every-operation _ refl refl refl refl refl
step-in-part Steps.line40 = every-operation _ refl refl refl refl refl
step-in-part Steps.line42 = every-operation _ refl refl refl refl refl
step-in-part Steps.line48 = every-operation _ refl refl refl refl refl
step-in-part Steps.line51 = every-operation _ refl refl refl refl refl
step-in-part Steps.line54 = every-operation _ refl refl refl refl refl
step-in-part Steps.line56 = every-operation _ refl refl refl refl refl
step-in-part Steps.line58 = every-operation _ refl refl refl refl refl
step-in-part Steps.line60 = every-operation _ refl refl refl refl refl
step-in-part Steps.line62 = every-operation _ refl refl refl refl refl
step-in-part Steps.line64 = every-operation _ refl refl refl refl refl
step-in-part Steps.line67 = every-operation _ refl refl refl refl refl
step-in-part Steps.line68 = every-operation _ refl refl refl refl refl
step-in-part Steps.line69 = every-operation _ refl refl refl refl refl
step-in-part Steps.line70 = every-operation _ refl refl refl refl refl
step-in-part Steps.line72 = every-operation _ refl refl refl refl refl
step-in-part Steps.line74 = every-operation _ refl refl refl refl refl
step-in-part Steps.line77 = every-operation _ refl refl refl refl refl
step-in-part Steps.line78 = every-operation _ refl refl refl refl refl
step-in-part Steps.line79 = every-operation _ refl refl refl refl refl
step-in-part Steps.line81 = every-operation _ refl refl refl refl refl
step-in-part Steps.line82 = every-operation _ refl refl refl refl refl
