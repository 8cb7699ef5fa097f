-- Tests computed over all steps, and over all registers at each: what passes everywhere is true of each.
use mathlib.Core.Path.{◌≡◌, subst}
use mathlib.Core.Bool.{Bool, true, false, not, ◌&&◌, ◌||◌}
use mathlib.Core.List.{List, [], ◌∷◌, ◌++◌}
use Prim.Native.Nat.{ℕ}
use Rattle.machine.specs.Choice.{◌≟◌}
use Rattle.machine.specs.Steps.{
  Step,
  rest,
  step_number,
  step_in,
  push_steps,
  pop_steps,
  remove_steps,
  step_of,
}
use Rattle.machine.specs.Tasks.{Register, in_a, in_b, in_c, in_d}
use Rattle.machine.proofs.Basics.Contradiction.{clash}
use Rattle.machine.proofs.Basics.Choices.{by-if}
use Rattle.machine.proofs.Basics.Tests.{and_left, and_right}
use Rattle.machine.proofs.Words.StepLaws.{step-of-number}

abbrev every_step_in : List Step → (Step → Bool) → Bool
every_step_in [] p = true
every_step_in (st ∷ sts) p = p st && every_step_in sts p

abbrev pub every_register : (Register → Bool) → Bool
every_register p = p in_a && (p in_b && (p in_c && p in_d))

-- A test passes at every step, and for every register there.
abbrev every_step : (Step → Bool) → Bool
every_step p = every_step_in (rest ∷ (push_steps ++ (pop_steps ++ remove_steps))) p

abbrev pub everywhere : (Step → Register → Bool) → Bool
everywhere p = every_step (λ st. every_register (p st))

module _ (p : Step → Bool) where
  step-in-passes : (sts : List Step) (n : ℕ) → p rest ≡ true → every_step_in sts p ≡ true → p (step_in sts n) ≡ true
  unfolding step_in
  step-in-passes [] n h e = h
  step-in-passes (st ∷ sts) n h e =
      by-if (λ (x : Step). p x ≡ true) (n ≟ step_number st) (λ _. and_left (p st) (every_step_in sts p) e)
      (λ _. step-in-passes sts n h (and_right (p st) (every_step_in sts p) e))

  pub each_step : every_step p ≡ true → (st : Step) → p st ≡ true
  unfolding step_of
  each_step e st =
      let sts = push_steps ++ (pop_steps ++ remove_steps) in
      subst (λ (x : Step). p x ≡ true) (step-of-number st)
      (step-in-passes sts (step_number st) (and_left (p rest) (every_step_in sts p) e)
      (and_right (p rest) (every_step_in sts p) e))

pub each-register : (p : Register → Bool) → every_register p ≡ true → (r : Register) → p r ≡ true
each-register p e in_a = and_left (p in_a) _ e
each-register p e in_b = and_left (p in_b) _ (and_right (p in_a) _ e)
each-register p e in_c = and_left (p in_c) (p in_d) (and_right (p in_b) _ (and_right (p in_a) _ e))
each-register p e in_d = and_right (p in_c) (p in_d) (and_right (p in_b) _ (and_right (p in_a) _ e))

pub everywhere-at : (p : Step → Register → Bool) → everywhere p ≡ true → (st : Step) (r : Register) → p st r ≡ true
everywhere-at p e st r = each-register (p st) (each_step (λ x. every_register (p x)) e st) r

-- One test implies another.
abbrev pub implies : Bool → Bool → Bool
implies a b = not a || b

pub implies_true : (a b : Bool) → implies a b ≡ true → a ≡ true → b ≡ true
implies_true true b e h = e
implies_true false b e h = clash (cc)
