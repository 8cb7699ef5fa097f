-- A line looks at its own hat and at the words of the nodes in registers that hold: where these are the same, it does
-- the same, whichever node the search finds, unless it takes one.
use mathlib.Core.Path.{◌≡◌, refl}
use mathlib.Core.Logic.{◌⊎◌, inl, inr}
use mathlib.Core.Bool.{true}
use Prim.Native.Nat.{ℕ}
use Rattle.machine.specs.Sides.{Side}
use Rattle.machine.specs.Steps.{Step, rest}
use Rattle.machine.specs.Steps as Steps
use Rattle.machine.specs.Tasks.{Task, Register, in_a, in_b, register}
use Rattle.machine.specs.Registers.{holds}
use Rattle.machine.specs.Lines.{Memory, act}

-- At a node two memories are the same.
pub record LooksSame (m m' : Memory) (x : ℕ) : Type 0 where
  pub same_out : m'.out x ≡ m.out x
  pub same-inn : m'.inn x ≡ m.inn x
  pub same-val : m'.val x ≡ m.val x

module _ (s o : Side) (m m' : Memory) (t : Task) (g f f' : ℕ) (same-hat : m'.hat ≡ m.hat) where
  -- The nodes held look the same, and so does the one found, where one is taken.
  pub same_line : (st : Step)
      → ((r : Register) → holds st r ≡ true → LooksSame m m' (register t r))
      → ((st ≡ Steps.line28) ⊎ (st ≡ Steps.line31) → f' ≡ f)
      → act st s o m' t g f' ≡ act st s o m t g f
  unfolding act
  same_line rest H F = refl
  same_line Steps.line2 H F = rw same-hat
  same_line Steps.line3 H F = rw (H in_a refl).same_out
  same_line Steps.line5 H F = rw (same-hat, (H in_a refl).same-val)
  same_line Steps.line8 H F = rw (H in_a refl).same-val
  same_line Steps.line15 H F = rw same-hat
  same_line Steps.line17 H F = rw (H in_a refl).same-val
  same_line Steps.line18 H F = rw (H in_a refl).same_out
  same_line Steps.line24 H F = rw (H in_a refl).same_out
  same_line Steps.line25 H F = rw ((H in_a refl).same_out, (H in_a refl).same-val)
  same_line Steps.line28 H F = rw (F (inl refl))
  same_line Steps.line31 H F = rw (F (inr refl))
  same_line Steps.line39 H F = rw same-hat
  same_line Steps.line40 H F = rw (H in_a refl).same-inn
  same_line Steps.line42 H F = rw (H in_b refl).same-val
  same_line Steps.line48 H F = rw (same-hat, (H in_b refl).same-val)
  same_line Steps.line51 H F = rw (same-hat, (H in_b refl).same-val)
  same_line Steps.line54 H F = rw same-hat
  same_line Steps.line56 H F = rw (H in_a refl).same-val
  same_line Steps.line58 H F = rw (H in_a refl).same_out
  same_line Steps.line60 H F = rw (H in_a refl).same_out
  same_line Steps.line62 H F = rw ((H in_a refl).same-val, (H in_b refl).same-val)
  same_line Steps.line64 H F = rw (H in_a refl).same_out
  same_line Steps.line67 H F = rw same-hat
  same_line Steps.line68 H F = rw (H in_a refl).same-val
  same_line Steps.line69 H F = rw (H in_a refl).same-inn
  same_line Steps.line70 H F = rw (H in_b refl).same_out
  same_line Steps.line72 H F = rw same-hat
  same_line Steps.line74 H F = rw (H in_b refl).same_out
  same_line Steps.line77 H F = rw (H in_b refl).same-val
  same_line Steps.line78 H F = rw (H in_b refl).same-val
  same_line Steps.line79 H F = refl
  same_line Steps.line81 H F = rw (H in_a refl).same_out
  same_line Steps.line82 H F = refl
