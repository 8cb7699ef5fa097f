-- Request 2026-06: which registers hold their nodes (01: slots) at which step: those that some path of steps from there
-- uses before setting them. That the table is exact, and the only one, is said and proved in the crate
-- `machine_registers`.
use Rattle.std.specs.Prelude.{Bool, false, cond, ◌||◌, List, [], ◌∷◌, ℕ, eqb}
use Rattle.machine.specs.Steps.{
  Step,
  rest,
  line2,
  line3,
  line5,
  line8,
  line15,
  line17,
  line18,
  line24,
  line25,
  line28,
  line31,
  line39,
  line40,
  line42,
  line48,
  line51,
  line54,
  line56,
  line58,
  line60,
  line62,
  line64,
  line67,
  line68,
  line69,
  line70,
  line72,
  line74,
  line77,
  line78,
  line79,
  line81,
  line82,
}
use Rattle.machine.specs.Tasks.{Task, no_node, Register, in_a, in_b, in_c, in_d, register}

-- The registers in 01's order.
abbrev pub register_number : Register → ℕ
register_number in_a = 0
register_number in_b = 1
register_number in_c = 2
register_number in_d = 3

-- A register is one of a list.
abbrev pub among : List Register → Register → Bool
among [] r = false
among (x ∷ xs) r = eqb (register_number x) (register_number r) || among xs r

-- The table.
abbrev pub holding : Step → List Register
holding rest = []
holding line2 = in_d ∷ []
holding line3 = in_a ∷ in_d ∷ []
holding line5 = in_a ∷ in_b ∷ in_d ∷ []
holding line8 = in_a ∷ in_d ∷ []
holding line67 = in_d ∷ []
holding line68 = in_a ∷ in_d ∷ []
holding line69 = in_a ∷ in_d ∷ []
holding line70 = in_a ∷ in_b ∷ in_d ∷ []
holding line72 = in_a ∷ in_c ∷ in_d ∷ []
holding line28 = []
holding line31 = in_d ∷ []
holding line15 = in_d ∷ []
holding line17 = in_a ∷ in_d ∷ []
holding line18 = in_a ∷ in_d ∷ []
holding line24 = in_a ∷ in_d ∷ []
holding line25 = in_a ∷ in_b ∷ in_d ∷ []
holding line39 = []
holding line40 = in_a ∷ []
holding line42 = in_a ∷ in_b ∷ []
holding line48 = in_a ∷ in_b ∷ []
holding line51 = in_a ∷ in_b ∷ []
holding line54 = []
holding line56 = in_a ∷ []
holding line58 = in_a ∷ []
holding line60 = in_a ∷ []
holding line62 = in_a ∷ in_b ∷ []
holding line64 = in_a ∷ in_b ∷ []
holding line74 = in_b ∷ []
holding line77 = in_a ∷ in_b ∷ []
holding line78 = in_a ∷ in_b ∷ []
holding line79 = in_a ∷ in_b ∷ []
holding line81 = in_a ∷ []
holding line82 = in_a ∷ []

-- At a step a register holds its node against reuse.
abbrev pub holds : Step → Register → Bool
holds st r = among (holding st) r

-- The node that a task's register holds, or none.
abbrev pub held_in : Task → Register → ℕ
held_in t r = cond (holds t.step r) (register t r) no_node
