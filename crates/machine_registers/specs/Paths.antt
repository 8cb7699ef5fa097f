-- Request 2026-06: the paths of steps by 01's list, what each step uses and sets, and what it is for a table of held
-- registers to be exact.
use Rattle.std.specs.Prelude.{◌≡◌, ◌⊎◌, Bool, true, false, List, [], ◌∷◌}
use Rattle.machine.specs.Steps.{
  Step,
  rest,
  line2,
  line3,
  line5,
  line8,
  line15,
  line17,
  line18,
  line24,
  line25,
  line28,
  line31,
  line39,
  line40,
  line42,
  line48,
  line51,
  line54,
  line56,
  line58,
  line60,
  line62,
  line64,
  line67,
  line68,
  line69,
  line70,
  line72,
  line74,
  line77,
  line78,
  line79,
  line81,
  line82,
}
use Rattle.machine.specs.Tasks.{Register, in_a, in_b, in_c, in_d}
use Rattle.machine.specs.Registers.{among, holds}

-- ---- 01's list, as far as registers go.

-- The registers that a step reads or stores, compares, or tests for none, before setting them. D at 68, 70 and 72 is
-- by "back", which tests it for none.
abbrev pub uses : Step → List Register
uses rest = []
uses line2 = []
uses line3 = in_a ∷ []
uses line5 = in_a ∷ in_b ∷ []
uses line8 = in_a ∷ []
uses line67 = []
uses line68 = in_a ∷ in_d ∷ []
uses line69 = in_a ∷ []
uses line70 = in_b ∷ in_d ∷ []
uses line72 = in_a ∷ in_c ∷ in_d ∷ []
uses line28 = []
uses line31 = in_d ∷ []
uses line15 = []
uses line17 = in_a ∷ []
uses line18 = in_a ∷ []
uses line24 = in_a ∷ in_d ∷ []
uses line25 = in_a ∷ in_b ∷ in_d ∷ []
uses line39 = []
uses line40 = in_a ∷ []
uses line42 = in_b ∷ []
uses line48 = in_a ∷ in_b ∷ []
uses line51 = in_a ∷ in_b ∷ []
uses line54 = []
uses line56 = in_a ∷ []
uses line58 = in_a ∷ []
uses line60 = in_a ∷ []
uses line62 = in_a ∷ in_b ∷ []
uses line64 = in_a ∷ in_b ∷ []
uses line74 = in_b ∷ []
uses line77 = in_b ∷ []
uses line78 = in_b ∷ []
uses line79 = in_a ∷ in_b ∷ []
uses line81 = in_a ∷ []
uses line82 = in_a ∷ []

-- A way on from a step: the step after it, and the registers set on that way.
pub record Way : Type 0 where
  pub next : Step
  pub sets : List Register

infix 70 ◌setting◌
abbrev pub ◌setting◌ : Step → List Register → Way
◌setting◌ st rs = record { next = st; sets = rs }

abbrev pub to : Step → Way
to st = st setting []

-- The ways on from a step, all branches; an answer ends the path. (rest is the step of an idle task, which no tick is
-- made of; its line is there for the sake of the definition.)
abbrev pub ways : Step → List Way
ways rest = to rest ∷ []
ways line2 = line3 setting (in_a ∷ []) ∷ []
ways line3 = line8 setting (in_b ∷ []) ∷ line5 setting (in_b ∷ []) ∷ []
ways line5 = to line8 ∷ []
ways line8 = to line28 ∷ to line67 ∷ []
ways line67 = line68 setting (in_a ∷ []) ∷ []
ways line68 = to line69 ∷ to line2 ∷ to line15 ∷ []
ways line69 = line70 setting (in_b ∷ []) ∷ []
ways line70 = line2 setting (in_c ∷ []) ∷ line15 setting (in_c ∷ []) ∷ line72 setting (in_c ∷ []) ∷ []
ways line72 = to line2 ∷ to line15 ∷ []
ways line28 = line15 setting (in_d ∷ []) ∷ line31 setting (in_d ∷ []) ∷ []
ways line31 = to line15 ∷ line15 setting (in_d ∷ []) ∷ line31 setting (in_d ∷ []) ∷ []
ways line15 = line17 setting (in_a ∷ []) ∷ []
ways line17 = to line18 ∷ to line67 ∷ to line24 ∷ to line15 ∷ []
ways line18 = line15 setting (in_a ∷ []) ∷ line17 setting (in_a ∷ []) ∷ []
ways line24 = line25 setting (in_b ∷ []) ∷ []
ways line25 = to line15 ∷ line2 setting (in_d ∷ []) ∷ []
ways line39 = line40 setting (in_a ∷ []) ∷ []
ways line40 = line39 setting (in_b ∷ []) ∷ line42 setting (in_b ∷ []) ∷ []
ways line42 = to line51 ∷ to line48 ∷ to line39 ∷ []
ways line48 = to line39 ∷ []
ways line51 = to line39 ∷ []
ways line54 = line60 setting (in_a ∷ []) ∷ line56 setting (in_a ∷ []) ∷ []
ways line56 = to line58 ∷ []
ways line58 = line60 setting (in_a ∷ []) ∷ line56 setting (in_a ∷ []) ∷ []
ways line60 = line62 setting (in_b ∷ []) ∷ []
ways line62 = to line64 ∷ []
ways line64 = to line74 ∷ []
ways line74 = line82 setting (in_a ∷ in_b ∷ []) ∷ line77 setting (in_a ∷ in_b ∷ []) ∷ []
ways line77 = to line78 ∷ []
ways line78 = to line77 ∷ to line79 ∷ []
ways line79 = line81 setting (in_a ∷ []) ∷ []
ways line81 = line82 setting (in_b ∷ []) ∷ line77 setting (in_b ∷ []) ∷ []
ways line82 = []

-- A way is one of a list.
abbrev pub OneOf : Way → List Way → Type 0
OneOf w [] = ⊥
OneOf w (x ∷ xs) = (w ≡ x) ⊎ OneOf w xs

-- 2026-06: some path of steps, by 01's list and whatever the table holds, uses the register before setting it.
pub data Needed (r : Register) : Step → Type 0 where
  here : (st : Step) → among (uses st) r ≡ true → Needed r st
  later : (st : Step) (w : Way) → OneOf w (ways st) → among w.sets r ≡ false → Needed r w.next → Needed r st

-- ---- Exact tables.

-- A table of registers by step has just those that are needed.
abbrev pub Exact : (Step → Register → Bool) → Type 0
Exact table = (st : Step) (r : Register) → (table st r ≡ true → Needed r st) × (Needed r st → table st r ≡ true)

-- 2026-06: a register holds its slot exactly if some path of steps reads or stores it, compares it, or tests it for
-- none, before setting it.
abbrev pub HoldsExactly : Type 0
HoldsExactly = Exact holds

-- No other table is exact: neither one that lets go a register that some path needs, nor one that holds one for
-- nothing.
abbrev pub NoOtherTable : Type 0
NoOtherTable = (table : Step → Register → Bool) → Exact table → (st : Step) (r : Register) → table st r ≡ holds st r
