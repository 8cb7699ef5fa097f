-- The operations of a task: their numbers, arguments and goals.
use Rattle.std.specs.Prelude.{Bool, ℕ, leb, eqb}
use Rattle.machine.specs.declared.Stored.{Stored}
use Rattle.machine.specs.Choice.{◌≟◌, if?◌then◌else◌}
use Rattle.machine.specs.Values.{number, bag_ok}

-- The figure's push, pop, add and remove, of a side; idle: a task that is in no call.
pub data Operation : Type 0 where
  idle push pop add remove : Operation

-- 01: operation (0 idle, 1 push, 2 pop, 3 add, 4 remove).
abbrev pub operation_number : Operation → ℕ
operation_number idle = 0
operation_number push = 1
operation_number pop = 2
operation_number add = 3
operation_number remove = 4

-- The operation of a number that is 0 to 4.
abbrev pub operation_of : ℕ → Operation
operation_of n =
    if? n ≟ 0 then idle else
    if? n ≟ 1 then push else
    if? n ≟ 2 then pop else
    if? n ≟ 3 then add else
    remove

-- 01: argument: push a bag number, pop 0, add 0 to 64, remove 0 to 1,023. Those of pop, add and remove have digit 0,
-- since their number is below the first that has another.
abbrev pub argument_ok : Operation → Stored → Bool
argument_ok idle u = eqb (number u) 0
argument_ok push u = bag_ok u
argument_ok pop u = eqb (number u) 0
argument_ok add u = leb (number u) 64
argument_ok remove u = leb (number u) 1023

-- 01: goal: the argument for add and remove, growth for push, 0 for pop.
abbrev pub goal_of : Operation → (growth argument : ℕ) → ℕ
goal_of idle growth argument = 0
goal_of push growth argument = growth
goal_of pop growth argument = 0
goal_of add growth argument = argument
goal_of remove growth argument = argument
