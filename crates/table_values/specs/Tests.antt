-- What the code asks of values: whether two are the same, and whether one is a mark of a side.
use Rattle.std.specs.Prelude.{Bool, true, false}
use Rattle.machine.specs.Choice.{if?◌then◌else◌}
use Rattle.machine.specs.Sides.{Side}
use Rattle.machine.specs.Values.{Value, ◌≟ᵛ◌, N, X, Y}
use Rattle.table_values.specs.declared.Mark.{Mark}
use Rattle.table_values.specs.declared.Mark.TheVariants as letter

abbrev pub is_same : Value → Value → Bool
is_same u v = if? u ≟ᵛ v then true else false

-- What a mark says of a side.
abbrev pub marked : Mark → Side → Value
marked letter.N s = N s
marked letter.X s = X s
marked letter.Y s = Y s
