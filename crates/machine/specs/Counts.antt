-- How often a number is in a list: a bag in a row, a word in a table.
use Rattle.std.specs.Prelude.{List, [], ◌∷◌, ℕ, ◌+◌}
use Rattle.machine.specs.Choice.{◌≟◌, if?◌then◌else◌}

unfoldable pub count : ℕ → List ℕ → ℕ
count b [] = 0
count b (x ∷ xs) = (if? x ≟ b then 1 else 0) + count b xs
