-- The row as either side sees it.
use mathlib.Core.Path.{◌≡◌, refl}
use mathlib.Core.List.{List, reverse, reverse-reverse}
use Prim.Native.Nat.{ℕ}
use Rattle.machine.specs.Sides.{Side, left, right}

-- The row, given left end first, as side s sees it: its own end last.
abbrev pub row_from : Side → List ℕ → List ℕ
row_from left r = reverse r
row_from right r = r

pub row_from-row_from : (s : Side) (r : List ℕ) → row_from s (row_from s r) ≡ r
row_from-row_from left r = reverse-reverse r
row_from-row_from right r = refl
