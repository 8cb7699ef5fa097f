-- What a comparison of values in code says of the values.
use mathlib.Core.Path.{◌≡◌, sym, ◌∙◌}
use mathlib.Core.Logic.{◌≢◌}
use mathlib.Core.Bool.{Bool, true, false}
use Rattle.machine.specs.Choice.{if?◌then◌else◌}
use Rattle.machine.specs.Values.{Value, ◌≟ᵛ◌}
use Rattle.machine.proofs.Basics.Contradiction.{clash}
use Rattle.table_values.specs.Tests.{is_same}

-- r is the comparison of two values.
module _ {u v : Value} {r : Bool} (compared : r ≡ is_same u v) where
  pub are-same : r ≡ true → u ≡ v
  are-same h = go (u ≟ᵛ v) (sym compared ∙ h)
    where
      go : (d : Dec (u ≡ v)) → (if? d then true else false) ≡ true → u ≡ v
      go (yes e) h = e
      go (no n) h = clash (cc)

  pub are-other : r ≡ false → u ≢ v
  are-other h = go (u ≟ᵛ v) (sym compared ∙ h)
    where
      go : (d : Dec (u ≡ v)) → (if? d then true else false) ≡ false → u ≢ v
      go (yes e) h = clash (cc)
      go (no n) h = n
