-- The flag of a chain of `&&` after one more test t: t where the flag f before it is true, and f where it is false.
-- F is what f is known to be.
use mathlib.Core.Path.{◌≡◌, sym, ◌∙◌}
use mathlib.Core.Logic.{◌⊎◌, inl, inr}
use mathlib.Core.Bool.{Bool, true, false, ◌&&◌}

pub and-passed : {f F g t : Bool} → f ≡ F → f ≡ true → g ≡ t → g ≡ F && t
and-passed e h k = rw (sym e ∙ h) k

pub and-failed : {f F g : Bool} (t : Bool) → f ≡ F → f ≡ false → g ≡ f → g ≡ F && t
and-failed t e h k = rw (sym e ∙ h) (k ∙ h)
