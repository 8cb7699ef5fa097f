-- A slice that is filled from the front.
use mathlib.Core.Path.{◌≡◌, ap, ◌∙◌}
use mathlib.Core.List.{List, ◌++◌}
use Prim.Native.Nat.{ℕ, ◌+◌, ◌≤◌}
use native.Mathlib.Omega.{arith}
use lib.ListN.{length, take, drop, length-append}
use lib.Seq.{sets, sets-eq, length-take-le, take_at, drop_at}

-- Words written at the end of the front lengthen it, and what is behind them stays.
module _ (t vs : List ℕ) (n : ℕ) (h : n + length vs ≤ length t) where
  long : length (take n t ++ vs) ≡ n + length vs
  long = length-append (take n t) vs ∙ ap (λ (m : ℕ). m + length vs) (length-take-le n t (omega arith))

  pub front-grows : take (n + length vs) (sets t n vs) ≡ take n t ++ vs
  front-grows =
      ap (take (n + length vs)) (sets-eq vs t n h)
      ∙ take_at (take n t ++ vs) (drop (n + length vs) t) (n + length vs) long

  pub rest-stays : drop (n + length vs) (sets t n vs) ≡ drop (n + length vs) t
  rest-stays =
      ap (drop (n + length vs)) (sets-eq vs t n h)
      ∙ drop_at (take n t ++ vs) (drop (n + length vs) t) (n + length vs) long
