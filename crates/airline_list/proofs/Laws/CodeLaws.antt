-- The code of a tag, and of a line, as a number.
use mathlib.Core.Path.{◌≡◌}
use mathlib.Core.List.{[], ◌∷◌}
use Prim.Native.Nat.{ℕ, ◌/◌, ◌%◌}
use native.Mathlib.Omega.{arith}
use Rattle.tag.specs.Tags.{last_digits, number_from}
use Rattle.airline_list.specs.Lists.{code_of}
use Rattle.airline_list.specs.Read.{codes}

pub three-digits : (n : ℕ) → last_digits 3 n ≡ n / 100 % 10 ∷ n / 10 % 10 ∷ n % 10 ∷ []
unfolding last_digits
three-digits n = let h : n / 10 / 10 ≡ n / 100 = omega arith in rw h

-- Seven times the last digit is left off.
pub code-number : (tag : ℕ) → code_of tag ≡ tag / 1_000_000 % codes
unfolding last_digits number_from
code-number tag =
    let a : tag / 10 / 10 ≡ tag / 100 = omega arith in
    let b : tag / 100 / 10 / 10 ≡ tag / 10_000 = omega arith in
    let c : tag / 10_000 / 10 / 10 ≡ tag / 1_000_000 = omega arith in
    let d : tag / 1_000_000 / 10 / 10 ≡ tag / 100_000_000 = omega arith in
    rw (a, b, c, d) (omega arith)
