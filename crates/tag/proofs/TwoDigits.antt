-- The ten digits of a tag, each two as a number.
use mathlib.Core.Path.{◌≡◌, refl, sym, ap, ◌∙◌}
use mathlib.Core.List.{List, [], ◌∷◌, ◌++◌}
use Prim.Native.Nat.{ℕ, suc, ◌+◌, ◌*◌, ◌/◌, ◌%◌, ◌<◌}
use native.Mathlib.Omega.{arith}
use lib.Seq.{append_snoc}
use Rattle.tag.specs.Tags.{billion, tag_of, low_of, last_digits, ten_digits}
use Rattle.tag.proofs.Twofold.{twofold}

-- The digits of numbers of two.
abbrev pub parted : (twos : List ℕ) → List ℕ
parted twos = twofold (λ two. two / 10) (λ two. two % 10) twos

-- A number has the digits of its hundreds and then two.
two-more : (k n hundreds two : ℕ) → n ≡ hundreds * 100 + two → two < 100
    → last_digits (suc (suc k)) n ≡ last_digits k hundreds ++ (two / 10 ∷ two % 10 ∷ [])
unfolding last_digits
two-more k n hundreds two e small =
    let upper : n / 10 / 10 ≡ hundreds = omega arith in
    let ten : n / 10 % 10 ≡ two / 10 = omega arith in
    let one : n % 10 ≡ two % 10 = omega arith in
    rw (upper, ten, one) (append_snoc (last_digits k hundreds) (two / 10) (two % 10 ∷ []))

no-digits : (n : ℕ) → last_digits 0 n ≡ []
unfolding last_digits
no-digits n = refl

-- The last ten digits of a number, each two as a number.
abbrev twos_of : (tag : ℕ) → List ℕ
twos_of tag =
    tag / 100_000_000 % 100 ∷ tag / 1_000_000 % 100 ∷ tag / 10_000 % 100 ∷ tag / 100 % 100 ∷ tag % 100 ∷ []

pub twos-parted : (tag : ℕ) → parted (twos_of tag) ≡ ten_digits tag
unfolding twofold
twos-parted tag =
    sym
    (rw (
      two-more 8 tag (tag / 100) (tag % 100) (omega arith) (omega arith),
      two-more 6 (tag / 100) (tag / 10_000) (tag / 100 % 100) (omega arith) (omega arith),
      two-more 4 (tag / 10_000) (tag / 1_000_000) (tag / 10_000 % 100) (omega arith) (omega arith),
      two-more 2 (tag / 1_000_000) (tag / 100_000_000) (tag / 1_000_000 % 100) (omega arith) (omega arith),
      two-more 0 (tag / 100_000_000) (tag / 10_000_000_000) (tag / 100_000_000 % 100) (omega arith) (omega arith),
      no-digits (tag / 10_000_000_000),
    ))

-- The digits above the last ten are of no account.
pub last-ten : (tag : ℕ) → ten_digits (tag_of (tag / billion % 10) (low_of tag)) ≡ ten_digits tag
last-ten tag =
    let last = tag_of (tag / billion % 10) (low_of tag) in
    let first : last / 100_000_000 % 100 ≡ tag / 100_000_000 % 100 = omega arith in
    let second : last / 1_000_000 % 100 ≡ tag / 1_000_000 % 100 = omega arith in
    let third : last / 10_000 % 100 ≡ tag / 10_000 % 100 = omega arith in
    let fourth : last / 100 % 100 ≡ tag / 100 % 100 = omega arith in
    let fifth : last % 100 ≡ tag % 100 = omega arith in
    sym (twos-parted last) ∙ ap parted (rw (first, second, third, fourth, fifth)) ∙ twos-parted tag
