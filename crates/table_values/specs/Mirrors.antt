-- Request 2026-02: the mirror of a mark by a sum, and the table of mirrors that the sum replaces.
use Rattle.std.specs.Prelude.{◌≡◌, false, List, [], ◌∷◌, map, ℕ, ◌+◌, ◌-◌}
use Rattle.machine.specs.Choice.{◌≤?◌, if?◌then◌else◌}
use Rattle.machine.specs.Values.{N, X, Y, mark, number, encode, decode, mirror}
use Rattle.machine.specs.Sides.{left, right}
use Rattle.machine.specs.Shape.{same_words}

-- Words up to a border go up by so much, the others down.
abbrev sum_by : (border step w : ℕ) → ℕ
sum_by border step w = if? w ≤? border then w + step else w - step

-- 02: "The mirror of a mark up to 1,000,000,003 is that mark plus 3, of the others minus 3."
abbrev pub mirror_sum : ℕ → ℕ
mirror_sum = sum_by 1000000003 3

-- 01: LN with RN, LX with RX, LY with RY.
pub record Entry : Type 0 where
  pub mark : ℕ
  pub mirror : ℕ

abbrev pub mirror_table : List Entry
mirror_table =
    record { mark = 1000000001; mirror = 1000000004 }
    ∷ record { mark = 1000000002; mirror = 1000000005 }
    ∷ record { mark = 1000000003; mirror = 1000000006 }
    ∷ record { mark = 1000000004; mirror = 1000000001 }
    ∷ record { mark = 1000000005; mirror = 1000000002 }
    ∷ record { mark = 1000000006; mirror = 1000000003 }
    ∷ []

abbrev pub marks : List ℕ
marks = map (λ (e : Entry). e.mark) mirror_table

abbrev pub mirrors : List ℕ
mirrors = map (λ (e : Entry). e.mirror) mirror_table

-- 02: "For each of the six it is shown to be what the table gave." The table is that of all marks, and of their
-- mirrors.
abbrev pub SumIsTable : Type 0
SumIsTable =
    (map mirror_sum marks ≡ mirrors)
    × (map (λ v. number (encode v)) (N left ∷ X left ∷ Y left ∷ N right ∷ X right ∷ Y right ∷ []) ≡ marks)
    × (map (λ w. number (encode (mirror (decode (mark w))))) marks ≡ mirrors)

-- Other sums are not: a step of 2, and the border one mark lower or higher.
abbrev pub OtherSumsAreNot : Type 0
OtherSumsAreNot =
    (same_words (map (sum_by 1000000003 2) marks) mirrors ≡ false)
    × (same_words (map (sum_by 1000000002 3) marks) mirrors ≡ false)
    × (same_words (map (sum_by 1000000004 3) marks) mirrors ≡ false)
