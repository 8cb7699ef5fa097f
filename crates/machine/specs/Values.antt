-- What a node's words of V mean: never used, a bag, or one of the six marks.
use Rattle.std.specs.Prelude.{◌≡◌, Bool, cond, ◌&&◌, ◌||◌, List, [], ◌∷◌, ℕ, ◌+◌, leb, eqb, get_or}
use Rattle.std.proofs.Math.Decide.{ℕ_discrete}
use Rattle.tag.specs.Tags.{tag_of, digit_of, low_of, is_tag}
use Rattle.machine.specs.declared.Stored.{Stored}
use Rattle.machine.specs.Choice.{◌≟◌, if?◌then◌else◌}
use Rattle.machine.specs.Sides.{Side, left, right, opposite, Side-discrete}

-- A mark carries its side: the figure's RN is `N right`, its LX is `X left`. A bag is its tag, one number.
pub data Value : Type 0 where
  never : Value
  bag : ℕ → Value
  N X Y : Side → Value
  deriving Discrete as Value-discrete-by

-- Whether two values are equal.
unfoldable pub Value-discrete : Discrete Value
Value-discrete = Value-discrete-by ℕ_discrete Side-discrete

infix 4 ◌≟ᵛ◌
abbrev pub ◌≟ᵛ◌ : (u v : Value) → Dec (u ≡ v)
◌≟ᵛ◌ u v = Value-discrete u v

-- ---- The words of a value. Of the later files only `Tasks`, which numbers a record's words, knows how many they are.
abbrev pub stored_length : ℕ
stored_length = 2

-- The words in the table's order, and those from a place on. 02: "Each new word follows the one it belongs to."
abbrev pub stored_words : Stored → List ℕ
stored_words u = u.word ∷ u.digit ∷ []

abbrev pub stored_at : List ℕ → ℕ → Stored
stored_at ws i = record { word = get_or ws i 0; digit = get_or ws (i + 1) 0 }

-- Whether two values have the same words.
abbrev pub same_stored : Stored → Stored → Bool
same_stored u w = eqb u.word w.word && eqb u.digit w.digit

-- A call's argument as our begin is given it: the digit first, as in what a read and a run write.
abbrev pub stored_of : (digit low : ℕ) → Stored
stored_of digit low = record { word = low; digit = digit }

-- The words of a number, and their number: of a bag, and of a call's argument.
abbrev pub stored : ℕ → Stored
stored n = stored_of (digit_of n) (low_of n)

abbrev pub number : Stored → ℕ
number u = tag_of u.digit u.word

-- ---- What they mean.

-- 02: marks have digit 0.
abbrev pub mark : ℕ → Stored
mark w = record { word = w; digit = 0 }

-- 01: LN 1,000,000,001, LX ..002, LY ..003, RN ..004, RX ..005, RY ..006; 0 for never used.
abbrev pub encode : Value → Stored
encode never = stored 0
encode (bag n) = stored n
encode (N left) = mark 1000000001
encode (X left) = mark 1000000002
encode (Y left) = mark 1000000003
encode (N right) = mark 1000000004
encode (X right) = mark 1000000005
encode (Y right) = mark 1000000006

-- The words are a bag's: its tag.
abbrev pub bag_ok : Stored → Bool
bag_ok u = is_tag u.digit u.word

-- The words are as V may be: a leading digit and the nine below, which are a tag or 0 for never used, or a mark.
-- 02: "V 0 with a digit of 1 to 9 is a tag."
abbrev pub value_ok : Stored → Bool
value_ok u =
    leb u.word 999_999_999 && leb u.digit 9
    || leb (encode (N left)).word u.word && leb u.word (encode (Y right)).word && eqb u.digit 0

-- The value of words as V may be. (Words that V may not be give some value too; the shape keeps them out.)
unfoldable pub decode : Stored → Value
decode u =
    cond (same_stored u (encode never)) never
    (cond (bag_ok u) (bag (number u))
    (if? u.word ≟ (encode (N left)).word then N left else
    if? u.word ≟ (encode (X left)).word then X left else
    if? u.word ≟ (encode (Y left)).word then Y left else
    if? u.word ≟ (encode (N right)).word then N right else
    if? u.word ≟ (encode (X right)).word then X right else
    Y right))

-- What 01's table of mirrors gave: LN with RN, LX with RX, LY with RY. (2026-02's sum is shown to give the same:
-- `values`, `Mirrors`.)
abbrev pub mirror : Value → Value
mirror never = never
mirror (bag n) = bag n
mirror (N s) = N (opposite s)
mirror (X s) = X (opposite s)
mirror (Y s) = Y (opposite s)
