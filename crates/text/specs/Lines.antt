-- Bytes cut into lines. 01: "a line ends at a line feed or at the end of input".
use Rattle.std.specs.Prelude.{Bool, true, cond, not, ◌&&◌, List, [], ◌∷◌, ℕ, eqb}

abbrev pub line_feed : ℕ
line_feed = 10

-- The bytes of the line that stands first.
unfoldable pub first_line : List ℕ → List ℕ
first_line [] = []
first_line (b ∷ bs) = cond (eqb b line_feed) [] (b ∷ first_line bs)

-- A byte in front of the first line.
abbrev pub in_front : ℕ → List (List ℕ) → List (List ℕ)
in_front b [] = (b ∷ []) ∷ []
in_front b (line ∷ lines) = (b ∷ line) ∷ lines

-- All lines. A final line feed opens no further line.
unfoldable pub lines_of : List ℕ → List (List ℕ)
lines_of [] = []
lines_of (b ∷ bs) = cond (eqb b line_feed) ([] ∷ lines_of bs) (in_front b (lines_of bs))

-- Whether a text has no line feed.
abbrev pub one_line : List ℕ → Bool
one_line [] = true
one_line (b ∷ bs) = not (eqb b line_feed) && one_line bs
