-- What holds of every accepted list.
use Rattle.std.specs.Prelude.{List, [], ◌∷◌, ◌++◌, ◌⊎◌, ◌≡◌, ℕ}
use Rattle.text.specs.Lines.{line_feed}
use Rattle.airline_list.specs.declared.End.{End}
use Rattle.airline_list.specs.declared.End.TheVariants.{Left, Right}
use Rattle.airline_list.specs.Outcomes.{To}
use Rattle.airline_list.specs.Lists.{Entry, says, verdict, sent, list_text}

-- The same airlines in another order.
pub data Reordered : List Entry → List Entry → Type 0 where
  empty : Reordered [] []
  first : {e : Entry} {es fs : List Entry} → Reordered es fs → Reordered (e ∷ es) (e ∷ fs)
  swapped : {d e : Entry} {es : List Entry} → Reordered (d ∷ e ∷ es) (e ∷ d ∷ es)
  twice : {es fs gs : List Entry} → Reordered es fs → Reordered fs gs → Reordered es gs

-- 02: "Two lists with the same closing line, and the same codes and ends in another order, send every tag alike."
abbrev pub OrderDoesNotMatter : Type 0
OrderDoesNotMatter =
    (one other : List ℕ) (es fs : List Entry) (closing : End)
    → verdict one ≡ says es closing
    → verdict other ≡ says fs closing
    → Reordered es fs
    → (tag : ℕ) → sent (verdict one) tag ≡ sent (verdict other) tag

-- An accepted list sends every tag to one of the two ends.
abbrev pub EveryTagIsSent : Type 0
EveryTagIsSent =
    (list : List ℕ) (es : List Entry) (closing : End)
    → verdict list ≡ says es closing
    → (tag : ℕ) → (sent (verdict list) tag ≡ To Left) ⊎ (sent (verdict list) tag ≡ To Right)

-- Written again from what it says, it is read as the same.
abbrev pub WrittenIsRead : Type 0
WrittenIsRead =
    (list : List ℕ) (es : List Entry) (closing : End)
    → verdict list ≡ says es closing
    → verdict (list_text es closing) ≡ says es closing

-- What it says is all that stands in it: it is that text, with or without the last line feed.
abbrev pub IsItsText : Type 0
IsItsText =
    (list : List ℕ) (es : List Entry) (closing : End)
    → verdict list ≡ says es closing
    → (list ≡ list_text es closing) ⊎ (list ++ (line_feed ∷ []) ≡ list_text es closing)
