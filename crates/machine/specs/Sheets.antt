-- Request 2026-09: the lane on the shift sheet, as a call. `text_page/specs/Page` says what a page holds.
use Rattle.std.specs.Prelude.{List, ℕ, leb, eqb, length}
use Rattle.std.proofs.Math.Option.{Option, some, none}
use Rattle.text_page.specs.Page.{page_length, page_text}
use Rattle.machine.specs.Calls.{lane, unless, lane_refusal, Changed, changed}

-- 02: "the caller names the page from 0"; three pages take the largest lane.
abbrev pub last_page : ℕ
last_page = 2

-- 02: "20, page above 2; 21, out slice not 4,860 bytes; both come after the lane walk, in this order."
abbrev pub page_refusal : (page : ℕ) → (out : List ℕ) → Option ℕ
page_refusal page out = unless (leb page last_page) 20 (unless (eqb (length out) page_length) 21 none)

-- The lane walk first: 11 where it cannot be read. Else every byte of the out slice is the page's.
unfoldable pub sheet_into : (bags : Option (List ℕ)) → (page : ℕ) → (out : List ℕ) → Changed
sheet_into none page out = changed (some 11) out out
sheet_into (some bags) page out = changed (page_refusal page out) out (page_text bags page)

-- 02: "26, lane out of range at begin, read or sheet, straight after 4". A refusal leaves the out slice.
unfoldable pub sheet : List ℕ → (lane page : ℕ) → (out : List ℕ) → Changed
sheet ws l page out =
    elim (lane_refusal ws l none) as (λ _. Changed) [
      | some n ↦ changed (some n) out out
      | none ↦ sheet_into (lane ws l) page out
    ]
