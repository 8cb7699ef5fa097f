-- 2026-09: sheets whose refusals stand in another order, and the tables that tell them from the right one.
use Rattle.std.specs.Prelude.{◌≡◌, List, [], ℕ, leb, eqb, length}
use Rattle.std.proofs.Math.Option.{Option, some, none}
use Rattle.text_page.specs.Page.{page_length}
use Rattle.machine.specs.Outcomes.Reply.{Refused}
use Rattle.machine.specs.Sides.{right}
use Rattle.machine.specs.Tasks.{no_node}
use Rattle.machine.specs.Table.{set_link}
use Rattle.machine.specs.Calls.{unless, lane_refusal, lane, start_words, Changed, changed}
use Rattle.machine.specs.Sheets.{last_page, page_refusal, sheet_into, sheet}

-- The page and the slice are tested before the lane is walked, by this test of them.
abbrev tested_first : ((page : ℕ) → (out : List ℕ) → Option ℕ) → List ℕ → (lane page : ℕ) → (out : List ℕ) → Changed
tested_first test ws l page out =
    elim (lane_refusal ws l (test page out)) as (λ _. Changed) [
      | some n ↦ changed (some n) out out
      | none ↦ sheet_into (lane ws l) page out
    ]

-- ---- "both come after the lane walk": 20 and 21 before 11.
abbrev pub page_before_walk : List ℕ → (lane page : ℕ) → (out : List ℕ) → Changed
page_before_walk = tested_first page_refusal

-- ---- "in this order": 21 before 20, and both before the walk.
abbrev pub slice_before_page : List ℕ → (lane page : ℕ) → (out : List ℕ) → Changed
slice_before_page = tested_first (λ page out. unless (eqb (length out) page_length) 21 (unless (leb page last_page) 20 none))

-- A fresh table of two slots, and one whose lane cannot be walked: its first slot leads to none.
abbrev pub walked : List ℕ
walked = start_words 2 1 0 1

abbrev pub not_walked : List ℕ
not_walked = set_link right 0 no_node walked

-- Page 3, with an out slice of no bytes.
abbrev pub SheetsRefuted : Type 0
SheetsRefuted =
    ((sheet not_walked 0 3 []).reply ≡ Refused 11)
    × ((page_before_walk not_walked 0 3 []).reply ≡ Refused 20)
    × ((sheet walked 0 3 []).reply ≡ Refused 20)
    × ((page_before_walk walked 0 3 []).reply ≡ Refused 20)
    × ((slice_before_page walked 0 3 []).reply ≡ Refused 21)
