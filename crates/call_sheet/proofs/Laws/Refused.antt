-- What the sheet answers, by the tests that it has passed and by its walk.
use mathlib.Core.Path.{◌≡◌, sym, ap, ◌∙◌}
use mathlib.Core.List.{List, ◌++◌}
use mathlib.Core.Option.{Option, some, none}
use Prim.Native.Nat.{ℕ, ◌*◌, ◌-◌, ◌≤◌, min}
use native.Mathlib.Omega.{arith}
use lib.ListN.{length, drop, length-drop}
use borrow.Author.Tests.{le-leb, eq-eqb}
use Rattle.text_page.specs.Page.{page_length, heading, tag_line_count, per_page, tag_lines, page_text}
use Rattle.machine.specs.Table.{node_count}
use Rattle.machine.specs.Results.{changed_of}
use Rattle.machine.specs.Sheets.{last_page, sheet_into}
use Rattle.machine.proofs.Basics.Contradiction.{clash}
use Rattle.std.specs.Prelude.{Ok}
use Rattle.lane_walk.specs.declared.Located.{Located}
use Rattle.lane_walk.specs.Walks.{ahead, count_of, node_after, located_of}
use Rattle.lane_walk.proofs.Laws.Places.{ahead_after, few-bags}
use Rattle.call_sheet.specs.Found.{tags_found}
use Rattle.call_sheet.proofs.Laws.Walked.{fewer-dropped}

-- ---- Refusals 11, 20 and 21, and the page, by what the walk to the page's first place answers.
module _ (ws : List ℕ) (first page : ℕ) (out : List ℕ) where
  abbrev place : ℕ
  place = per_page * page

  page-there : (bags : List ℕ) → page ≤ last_page → length out ≡ page_length
      → changed_of (Ok (tt {0})) (page_text bags page) ≡ sheet_into (some bags) page out
  unfolding sheet_into
  page-there bags h k = rw (le-leb page last_page h, eq-eqb (length out) page_length k)

  -- What the walk said of a lane that ends.
  abbrev said : List ℕ → Located
  said bags = record { bags = length bags; node = node_after ws (min place (length bags)) first }

  module _ {there : Located} where
    -- From the node that the walk had, the tags from the page's first place on are ahead.
    from_place : (bags : List ℕ) → ahead ws first ≡ some bags → there ≡ said bags
        → ahead ws there.node ≡ some (drop place bags)
    from_place bags is-ahead told =
        ap (λ (t : Located). ahead ws t.node) told
        ∙ ahead_after ws first bags is-ahead (min place (length bags)) (omega arith)
        ∙ ap some (fewer-dropped place bags)

    pub left_there : (l : Option (List ℕ)) → ahead ws first ≡ l → Ok there ≡ located_of ws place first l
        → count_of (ahead ws there.node) ≡ some (there.bags - place)
    left_there none is-ahead told = clash (cc)
    left_there (some bags) is-ahead told =
        let e : there ≡ said bags = cc in
        ap count_of (from_place bags is-ahead e)
        ∙ ap some (length-drop place bags ∙ ap (λ (t : Located). t.bags - place) (sym e))

    pub count_small : (l : Option (List ℕ)) → ahead ws first ≡ l → Ok there ≡ located_of ws place first l
        → there.bags ≤ node_count ws
    count_small none is-ahead told = clash (cc)
    count_small (some bags) is-ahead told =
        let e : there ≡ said bags = cc in
        let n = ap (λ (t : Located). t.bags) e in
        omega (arith, few-bags ws (node_count ws) first bags is-ahead)

    pub page-written : (l : Option (List ℕ)) {written : List ℕ} → ahead ws first ≡ l
        → Ok there ≡ located_of ws place first l → page ≤ last_page → length out ≡ page_length
        → written ≡ heading there.bags ++ tag_lines tag_line_count (tags_found (ahead ws there.node))
        → changed_of (Ok (tt {0})) written ≡ sheet_into l page out
    unfolding page_text
    page-written none is-ahead told h k w = clash (cc)
    page-written (some bags) {written} is-ahead told h k w =
        let e : there ≡ said bags = cc in
        let n : there.bags ≡ length bags = ap (λ (t : Located). t.bags) e in
        let on = from_place bags is-ahead e in
        ap (changed_of (Ok (tt {0}))) (w ∙ rw (n, on))
        ∙ page-there bags h k
