-- Two scans, from the hint to the last node and from 0 to the hint, are the search that goes round.
use mathlib.Core.Path.{◌≡◌, ◌∙◌, sym}
use mathlib.Core.Logic.{◌≢◌}
use mathlib.Core.Bool.{Bool, true, false, not}
use mathlib.Core.List.{List, map}
use Prim.Native.Nat.{ℕ, zero, suc, ◌+◌, ◌-◌, ◌≤◌, ◌<◌}
use native.Mathlib.Omega.{arith}
use native.Mathlib.Nat.{sub-zero}
use lib.ListN.{get_or, length, take, drop, length-drop}
use lib.Seq.{length-take-le, get_or-take, get_or-drop}
use borrow.Author.Tests.{lt-ltb, le-ltb}
use Rattle.std.proofs.Common.{Option, Some, None}
use Rattle.std.specs.List.{position, position_or_len}
use Rattle.std.proofs.lemmas.Bool.{not-true, not-false}
use Rattle.std.proofs.lemmas.List.Quantifiers.{position-Some}
use Rattle.std.proofs.lemmas.List.Sums.{fails_before_first}
use Rattle.machine.specs.Choice.{◌<?◌}
use Rattle.machine.specs.Tasks.{no_node}
use Rattle.machine.specs.Allocate.{first_unmarked}
use Rattle.machine.proofs.SlotRule.Marking.{first_unmarked-found, first_unmarked-kept, first_unmarked-none}
use Rattle.table_search.specs.Arrays.{padded, number}
use Rattle.table_search.specs.Marked.{node_or_none}
use Rattle.table_search.proofs.Laws.Arrays.{mark-at}

-- ---- One scan: every place has a mark, or every place before the one found.
none-without : (ms : List Bool) → position not ms ≡ None → (k : ℕ) → k < length ms → get_or ms k false ≡ true
none-without ms e k h = by (position_or_len not ms <? length ms)
  where
    by : Dec (position_or_len not ms < length ms) → get_or ms k false ≡ true
    by (yes l) = cc (rw (lt-ltb _ _ l) at e)
    by (no l) = not-false _ (fails_before_first not ms k false (omega arith))

-- Each node from a on and below b has a mark.
abbrev AllMarked : (marks : List ℕ) (a b : ℕ) → Type 0
AllMarked marks a b = (i : ℕ) → a ≤ i → i < b → get_or marks i 0 ≢ 0

-- ---- Both scans.
module _ (S : ℕ) (marks : List ℕ) where
  -- What is found from node i on, with k of the S nodes passed.
  abbrev Finds : (k i u : ℕ) → Type 0
  Finds k i u = first_unmarked S marks (S - k) i ≡ u

  -- The d nodes from i on, which have marks, are passed, and node i' is next.
  passed_over : (d k i u : ℕ) {k' i' : ℕ} → k + d ≡ k' → i + d ≡ i' → k' ≤ S → i' < S → AllMarked marks i i'
      → Finds k i u → Finds k' i' u
  passed_over zero k i u {k'} {i'} e f b h m q =
      let none : k' ≡ k = omega arith in
      let here : i' ≡ i = omega arith in
      rw (none, here) q
  passed_over (suc d) k i u e f b h m q =
      let turn = first_unmarked-kept S marks k i u q (omega arith) (m i (omega arith) (omega arith)) in
      let next : Finds (k + 1) (i + 1) u = rw (lt-ltb (i + 1) S (omega arith)) at turn in
      passed_over d (k + 1) (i + 1) u (omega arith) (omega arith) b h (λ j l g. m j (omega arith) g) next

  -- From a hint on.
  module _ (hint : ℕ) (low : hint < S) where
    abbrev found : ℕ
    found = first_unmarked S marks S hint

    all_left : Finds 0 hint found
    all_left = rw sub-zero

    found-above : (r : ℕ) → hint ≤ r → r < S → AllMarked marks hint r → get_or marks r 0 ≡ 0 → r ≡ found
    found-above r l h passed without =
        let d = r - hint in
        let q : Finds d r found
        = passed_over d 0 hint found (omega arith) (omega arith) (omega arith) h passed all_left in
        first_unmarked-found S marks d r found q (omega arith) without

    -- Where each node from the hint on has a mark, the search comes to 0 with as many nodes left as the hint's number.
    module _ (above : AllMarked marks hint S) where
      come-round : Finds (S - hint) 0 found
      come-round =
          let d = S - hint - 1 in
          let i = S - 1 in
          let before_last : AllMarked marks hint i = λ j l g. above j l (omega arith) in
          let q : Finds d i found
          = passed_over d 0 hint found (omega arith) (omega arith) (omega arith) (omega arith) before_last all_left in
          let last = above i (omega arith) (omega arith) in
          let turn = first_unmarked-kept S marks d i found q (omega arith) last in
          let k : d + 1 ≡ S - hint = omega arith in
          rw (le-ltb (i + 1) S (omega arith), k) at turn

      found_below : (r : ℕ) → r < hint → AllMarked marks 0 r → get_or marks r 0 ≡ 0 → r ≡ found
      found_below r h passed without =
          let k = S - hint + r in
          let q : Finds k r found
          = passed_over r (S - hint) 0 found (omega arith) (omega arith) (omega arith) (omega arith) passed
          come-round in
          first_unmarked-found S marks k r found q (omega arith) without

      none_found : AllMarked marks 0 hint → no_node ≡ found
      none_found passed =
          let q : Finds S hint found
          = passed_over hint (S - hint) 0 found (omega arith) (omega arith) (omega arith) low passed come-round in
          first_unmarked-none S marks S hint found q (omega arith)

-- ---- The same of the slice of marks and what is found in its parts.
module _ (ms : List Bool) (hint : ℕ) (low : hint < length ms) where
  abbrev marks-of : List ℕ
  marks-of = padded (map number ms)

  has-mark : (i : ℕ) → get_or ms i false ≡ true → get_or marks-of i 0 ≢ 0
  has-mark i e z = cc (mark-at ms i)

  pub found-after : (i : ℕ) → position not (drop hint ms) ≡ Some i
      → hint + i ≡ first_unmarked (length ms) marks-of (length ms) hint
  found-after i e =
      let scan = position-Some not (drop hint ms) i false e in
      let at : (k : ℕ) → get_or (drop hint ms) k false ≡ get_or ms (hint + k) false
      = λ k. get_or-drop hint ms k false in
      let clear : get_or ms (hint + i) false ≡ false = sym (at i) ∙ not-true _ scan.1 in
      let passed : AllMarked marks-of hint (hint + i) = λ j l h.
      let k = j - hint in
      let is : hint + k ≡ j = omega arith in
      has-mark j (rw is at (sym (at k) ∙ not-false _ (scan.2 k (omega arith)))) in
      found-above (length ms) marks-of hint low (hint + i) (omega arith) (omega (arith, scan.0, length-drop hint ms)) passed
      (cc (mark-at ms (hint + i), clear))

  module _ (none : position not (drop hint ms) ≡ None) where
    above : AllMarked marks-of hint (length ms)
    above j l h =
        let k = j - hint in
        let is : hint + k ≡ j = omega arith in
        has-mark j
        (rw is at (sym (get_or-drop hint ms k false) ∙ none-without (drop hint ms) none k (omega (arith, length-drop hint ms))))

    pub found-before : (r : Option ℕ) → r ≡ position not (take hint ms)
        → node_or_none r ≡ first_unmarked (length ms) marks-of (length ms) hint
    found-before (Some i) e =
        let scan = position-Some not (take hint ms) i false (sym e) in
        let short : i < hint = omega (arith, scan.0, length-take-le hint ms (omega arith)) in
        let at : (k : ℕ) → k < hint → get_or (take hint ms) k false ≡ get_or ms k false
        = λ k h. get_or-take hint ms k false h in
        found_below (length ms) marks-of hint low above i short
        (λ j _ h. has-mark j (sym (at j (omega arith)) ∙ not-false _ (scan.2 j h)))
        (cc (mark-at ms i, sym (at i short) ∙ not-true _ scan.1))
    found-before None e =
        none_found (length ms) marks-of hint low above (λ j _ h.
        has-mark j
        (sym (get_or-take hint ms j false h)
        ∙ none-without (take hint ms) (sym e) j (omega (arith, length-take-le hint ms (omega arith)))))
