-- Slices with fewer places than a marking: what is read and written there is what the marking says.
use mathlib.Core.Path.{◌≡◌, refl, sym, ap, ◌∙◌}
use mathlib.Core.Bool.{Bool, true, false}
use mathlib.Core.List.{List, [], ◌∷◌, ◌++◌, map}
use Prim.Native.Nat.{ℕ, zero, suc, ◌+◌, ◌-◌, ◌≤◌, ◌<◌}
use native.Mathlib.Omega.{arith}
use lib.Seq.{set-append_left}
use lib.ListN.{length, get_or, set, replicate, length-map, length-set, get_or-map}
use Rattle.std.proofs.lemmas.List.{map-set}
use borrow.Author.Tests.{lt-ltb, le-ltb}
use Rattle.machine.specs.Allocate.{largest_count, mark_count, mark, Marking}
use Rattle.machine.proofs.SlotRule.Marking.{mark_count-le-length, mark_count-set, room-of-mark}
use Rattle.table_search.specs.Arrays.{padded, number, marking_of, marked_of, Ready}
use Rattle.table_search.specs.Marked.{Marked, with_mark}

-- ---- One list.
abbrev zeros : ℕ → List ℕ
zeros k = replicate k 0

zeros-at : (k i : ℕ) → get_or (zeros k) i 0 ≡ 0
zeros-at zero i = refl
zeros-at (suc k) zero = refl
zeros-at (suc k) (suc i) = zeros-at k i

zeros-after : (l : List ℕ) (k i : ℕ) → get_or (l ++ zeros k) i 0 ≡ get_or l i 0
zeros-after [] k i = zeros-at k i
zeros-after (x ∷ xs) k zero = refl
zeros-after (x ∷ xs) k (suc i) = zeros-after xs k i

zeros-unmarked : (k : ℕ) → mark_count (zeros k) ≡ 0
zeros-unmarked zero = refl
zeros-unmarked (suc k) = zeros-unmarked k

marks-before : (l : List ℕ) (k : ℕ) → mark_count (l ++ zeros k) ≡ mark_count l
marks-before [] k = zeros-unmarked k
marks-before (zero ∷ xs) k = marks-before xs k
marks-before (suc x ∷ xs) k = ap suc (marks-before xs k)

pub padded-at : (l : List ℕ) (i : ℕ) → get_or (padded l) i 0 ≡ get_or l i 0
unfolding padded
padded-at l i = zeros-after l (largest_count - length l) i

padded-set : (l : List ℕ) (i v : ℕ) → i < length l → padded (set l i v) ≡ set (padded l) i v
unfolding padded
padded-set l i v h = rw (length-set l i v) (sym (set-append_left l _ i v h))

padded-count : (l : List ℕ) → mark_count (padded l) ≡ mark_count l
unfolding padded
padded-count l = marks-before l (largest_count - length l)

-- ---- The marks, as numbers.
pub mark-at : (ms : List Bool) (i : ℕ) → get_or (padded (map number ms)) i 0 ≡ number (get_or ms i false)
mark-at ms i = padded-at (map number ms) i ∙ get_or-map number ms i false

-- ---- Both lists.
module _ {ms : List Bool} {q : List ℕ} {tail : ℕ} (r : Ready ms q tail) where
  counted : mark_count (map number ms) ≡ tail
  counted = sym (padded-count (map number ms)) ∙ r.room.counted

  pub tail-in-queue : tail ≤ length q
  tail-in-queue =
      omega (arith, counted, mark_count-le-length (map number ms), length-map ms number, r.places)

  pub queued-low : (i : ℕ) → i < tail → get_or q i 0 < length ms
  queued-low i h = rw (padded-at q i) at (r.room.below i h)

  module _ (x : ℕ) (h : x < length ms) where
    x-in-marks : x < length (map number ms)
    x-in-marks = omega (arith, h, length-map ms number)

    pub mark-old : get_or ms x false ≡ true → marked_of ms q tail ≡ with_mark (marked_of ms q tail) x
    unfolding mark
    mark-old e = rw (lt-ltb x (length ms) h, mark-at ms x, e)

    module _ (e : get_or ms x false ≡ false) where
      not_marked : get_or (map number ms) x 0 ≡ 0
      not_marked = get_or-map number ms x false ∙ ap number e

      -- While a node has no mark, the queue is not full.
      pub queue-open : tail < length q
      queue-open =
          let more = mark_count-set (map number ms) x x-in-marks not_marked in
          omega (
            arith,
            counted,
            more,
            mark_count-le-length (set (map number ms) x 1),
            length-set (map number ms) x 1,
            length-map ms number,
            r.places,
          )

      marking-new : marking_of (set ms x true) (set q tail x) (tail + 1) ≡ mark (length ms) (marking_of ms q tail) x
      unfolding mark
      marking-new =
          let marked = ap padded (map-set number ms x true) ∙ padded-set (map number ms) x 1 x-in-marks in
          let queued = padded-set q tail x queue-open in
          rw (lt-ltb x (length ms) h, mark-at ms x, e, marked, queued)

      pub mark-new : marked_of (set ms x true) (set q tail x) (tail + 1) ≡ with_mark (marked_of ms q tail) x
      mark-new =
          rw (length-set ms x true) (ap (λ (m : Marking). record { nodes = length ms; marking = m }) marking-new)

      pub ready-new : Ready (set ms x true) (set q tail x) (tail + 1)
      ready-new =
          let room = room-of-mark (length ms) x _ _ marking-new r.room in
          record {
            room = rw (length-set ms x true) room;
            places = omega (arith, length-set ms x true, length-set q tail x, r.places);
          }

-- No other number is marked.
pub no_node-unmarked : (m : Marked) (x : ℕ) → m.nodes ≤ x → m ≡ with_mark m x
unfolding mark
no_node-unmarked m x h = rw (le-ltb x m.nodes h)
