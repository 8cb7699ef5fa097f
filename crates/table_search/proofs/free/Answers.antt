-- Arrays of zeros hold a marking with nothing marked.
use mathlib.Core.Path.{◌≡◌, refl, sym, ap, ◌∙◌, subst}
use mathlib.Core.Bool.{Bool, false}
use mathlib.Core.List.{List, ◌∷◌, map}
use Prim.Native.Nat.{ℕ, zero, suc, ◌+◌, ◌-◌, ◌≤◌}
use native.Mathlib.Omega.{arith}
use lib.ListN.{length, replicate, take}
use Rattle.std.proofs.lemmas.List.{take-replicate, replicate-append-replicate, length-replicate}
use Rattle.machine.specs.Allocate.{largest_count, unmarked, Room}
use Rattle.machine.proofs.SlotRule.Marking.{room-unmarked}
use Rattle.table_search.specs.Arrays.{padded, number, marking_of, Ready}
use Rattle.table_search.proofs.free.Goals as goal

zeros : (n : ℕ) → map number (replicate n false) ≡ replicate n 0
zeros zero = refl
zeros (suc n) = ap (λ (l : List ℕ). 0 ∷ l) (zeros n)

padded-zeros : (n : ℕ) → n ≤ largest_count → padded (replicate n 0) ≡ replicate largest_count 0
unfolding padded
padded-zeros n h =
    let room : n + (largest_count - n) ≡ largest_count = omega arith in
    rw (length-replicate {A = ℕ} n 0) (replicate-append-replicate n (largest_count - n) 0 ∙ ap (λ (k : ℕ). replicate k 0) room)

-- Nothing is marked of n nodes in arrays of N places.
module _ (N n : ℕ) (places : n ≤ N) (few : N ≤ largest_count) where
  none-marked : marking_of (take n (replicate N false)) (replicate N 0) 0 ≡ unmarked
  none-marked =
      rw (take-replicate n N false places, zeros n, padded-zeros n (omega arith), padded-zeros N few)

  cleared : Ready (take n (replicate N false)) (replicate N 0) 0
  cleared =
      let long : length (take n (replicate N false)) ≡ n
      = ap (λ (l : List Bool). length l) (take-replicate n N false places) ∙ length-replicate n false in
      record {
        room = subst (Room (length (take n (replicate N false)))) (sym none-marked) (room-unmarked _ (omega arith));
        places = omega (arith, length-replicate {A = ℕ} N 0);
      }

pub invariant_of-marking : goal.invariant_of-marking
invariant_of-marking g c =
    cleared g.row.N c.slots-n.result (omega (arith, c.slots-n.ensures, c.requires.places.0)) c.requires.places.1

pub first_free-requires-clause-nothing : goal.first_free-requires-clause-nothing
first_free-requires-clause-nothing g c =
    none-marked g.row.N c.slots-n.result (omega (arith, c.slots-n.ensures, c.requires.places.0)) c.requires.places.1
