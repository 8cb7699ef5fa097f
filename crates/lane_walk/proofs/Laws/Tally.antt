-- The loop that counts: n bags are counted, the one sought was among them or not, and the walk goes on.
use mathlib.Core.Path.{◌≡◌, refl, sym, ap, ◌∙◌}
use mathlib.Core.Logic.{◌≢◌}
use mathlib.Core.Bool.{Bool, true, false, ◌||◌, or-false, or_assoc}
use mathlib.Core.List.{List, ◌∷◌}
use mathlib.Core.Option.{Option, some, none, map}
use Prim.Native.Nat.{ℕ, suc, ◌+◌, ◌-◌, ◌≤◌, ◌<◌}
use native.Mathlib.Omega.{arith}
use native.Mathlib.Nat.{add-zero, zero-add, sub-zero}
use lib.Dec.{eqb}
use lib.ListN.{length}
use Rattle.std.specs.Prelude.{Result, Ok, Err}
use Rattle.machine.specs.Sides.{left, right}
use Rattle.machine.specs.Values.{number, bag_ok}
use Rattle.machine.specs.Tasks.{no_node}
use Rattle.machine.specs.Table.{node_count, hat, link, value_words}
use Rattle.machine.specs.Calls.{is_among, lane_from, lane}
use Rattle.machine.specs.declared.refusal.Refusal.{Refusal}
use Rattle.machine.specs.declared.refusal.Refusal.TheVariants.{NoSlot}
use Rattle.lane_walk.specs.declared.Walk.{Walk}
use Rattle.lane_walk.specs.Walks.{walk_of}
use Rattle.lane_walk.proofs.Laws.Turns.{after, no-turn, no-node, no-bag, one-bag}

abbrev pub tallied : (sought n : ℕ) (found : Bool) → Option (List ℕ) → Result Walk Refusal
tallied w n found none = Err NoSlot
tallied w n found (some bags) = Ok (record { bags = n + length bags; found = found || is_among w bags })

one-tallied : (w n b : ℕ) (found : Bool) (l : Option (List ℕ))
    → tallied w (n + 1) (found || eqb w b) l ≡ tallied w n found (map (◌∷◌ b) l)
one-tallied w n b found none = refl
one-tallied w n b found (some bags) =
    let e : n + 1 + length bags ≡ n + suc (length bags) = omega arith in
    rw (e, or_assoc found (eqb w b) (is_among w bags))

module _ (ws : List ℕ) (w : ℕ) where
  pub count-begins : (l x : ℕ) → x ≡ link ws right (hat ws l left)
      → tallied w 0 false (lane_from ws (node_count ws - 0) x) ≡ walk_of w (lane ws l)
  unfolding lane
  count-begins l x first = rw (sub-zero (node_count ws), first) (go (lane ws l))
    where
      go : (l : Option (List ℕ)) → tallied w 0 false l ≡ walk_of w l
      go none = refl
      go (some bags) = rw (zero-add (length bags))

  module _ (n x : ℕ) (found : Bool) where
    -- What the walk comes to from here.
    abbrev onward : Result Walk Refusal
    onward = tallied w n found (lane_from ws (node_count ws - n) x)

    pub count-ends : node_count ws ≤ n → onward ≡ Err NoSlot
    count-ends h = ap (tallied w n found) (no-turn ws (node_count ws - n) x (omega arith))

    pub count-at-none : x ≡ no_node → onward ≡ Err NoSlot
    count-at-none e = ap (tallied w n found) (no-node ws (node_count ws - n) x e)

    module _ (turn : n < node_count ws) (node : x ≢ no_node) (is_node : x < node_count ws) where
      pub count-at-no-bag : bag_ok (value_words ws x) ≡ false → onward ≡ Ok (record { bags = n; found = found })
      count-at-no-bag h =
          ap (tallied w n found)
          (no-bag ws (node_count ws - n) (node_count ws - (n + 1)) x (omega arith) node is_node h)
          ∙ rw (add-zero n, or-false found)

      pub count-at-bag : bag_ok (value_words ws x) ≡ true
          → tallied w (n + 1) (found || eqb w (number (value_words ws x))) (after ws (node_count ws - (n + 1)) x) ≡ onward
      count-at-bag h =
          one-tallied w n (number (value_words ws x)) found (after ws (node_count ws - (n + 1)) x)
          ∙ ap (tallied w n found)
          (sym (one-bag ws (node_count ws - n) (node_count ws - (n + 1)) x (omega arith) node is_node h))

-- Where the walk ends.
pub ruleset ends = (count-ends, count-at-none, count-at-no-bag)
