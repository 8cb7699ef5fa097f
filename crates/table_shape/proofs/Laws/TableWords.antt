-- The test of a table's length, as the code comes to it, and what a table that passes it has.
use mathlib.Core.Path.{◌≡◌, ◌∙◌}
use mathlib.Core.Bool.{true, false, ◌&&◌}
use mathlib.Core.List.{List}
use Prim.Native.Nat.{ℕ, ◌+◌, ◌≤◌, ◌<◌}
use native.Mathlib.Omega.{arith}
use lib.Dec.{eqb, ltb}
use lib.ListN.{length}
use borrow.Author.Tests.{le-leb, lt-leb, lt-ltb, le-ltb}
use Rattle.machine.specs.Tasks.{no_node, record_length}
use Rattle.machine.specs.Table.{record_at, table_length, node_count, task_count, growth, lane_count, most_lanes, hat_word, hat}
use Rattle.machine.specs.Shape.{lanes_ok, sizes_ok, length_ok, sizes_of, WellSized}
use Rattle.machine.specs.Sides.{left, right}
use Rattle.table_layout.specs.Words.{HoldsHeader}
use Rattle.table_layout.proofs.Laws.HeaderWords.{hat-read}
use Rattle.table_shape.specs.Promised.{hats_ok}
use Rattle.machine.proofs.Shape.ShapeLaws.{well_sized}

abbrev least_length : ℕ
least_length = table_length 2 1

module _ (ws : List ℕ) where
  pub too_short : length ws < least_length → false ≡ length_ok ws
  too_short h = rw (lt-leb least_length (length ws) h)

  pub wrong-lanes : least_length ≤ length ws → lanes_ok (lane_count ws) ≡ false → false ≡ length_ok ws
  wrong-lanes h e = rw (le-leb least_length (length ws) h, e)

  pub wrong-sizes :
      least_length ≤ length ws
      → lanes_ok (lane_count ws) ≡ true
      → sizes_ok (node_count ws) (task_count ws) (growth ws) (lane_count ws) ≡ false
      → false ≡ length_ok ws
  wrong-sizes h f e = rw (le-leb least_length (length ws) h, f, e)

  pub right-sizes :
      least_length ≤ length ws
      → lanes_ok (lane_count ws) ≡ true
      → sizes_ok (node_count ws) (task_count ws) (growth ws) (lane_count ws) ≡ true
      → eqb (length ws) (table_length (node_count ws) (task_count ws)) ≡ length_ok ws
  right-sizes h f e = rw (le-leb least_length (length ws) h, f, e)

  -- The hats of lane l, used or not.
  module _ (l : ℕ) (is_lane : l < most_lanes) {x y : ℕ} (is-left : x ≡ hat ws l left) (is_right : y ≡ hat ws l right)
    where
      left_word : x ≡ hat_word ws l left
      left_word = is-left ∙ hat-read l is_lane left ws

      right-word : y ≡ hat_word ws l right
      right-word = is_right ∙ hat-read l is_lane right ws

      pub hats-used : {S : ℕ} → S ≡ node_count ws → l < lane_count ws → ltb x S && ltb y S ≡ hats_ok ws l
      hats-used count h = rw (left_word, right-word, count, lt-ltb l (lane_count ws) h)

      pub hats-unused : lane_count ws ≤ l → eqb x no_node && eqb y no_node ≡ hats_ok ws l
      hats-unused h = rw (left_word, right-word, le-ltb l (lane_count ws) h)

  module _ (passes : length_ok ws ≡ true) where
    Z : WellSized (sizes_of ws)
    Z = well_sized ws passes

    pub header-long : HoldsHeader ws
    header-long = let z = Z.sized in omega arith

    pub record-within : (k : ℕ) → k < task_count ws → record_at (node_count ws) k + record_length ≤ length ws
    record-within k h = let z = Z.sized in omega arith
