-- A table whose length, header and nodes pass: its nodes as the code reads them, and where the walk may be.
use mathlib.Core.Path.{◌≡◌, sym, ap, ◌∙◌}
use mathlib.Core.List.{List}
use Prim.Native.Nat.{ℕ, ◌<◌}
use Rattle.machine.specs.Sides.{left, right}
use Rattle.machine.specs.Table.{node_count, lane_count, hat, node_part, link, value_words}
use Rattle.machine.specs.Shape.{WellLinked, sizes_of, WellSized}
use Rattle.machine.proofs.Words.Columns.{columns}
use Rattle.machine.proofs.Shape.BusyLaws.{NodeOrNone}
use Rattle.machine.proofs.Shape.ShapeLaws.{LinkShaped, well_sized, link-shaped}
use Rattle.table_layout.specs.Words.{link_in, stored_in}
use Rattle.table_layout.proofs.Laws.Views.{words-in, link-in}

module _ (ws : List ℕ) (P : WellLinked ws) where
  sizes : WellSized (sizes_of ws)
  sizes = well_sized ws P.length_passes

  shape : LinkShaped (columns ws)
  shape = link-shaped ws P

  -- ---- A node, in the nodes' words as the code has them.
  module _ {part : List ℕ} (is-part : part ≡ node_part ws) (x : ℕ) (is_node : x < node_count ws) where
    pub value_read : stored_in part x ≡ value_words ws x
    value_read = ap (λ (l : List ℕ). stored_in l x) is-part ∙ sym (words-in ws sizes.sized x is_node)

    pub link-read : link_in part right x ≡ link ws right x
    link-read = ap (λ (l : List ℕ). link_in l right x) is-part ∙ sym (link-in ws sizes.sized right x)

  -- ---- The hats.
  module _ (l : ℕ) (is_lane : l < lane_count ws) where
    pub hat-is-node : hat ws l left < node_count ws
    hat-is-node = (shape.hats-ok l left).used is_lane

  -- ---- A link is a node or none.
  pub next-in : (x : ℕ) → NodeOrNone (node_count ws) (link ws right x)
  next-in x = shape.links-ok right x

-- What the code reads of a table.
pub ruleset reads = (value_read, link-read, hat-is-node)
