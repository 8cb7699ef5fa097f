-- A lane is told by the nodes and its hat, and all lanes by each of them.
use mathlib.Core.Path.{◌≡◌, refl, ap, ◌∙◌}
use mathlib.Core.List.{List, [], ◌∷◌}
use mathlib.Core.Option.{Option, some, none, map}
use Prim.Native.Nat.{ℕ, zero, suc}
use Rattle.machine.specs.Choice.{◌≟◌, if?◌then◌else◌}
use Rattle.machine.specs.Sides.{left, right}
use Rattle.machine.specs.Values.{Value, never, bag, N, X, Y}
use Rattle.machine.specs.Tasks.{no_node}
use Rattle.machine.specs.Table.{node_count, lane_count, hat, link, value}
use Rattle.machine.specs.Calls.{lane_from, lane, lanes_below, all_lanes}

-- The lane from a node on that holds v, by the lane after it.
abbrev pub at_value : Value → Option (List ℕ) → Option (List ℕ)
at_value v rest =
    elim v as (λ _. Option (List ℕ)) [
      | never ↦ some []
      | bag b ↦ map (◌∷◌ b) rest
      | N z ↦ some []
      | X z ↦ some []
      | Y z ↦ some []
    ]

module _
    (ws vs : List ℕ)
    (nodes : node_count vs ≡ node_count ws)
    (links : link vs ≡ link ws)
    (values : value vs ≡ value ws) where
  lane-from-same : (n x : ℕ) → lane_from vs n x ≡ lane_from ws n x
  unfolding lane_from
  lane-from-same zero x = refl
  lane-from-same (suc n) x =
      let rest = (λ i. lane_from vs n (links i right x)) ∙ lane-from-same n (link ws right x) in
      λ i. if? x ≟ no_node then none else at_value (values i x) (rest i)

  pub lane-same : (l : ℕ) → hat vs l left ≡ hat ws l left → lane vs l ≡ lane ws l
  unfolding lane
  lane-same l same-hat =
      (λ i. lane_from vs (nodes i) (links i right (same-hat i)))
      ∙ lane-from-same (node_count ws) (link ws right (hat ws l left))

module _ (ws vs : List ℕ) (count : lane_count vs ≡ lane_count ws) (each : (l : ℕ) → lane vs l ≡ lane ws l) where
  below-same : (n : ℕ) → lanes_below vs n ≡ lanes_below ws n
  unfolding lanes_below
  below-same zero = refl
  below-same (suc n) = rw (below-same n, each n)

  pub lanes-same : all_lanes vs ≡ all_lanes ws
  lanes-same = ap (lanes_below vs) count ∙ below-same (lane_count ws)
