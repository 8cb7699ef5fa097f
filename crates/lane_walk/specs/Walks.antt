-- What a walk along R finds: the bags ahead of a node, how many they are, and what a walk for a tag and one to a place
-- answer.
use Rattle.std.specs.Prelude.{List, ℕ, zero, suc, min, length, Result, Ok, Err}
use Rattle.std.proofs.Math.Option.{Option, some, none, map}
use Rattle.machine.specs.Sides.{right}
use Rattle.machine.specs.Table.{node_count, link}
use Rattle.machine.specs.Calls.{is_among, lane_from}
use Rattle.machine.specs.declared.refusal.Refusal.{Refusal}
use Rattle.machine.specs.declared.refusal.Refusal.TheVariants.{NoSlot}
use Rattle.lane_walk.specs.declared.Walk.{Walk}
use Rattle.lane_walk.specs.declared.Located.{Located}

-- The bags from node x on, in as many nodes as the table has at most. A lane is what is ahead of its first node.
abbrev pub ahead : List ℕ → (x : ℕ) → Option (List ℕ)
ahead ws x = lane_from ws (node_count ws) x

-- How many bags there are, where the walk ends.
abbrev pub count_of : Option (List ℕ) → Option ℕ
count_of = map length

-- What the walk for bag n answers.
abbrev pub walk_of : ℕ → Option (List ℕ) → Result Walk Refusal
walk_of n none = Err NoSlot
walk_of n (some bags) = Ok (record { bags = length bags; found = is_among n bags })

-- The node n links along R after node x.
unfoldable pub node_after : List ℕ → (n x : ℕ) → ℕ
node_after ws zero x = x
node_after ws (suc n) x = link ws right (node_after ws n x)

-- What the walk to a place answers, from a lane's first node.
abbrev pub located_of : List ℕ → (place first : ℕ) → Option (List ℕ) → Result Located Refusal
located_of ws place first none = Err NoSlot
located_of ws place first (some bags) =
    Ok (record { bags = length bags; node = node_after ws (min place (length bags)) first })
