-- Wrong searches for a free slot: they take one to which links lead from a hat or from a register of a task.
use Rattle.std.specs.Prelude.{List, [], ◌∷◌, ◌++◌, map, ℕ, zero, suc}
use Rattle.machine.specs.Sides.{left, right}
use Rattle.machine.specs.Choice.{◌≟◌, if?◌then◌else◌}
use Rattle.machine.specs.Operations.{Operation, idle, push, pop, add, remove}
use Rattle.machine.specs.Steps.{line15, step_number}
use Rattle.machine.specs.Tasks.{Task, in_c, in_d}
use Rattle.machine.specs.Registers.{held_in}
use Rattle.machine.specs.Table.{node_count, task_count, lane_count, hat, link, task}
use Rattle.machine.specs.Allocate.{
  hats_from,
  held_by,
  held_from,
  roots,
  unmarked,
  mark_all,
  visit_from,
  largest_count,
  first_unmarked,
}
use Rattle.machine.specs.Lines.{act}
use Rattle.machine_refuted.specs.Machines.{Machine, Take, by_lines}
use Rattle.machine_refuted.specs.Judged.{lane_is_not_the_row, other_table}
use Rattle.machine_refuted.specs.Entries.{Entry, entry, begins, ticks, wholly, removed_from_push, hat_to_spur}

-- ---- "Freeing a slot when it leaves the lane while a stalled task holds it", and other takes of a slot to which a
-- chain of links leads "from a hat or any task's register".

-- The first node from the hint on that nothing of a list leads to, or none.
abbrev pub take_from : (roots : List ℕ → List ℕ) → Take
take_from roots ws hint =
    first_unmarked (node_count ws)
    (visit_from ws largest_count 0 (mark_all (node_count ws) unmarked (roots ws))).marks (node_count ws) hint

-- The hats, and what each task holds by another rule, n tasks from k on.
unfoldable pub held_from_by : (Task → List ℕ) → List ℕ → (n k : ℕ) → List ℕ
held_from_by held ws zero k = []
held_from_by held ws (suc n) k = held (task ws k) ++ held_from_by held ws n (suc k)

abbrev roots_by : (Task → List ℕ) → List ℕ → List ℕ
roots_by held ws = hats_from ws (lane_count ws) 0 ++ held_from_by held ws (task_count ws) 0

-- A or B of a push or pop does not hold.
abbrev lets_go : Operation → Task → List ℕ
lets_go push t = held_in t in_c ∷ held_in t in_d ∷ []
lets_go pop t = held_in t in_c ∷ held_in t in_d ∷ []
lets_go idle t = held_by t
lets_go add t = held_by t
lets_go remove t = held_by t

abbrev pub frees_held_node : Machine
frees_held_node = by_lines act (take_from (roots_by (λ t. lets_go t.operation t)))

-- The chain that a task has built does not hold at 15.
abbrev pub frees_chain : Machine
frees_chain =
    by_lines act (take_from (roots_by (λ t. if? step_number t.step ≟ step_number line15 then [] else held_by t)))

-- The right hat does not hold its node.
abbrev pub frees_hats_node : Machine
frees_hats_node = by_lines act (take_from (λ ws. hat ws 0 left ∷ held_from ws (task_count ws) 0))

-- Chains go along L alone: nodes and what n links to the left of them lead to.
unfoldable pub leftwards : List ℕ → (n : ℕ) → List ℕ → List ℕ
leftwards ws zero xs = xs
leftwards ws (suc n) xs = xs ++ leftwards ws n (map (link ws left) xs)

abbrev pub follows_left_alone : Machine
follows_left_alone =
    by_lines act (λ ws hint.
    first_unmarked (node_count ws) (mark_all (node_count ws) unmarked (leftwards ws (node_count ws) (roots ws))).marks
    (node_count ws) hint)

-- ---- The lists that tell them from the right machine.
abbrev pub search_entries : List Entry
search_entries =
    -- An add takes node 3, which the stalled push has in B, again as the second node of its chain; the push moves the
    -- hat past the first one, and the next bag is behind an empty node.
    -- Wrong: A node is free when it leaves the lane, though a stalled push or pop has it in A or B.
    entry frees_held_node 5 2 1
    (removed_from_push ++ begins 0 add right 2 ++ ticks 1 0 4 ++ ticks 1 0 3 ++ ticks 5 0 0 ++ ticks 1 1 0
    ++ wholly 3 0 push 52)
    (lane_is_not_the_row 34) (other_table 24)
    -- An add stalls at 15 with node 2 in D, another add takes it; spliced in twice, it leads to itself.
    -- Wrong: A node is free though an add at 15 has it in the chain that it has built.
    ∷ entry frees_chain 4 2 1
    (wholly 1 0 add 0 ++ wholly 5 1 add 0 ++ ticks 6 0 0 ++ wholly 3 0 push 51 ++ wholly 3 0 push 52)
    (lane_is_not_the_row 22) (other_table 4)
    -- Node 2 is the spare one behind the hat; it is taken again and spliced in behind itself.
    -- Wrong: A node is free though a chain of links R leads to it.
    ∷ entry follows_left_alone 4 1 1
    (wholly 5 0 add 0 ++ wholly 7 0 add 0 ++ wholly 3 0 push 51 ++ wholly 3 0 push 52)
    (lane_is_not_the_row 22) (other_table 8)
    -- Case 5 with the hat on the spur: an add takes the hat's node, and the next bag is there, beside the lane.
    -- Wrong: A node is free though the right hat is at it.
    ∷ entry frees_hats_node 5 2 1
    (hat_to_spur ++ begins 0 add right 0 ++ ticks 5 0 3 ++ wholly 3 0 push 52) (lane_is_not_the_row 38) (other_table 30)
    ∷ []
